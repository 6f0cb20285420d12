-- Why a broker writes a message: a verdict, or a packet, only behind the turn that gave it.
use Rattle.std.specs.Prelude.{◌≡◌, ◌⊎◌, ℕ, Bool, List, [], ◌∷◌, Option, Some, None}
use Rattle.net_model.specs.declared.state.Verdict.{Verdict}
use Rattle.net_model.specs.declared.step.BrokerStep.{BrokerStep}
use Rattle.net_model.specs.declared.step.BrokerStep.TheVariants as reply
use Rattle.vtp_session.specs.declared.act.Act.{Act}
use Rattle.vtp_server.specs.Moves.{Move, Read, Turn, Write, Tell}
use Rattle.vtp_server.specs.Speech.{IsSpelled}
use Rattle.vtp_server.specs.Talk.{Rules}
use Rattle.vtp_server.specs.declared.ask.BrokerAsk.{BrokerAsk}
use Rattle.vtp_server.specs.declared.ended.Stop.{Stop}
use Rattle.vtp_server.specs.declared.side.Next.{Next}
use Rattle.vtp_server.specs.declared.side.Next.TheVariants as next
use Rattle.vtp_server.specs.declared.speech.Speech.{Speech}
use Rattle.vtp_server.specs.declared.speech.Speech.TheVariants.{Alive, AliveTo, WhoAreYou, IAm, Answer}
use Rattle.vtp_server.specs.declared.speech.Voice.{Voice}

-- it gives no verdict
abbrev pub IsPlain : Speech → Type 0
IsPlain Alive = Unit {0}
IsPlain (AliveTo asker) = Unit {0}
IsPlain WhoAreYou = Unit {0}
IsPlain (IAm asker) = Unit {0}
IsPlain (Answer given) = ⊥

-- this is how the voice says something that gives no verdict
pub record IsPlainSpeech (voice : Voice) (payload : List ℕ) : Type 0 where
  pub speech : Speech
  pub plain : IsPlain speech
  pub moment : ℕ
  pub spelled : IsSpelled voice speech moment payload

-- a turn: its ask and reply, on how many records it acted, and how many there were afterwards
pub record LastTurn : Type 0 where
  pub asked : BrokerAsk
  pub answer : BrokerStep
  pub place : ℕ
  pub front : ℕ

abbrev pub reply_in : Option LastTurn → Option BrokerStep
reply_in (Some turn) = Some turn.answer
reply_in None = None

-- this is how the voice gives the verdict that the turn answered
pub record IsVerdictOf (voice : Voice) (last : Option LastTurn) (payload : List ℕ) : Type 0 where
  pub given : Verdict
  pub moment : ℕ
  pub spelled : IsSpelled voice (Answer given) moment payload
  pub turned : reply_in last ≡ Some (reply.Answer given)

-- this is the packet that the turn gave
pub record IsPacketOf (last : Option LastTurn) (payload : List ℕ) : Type 0 where
  pub at : ℕ
  pub identifier : List ℕ
  pub turned : reply_in last ≡ Some (reply.Packet at identifier payload)

-- each message is such, where the move before it was this turn, or no turn
abbrev pub AllWritten : Voice → Option LastTurn → List (Move BrokerAsk BrokerStep) → Type 0
AllWritten voice last [] = Unit {0}
AllWritten voice last (Read found t ∷ ms) = AllWritten voice None ms
AllWritten voice last (Turn asked answer place front ∷ ms) = AllWritten voice (Some (record { asked = asked; answer = answer; place = place; front = front })) ms
AllWritten voice last (Write payload ∷ ms) = (IsPlainSpeech voice payload ⊎ (IsVerdictOf voice last payload ⊎ IsPacketOf last payload)) × AllWritten voice None ms
AllWritten voice last (Tell line ∷ ms) = AllWritten voice None ms

-- ---- rules

-- a verdict or a packet comes next only behind the turn that gave it
abbrev pub SaysFor : Option BrokerStep → Speech → Type 0
SaysFor last (Answer given) = last ≡ Some (reply.Answer given)
SaysFor last Alive = Unit {0}
SaysFor last (AliveTo asker) = Unit {0}
SaysFor last WhoAreYou = Unit {0}
SaysFor last (IAm asker) = Unit {0}

abbrev pub ComesFor : Option BrokerStep → Next BrokerAsk Stop → Type 0
ComesFor last (next.Say speech) = SaysFor last speech
ComesFor last (next.Send identifier packet) = (at : ℕ) × (last ≡ Some (reply.Packet at identifier packet))
ComesFor last next.Read = Unit {0}
ComesFor last (next.Ask asked) = Unit {0}
ComesFor last (next.Tell line) = Unit {0}
ComesFor last (next.Over why) = Unit {0}

pub record SpeaksForTurns {S : Type 0} (rules : Rules S BrokerAsk BrokerStep Stop) : Type 0 where
  pub read : (m : S) (a : Act) (beat : Bool) (waits : ℕ) → ComesFor None (rules.after_read m a beat waits).1
  pub turn : (m : S) (answer : BrokerStep) (front waits : ℕ) → ComesFor (Some answer) (rules.after_turn m answer front waits).1
  pub write : (m : S) (waits : ℕ) → ComesFor None (rules.after_write m waits).1
  pub line : (m : S) (waits : ℕ) → ComesFor None (rules.after_line m waits).1
