-- Which sides give a verdict or a packet only behind the turn that gave it, and what their talks write.
use Rattle.std.proofs.Common.{◌≡◌, ◌⊎◌, ℕ, Bool, true, false, cond, List, [], ◌∷◌, Some, None, refl, sym, ap, ◌∙◌, subst, inl, inr}
use Rattle.std.specs.Prelude.{Option, ◌||◌, nat_le}
use Rattle.net_model.specs.declared.step.BrokerStep.{BrokerStep}
use Rattle.net_model.specs.declared.step.BrokerStep.TheVariants as reply
use Rattle.vtp_session.specs.declared.act.Act.{Act}
use Rattle.vtp_session.specs.declared.act.Act.TheVariants as act
use Rattle.vtp_server.specs.FeedMemory.{FeedMemory, placed}
use Rattle.vtp_server.specs.FeedSide.{asks_by, asks_or_reads, becomes_guest, feed_after_answer, feed_after_read, feed_after_turn, feed_goes_on, feed_rules}
use Rattle.vtp_server.specs.LineSide.{line_after_read, line_after_turn, line_goes_on, line_rules}
use Rattle.vtp_server.specs.Moves.{Move, Read, Turn, Write, Tell}
use Rattle.vtp_server.specs.Speech.{IsSpelled}
use Rattle.vtp_server.specs.TakeSide.{take_after_read, take_after_turn, take_rules}
use Rattle.vtp_server.specs.Talk.{Course, MayCome, Rules, Says, Talk, Terms, course_after_move}
use Rattle.vtp_server.specs.Written.{AllWritten, ComesFor, IsPacketOf, IsPlainSpeech, IsVerdictOf, LastTurn, SaysFor, SpeaksForTurns, reply_in}
use Rattle.vtp_server.specs.declared.ask.BrokerAsk.{BrokerAsk}
use Rattle.vtp_server.specs.declared.ended.Stop.{Stop}
use Rattle.vtp_server.specs.declared.feed.Peer.{Peer}
use Rattle.vtp_server.specs.declared.feed.Peer.TheVariants.{Stranger, Guest, Linked}
use Rattle.vtp_server.specs.declared.line.Line.{Line}
use Rattle.vtp_server.specs.declared.side.Next.{Next}
use Rattle.vtp_server.specs.declared.side.Next.TheVariants as next
use Rattle.vtp_server.specs.declared.speech.Speech.{Speech}
use Rattle.vtp_server.specs.declared.speech.Speech.TheVariants.{Alive, AliveTo, WhoAreYou, IAm, Answer}

-- ---- the talk

module _ {S : Type 0} (terms : Terms) (rules : Rules S BrokerAsk BrokerStep Stop) (speaks : SpeaksForTurns rules) where
  said_for : (last : Option LastTurn) (speech : Speech) (moment : ℕ) (payload : List ℕ) → SaysFor (reply_in last) speech → IsSpelled terms.voice speech moment payload → IsPlainSpeech terms.voice payload ⊎ (IsVerdictOf terms.voice last payload ⊎ IsPacketOf last payload)
  said_for last Alive moment payload h k = inl (record { speech = Alive; plain = tt; moment = moment; spelled = k })
  said_for last (AliveTo asker) moment payload h k = inl (record { speech = AliveTo asker; plain = tt; moment = moment; spelled = k })
  said_for last WhoAreYou moment payload h k = inl (record { speech = WhoAreYou; plain = tt; moment = moment; spelled = k })
  said_for last (IAm asker) moment payload h k = inl (record { speech = IAm asker; plain = tt; moment = moment; spelled = k })
  said_for last (Answer given) moment payload h k = inr (inl (record { given = given; moment = moment; spelled = k; turned = h }))

  written_for : (last : Option LastTurn) (n : Next BrokerAsk Stop) (moment : ℕ) (payload : List ℕ) → ComesFor (reply_in last) n → Says terms n moment payload → IsPlainSpeech terms.voice payload ⊎ (IsVerdictOf terms.voice last payload ⊎ IsPacketOf last payload)
  written_for last (next.Say speech) moment payload h k = said_for last speech moment payload h k
  written_for last (next.Send identifier packet) moment payload h k = inr (inr (record { at = h.0; identifier = identifier; turned = h.1 ∙ ap (λ (p : List ℕ). Some (reply.Packet h.0 identifier p)) (sym k) }))
  written_for last next.Read moment payload h k = absurd k
  written_for last (next.Ask asked) moment payload h k = absurd k
  written_for last (next.Tell line) moment payload h k = absurd k
  written_for last (next.Over why) moment payload h k = absurd k

  pub all_written : (last : Option LastTurn) (c : Course S BrokerAsk Stop) (moves : List (Move BrokerAsk BrokerStep)) → ComesFor (reply_in last) c.next → Talk terms rules c moves → AllWritten terms.voice last moves
  all_written last c [] h talk = tt
  all_written last c (Read found t ∷ ms) h talk = all_written None (course_after_move terms rules c (Read found t)) ms (speaks.read _ _ _ _) talk.1
  all_written last c (Turn asked answer place front ∷ ms) h talk = all_written (Some (record { asked = asked; answer = answer; place = place; front = front })) (course_after_move terms rules c (Turn asked answer place front)) ms (speaks.turn _ _ _ _) talk.1
  all_written last c (Write payload ∷ ms) h talk = (written_for last c.next c.watch.latest payload h talk.0.0, all_written None (course_after_move terms rules c (Write payload)) ms (speaks.write _ _) talk.1)
  all_written last c (Tell line ∷ ms) h talk = all_written None (course_after_move terms rules c (Tell line)) ms (speaks.line _ _) talk.1

-- ---- choices

either_for : {M : Type 0} (last : Option BrokerStep) (b : Bool) (x y : M × Next BrokerAsk Stop) → ComesFor last x.1 → ComesFor last y.1 → ComesFor last (cond b x y).1
either_for last true x y h k = h
either_for last false x y h k = k

either_next : (last : Option BrokerStep) (b : Bool) (x y : Next BrokerAsk Stop) → ComesFor last x → ComesFor last y → ComesFor last (cond b x y)
either_next last true x y h k = h
either_next last false x y h k = k

-- ---- an author's line

line_on : (last : Option BrokerStep) (m : Line) → ComesFor last (line_goes_on m).1
line_on last m = either_for last m.owes_beat (record { owes_beat = false }, next.Say Alive) (m, next.Read) tt tt

line_reads : (m : Line) (a : Act) → ComesFor None (line_after_read m a).1
line_reads m (act.Packet packet) = tt
line_reads m act.Nothing = line_on None m
line_reads m (act.Answer at identifier ack why) = line_on None m
line_reads m (act.Auth name filters) = line_on None m
line_reads m (act.Challenge asker) = line_on None m
line_reads m (act.Beat asker) = line_on None m
line_reads m act.Pass = line_on None m
line_reads m (act.Garbage place why) = line_on None m

line_turns : (m : Line) (r : BrokerStep) → ComesFor (Some r) (line_after_turn m r).1
line_turns m (reply.Answer verdict) = refl
line_turns m (reply.Replaced newer) = tt
line_turns m (reply.Down faults stopped) = tt
line_turns m reply.NoMemory = tt
line_turns m (reply.Joined link session) = line_on (Some (reply.Joined link session)) m
line_turns m (reply.Guest after) = line_on (Some (reply.Guest after)) m
line_turns m (reply.Packet at identifier packet) = line_on (Some (reply.Packet at identifier packet)) m
line_turns m reply.Nothing = line_on (Some reply.Nothing) m
line_turns m reply.Noted = line_on (Some reply.Noted) m
line_turns m reply.Passed = line_on (Some reply.Passed) m
line_turns m reply.Full = line_on (Some reply.Full) m

pub line_speaks : SpeaksForTurns line_rules
line_speaks = record {
  read = λ m a beat waits. line_reads (record { owes_beat = beat }) a;
  turn = λ m r front waits. line_turns m r;
  write = λ m waits. line_on None m;
  line = λ m waits. line_on None m;
}

-- ---- a broker that is followed

take_reads : (a : Act) → ComesFor None (take_after_read a)
take_reads (act.Packet packet) = tt
take_reads (act.Beat asker) = tt
take_reads (act.Challenge asker) = tt
take_reads act.Nothing = tt
take_reads (act.Answer at identifier ack why) = tt
take_reads (act.Auth name filters) = tt
take_reads act.Pass = tt
take_reads (act.Garbage place why) = tt

take_turns : (r : BrokerStep) → ComesFor (Some r) (take_after_turn r)
take_turns (reply.Answer verdict) = refl
take_turns (reply.Replaced newer) = tt
take_turns (reply.Down faults stopped) = tt
take_turns reply.NoMemory = tt
take_turns (reply.Joined link session) = tt
take_turns (reply.Guest after) = tt
take_turns (reply.Packet at identifier packet) = tt
take_turns reply.Nothing = tt
take_turns reply.Noted = tt
take_turns reply.Passed = tt
take_turns reply.Full = tt

pub take_speaks : SpeaksForTurns take_rules
take_speaks = record {
  read = λ m a beat waits. take_reads a;
  turn = λ m r front waits. take_turns r;
  write = λ m waits. tt;
  line = λ m waits. tt;
}

-- ---- a subscriber that is fed

feed_on : (last : Option BrokerStep) (m : FeedMemory) (waits : ℕ) → ComesFor last (feed_goes_on m waits).1
feed_on last m waits =
    either_for last m.owes_beat (record m { owes_beat = false }, next.Say Alive) (m, asks_or_reads m waits) tt
    (either_next last (m.found_nothing || nat_le m.limit waits) next.Read (next.Ask (asks_by m.peer m.from)) tt tt)

feed_answers : (m : FeedMemory) (peer : Peer) (identifier : List ℕ) (ack : Bool) (waits : ℕ) → ComesFor None (feed_after_answer m peer identifier ack waits).1
feed_answers m (Linked link session) identifier true waits = tt
feed_answers m (Linked link session) identifier false waits = feed_on None m waits
feed_answers m Stranger identifier ack waits = feed_on None m waits
feed_answers m (Guest filters) identifier ack waits = feed_on None m waits

feed_reads : (m : FeedMemory) (a : Act) (waits : ℕ) → ComesFor None (feed_after_read m a waits).1
feed_reads m (act.Auth name filters) waits = tt
feed_reads m (act.Answer at identifier ack why) waits = feed_answers m m.peer identifier ack waits
feed_reads m (act.Packet packet) waits = feed_on None m waits
feed_reads m act.Nothing waits = feed_on None m waits
feed_reads m (act.Challenge asker) waits = feed_on None m waits
feed_reads m (act.Beat asker) waits = feed_on None m waits
feed_reads m act.Pass waits = feed_on None m waits
feed_reads m (act.Garbage place why) waits = feed_on None m waits

feed_turns : (m : FeedMemory) (r : BrokerStep) (front waits : ℕ) → ComesFor (Some r) (feed_after_turn m r front waits).1
feed_turns m (reply.Joined link session) front waits = feed_on (Some (reply.Joined link session)) (placed m (Linked link session) 0) waits
feed_turns m (reply.Guest after) front waits = feed_on (Some (reply.Guest after)) _ waits
feed_turns m (reply.Packet at identifier packet) front waits = (at, refl)
feed_turns m reply.Nothing front waits = feed_on (Some reply.Nothing) (becomes_guest m m.peer front) waits
feed_turns m (reply.Replaced newer) front waits = tt
feed_turns m (reply.Down faults stopped) front waits = tt
feed_turns m reply.NoMemory front waits = tt
feed_turns m (reply.Answer verdict) front waits = feed_on (Some (reply.Answer verdict)) m waits
feed_turns m reply.Noted front waits = feed_on (Some reply.Noted) m waits
feed_turns m reply.Passed front waits = feed_on (Some reply.Passed) m waits
feed_turns m reply.Full front waits = feed_on (Some reply.Full) m waits

pub feed_speaks : SpeaksForTurns feed_rules
feed_speaks = record {
  read = λ m a beat waits. feed_reads (record m { owes_beat = beat; found_nothing = false }) a waits;
  turn = λ m r front waits. feed_turns m r front waits;
  write = λ m waits. feed_on None m waits;
  line = λ m waits. feed_on None m waits;
}
