-- What becomes of a line's first unanswered packet.
use Rattle.std.specs.Prelude.{◌≡◌, ◌⊎◌, ℕ, Bool, true, false, List, [], ◌∷◌, ◌++◌, Option, Some, None}
use Rattle.net_model.specs.Notes.{first_from, is_open, offer, to_send}
use Rattle.net_model.specs.Steps.{answer_note}
use Rattle.net_model.specs.declared.note.Note.{Note}
use Rattle.net_model.specs.declared.step.AuthorStep.{AuthorStep}
use Rattle.net_model.specs.declared.step.AuthorStep.TheVariants as reply
use Rattle.vtp_server.specs.Moves.{Move, Read, Turn, Write, Tell}
use Rattle.vtp_server.specs.NodeState.{NodeState, fallen, up_with}
use Rattle.vtp_server.specs.declared.author.AuthorAsk.{AuthorAsk}
use Rattle.vtp_server.specs.declared.author.AuthorAsk.TheVariants as ask
use Rattle.vtp_server.specs.declared.ended.Ended.{Ended}
use Rattle.vtp_server.specs.declared.ended.Ended.TheVariants as ended
use Rattle.vtp_server.specs.declared.ended.Submitted.{Submitted}
use Rattle.vtp_server.specs.declared.ended.Submitted.TheVariants as submitted

-- whether a journal with these notes has room for this one
abbrev pub Room : Type 0
Room = List Note → Note → Bool

-- the line's first unanswered packet has this identifier
pub record IsFirst (line : ℕ) (notes : List Note) (identifier : List ℕ) : Type 0 where
  pub at : ℕ
  pub packet : List ℕ
  pub is : first_from (to_send notes line) 0 0 notes ≡ Some (at, offer identifier packet)

-- the line has none
abbrev pub HasNone : ℕ → List Note → Type 0
HasNone line notes = first_from (to_send notes line) 0 0 notes ≡ None

-- the end once an answer is recorded
abbrev pub with_answer : ℕ → NodeState → Bool → List ℕ → NodeState
with_answer line b ack identifier = up_with (b.notes ++ answer_note ack line identifier ∷ [])

-- ---- a turn of the line

-- an end that is up looks for the first unanswered packet at or past a place
abbrev pub Looks : ℕ → NodeState → ℕ → AuthorStep → NodeState → Type 0
Looks line b after (reply.Packet at identifier packet) a = (first_from (to_send b.notes line) after 0 b.notes ≡ Some (at, offer identifier packet)) × (a ≡ b)
Looks line b after reply.Nothing a = (first_from (to_send b.notes line) after 0 b.notes ≡ None) × (a ≡ b)
Looks line b after reply.NoMemory a = a ≡ b
Looks line b after (reply.Down faults stopped) a = ⊥
Looks line b after reply.Noted a = ⊥
Looks line b after reply.Passed a = ⊥
Looks line b after reply.Full a = ⊥
Looks line b after reply.Wrote a = ⊥
Looks line b after reply.Known a = ⊥
Looks line b after (reply.Refused code) a = ⊥

-- an end that is up hears an answer
abbrev pub Settles : ℕ → Room → NodeState → List ℕ → Bool → AuthorStep → NodeState → Type 0
Settles line room b identifier ack reply.Noted a = (is_open b.notes line identifier ≡ true) × (a ≡ with_answer line b ack identifier)
Settles line room b identifier ack reply.Full a = (is_open b.notes line identifier ≡ true) × (room b.notes (answer_note ack line identifier) ≡ false) × (a ≡ b)
Settles line room b identifier ack reply.Passed a = (is_open b.notes line identifier ≡ false) × (a ≡ b)
Settles line room b identifier ack (reply.Down faults stopped) a = (is_open b.notes line identifier ≡ true) × (a ≡ fallen b faults)
Settles line room b identifier ack reply.NoMemory a = a ≡ b
Settles line room b identifier ack (reply.Packet at own packet) a = ⊥
Settles line room b identifier ack reply.Nothing a = ⊥
Settles line room b identifier ack reply.Wrote a = ⊥
Settles line room b identifier ack reply.Known a = ⊥
Settles line room b identifier ack (reply.Refused code) a = ⊥

abbrev pub SaysDown : ℕ → AuthorStep → Type 0
SaysDown faults (reply.Down count stopped) = count ≡ faults
SaysDown faults _ = ⊥

-- what a turn does to an end that is up, or down with this count of faults
abbrev pub LineTurn : Option ℕ → ℕ → Room → NodeState → AuthorAsk → AuthorStep → NodeState → Type 0
LineTurn None line room b (ask.Next after) answer a = Looks line b after answer a
LineTurn None line room b (ask.Answer identifier ack) answer a = Settles line room b identifier ack answer a
LineTurn (Some faults) line room b asked answer a = SaysDown faults answer × (a ≡ b)

-- ---- the whole call

-- the end was up, and its line's first unanswered packet was sent
pub record IsTried (line : ℕ) (b : NodeState) (identifier : List ℕ) : Type 0 where
  pub up : b.down ≡ None
  pub first : IsFirst line b.notes identifier

-- the answer to the packet is recorded
pub record IsRecorded (line : ℕ) (b : NodeState) (ack : Bool) (identifier : List ℕ) (a : NodeState) : Type 0 where
  pub tried : IsTried line b identifier
  pub after : a ≡ with_answer line b ack identifier

-- an answer came, and the journal has no room for its note
pub record IsFull (line : ℕ) (room : Room) (b a : NodeState) : Type 0 where
  pub identifier : List ℕ
  pub ack : Bool
  pub tried : IsTried line b identifier
  pub no_room : room b.notes (answer_note ack line identifier) ≡ false
  pub same : a ≡ b

-- the packet was sent, and no answer was recorded
pub record IsLeft (line : ℕ) (b a : NodeState) : Type 0 where
  pub identifier : List ℕ
  pub tried : IsTried line b identifier
  pub same : a ≡ b

-- the disk has failed while an answer was recorded
pub record IsFallen (line : ℕ) (b : NodeState) (faults : ℕ) (a : NodeState) : Type 0 where
  pub identifier : List ℕ
  pub tried : IsTried line b identifier
  pub after : a ≡ fallen b faults

-- an answer was recorded, whichever
pub record HasAnswer (line : ℕ) (b a : NodeState) : Type 0 where
  pub identifier : List ℕ
  pub ack : Bool
  pub recorded : IsRecorded line b ack identifier a

-- the end is as it was, its disk has failed, or the answer is recorded
abbrev pub IsAnyhow : ℕ → NodeState → NodeState → Type 0
IsAnyhow line b a = (a ≡ b) ⊎ (((faults : ℕ) × IsFallen line b faults a) ⊎ HasAnswer line b a)

-- why a submission ended before the answer was recorded, and how the end is left
abbrev pub LeavesLine : ℕ → NodeState → Ended → NodeState → Type 0
LeavesLine line b (ended.HubDown faults) a = ((b.down ≡ Some faults) × (a ≡ b)) ⊎ IsFallen line b faults a
LeavesLine line b ended.PeerClosed a = IsLeft line b a
LeavesLine line b (ended.Garbage place why) a = IsLeft line b a
LeavesLine line b (ended.Silent heard now) a = IsLeft line b a
LeavesLine line b ended.LinkFault a = IsLeft line b a
LeavesLine line b ended.NoMemory a = IsAnyhow line b a
LeavesLine line b ended.Counted a = ⊥
LeavesLine line b (ended.Replaced newer) a = ⊥
LeavesLine line b ended.SinkFault a = ⊥

-- What is told of the packet, and how the end is left: an acknowledgement or a refusal where it is recorded, nothing where the
-- line has no unanswered packet.
abbrev pub IsToldOf : ℕ → Room → NodeState → Submitted → NodeState → Type 0
IsToldOf line room b (submitted.Ack identifier) a = IsRecorded line b true identifier a
IsToldOf line room b (submitted.Nak why) a = (identifier : List ℕ) × IsRecorded line b false identifier a
IsToldOf line room b submitted.Nothing a = (b.down ≡ None) × HasNone line b.notes × (a ≡ b)
IsToldOf line room b submitted.Full a = IsFull line room b a
IsToldOf line room b (submitted.Ended why) a = LeavesLine line b why a

-- an end that is up, and whose line has no unanswered packet, is told so, but for want of memory
abbrev pub IsNothingTold : Submitted → Type 0
IsNothingTold submitted.Nothing = Unit {0}
IsNothingTold (submitted.Ended ended.NoMemory) = Unit {0}
IsNothingTold _ = ⊥

-- ---- the turns of the call

-- the replies that come: neither those to a packet that is written, nor one that says that nothing was open under the answer
abbrev pub IsExpected : AuthorStep → Type 0
IsExpected (reply.Packet at identifier packet) = Unit {0}
IsExpected reply.Nothing = Unit {0}
IsExpected reply.Noted = Unit {0}
IsExpected reply.Full = Unit {0}
IsExpected (reply.Down faults stopped) = Unit {0}
IsExpected reply.NoMemory = Unit {0}
IsExpected reply.Passed = ⊥
IsExpected reply.Wrote = ⊥
IsExpected reply.Known = ⊥
IsExpected (reply.Refused code) = ⊥

abbrev pub AllExpected : List (Move AuthorAsk AuthorStep) → Type 0
AllExpected [] = Unit {0}
AllExpected (Turn asked answer place front ∷ ms) = IsExpected answer × AllExpected ms
AllExpected (Read found t ∷ ms) = AllExpected ms
AllExpected (Write payload ∷ ms) = AllExpected ms
AllExpected (Tell text ∷ ms) = AllExpected ms
