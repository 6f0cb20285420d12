-- What a subscriber entered while it followed a broker, and the lines that it told.
use Rattle.std.specs.Prelude.{◌≡◌, ◌⊎◌, ℕ, ◌<◌, ◌≤◌, List, [], ◌∷◌, ◌++◌, length, Option, Some, None}
use Rattle.std.specs.Io.KnownBytes.{append_known}
use Rattle.net_model.specs.declared.note.Note.{Note}
use Rattle.net_model.specs.declared.note.Note.TheVariants.{Wrote, Acked, Refused, Accept, Done, Enter}
use Rattle.net_model.specs.declared.state.Verdict.{Verdict}
use Rattle.net_model.specs.declared.state.Verdict.TheVariants as verdict
use Rattle.net_model.specs.declared.step.SubscriberStep.{SubscriberStep}
use Rattle.net_model.specs.declared.step.SubscriberStep.TheVariants as reply
use Rattle.vtp_server.specs.ListenSide.{line_of}
use Rattle.vtp_server.specs.NodeState.{NodeState, fallen, up_with}
use Rattle.vtp_server.specs.declared.ended.Ended.{Ended}
use Rattle.vtp_server.specs.declared.ended.Ended.TheVariants as ended

-- the line of a note that enters a packet
abbrev pub entry_line : Note → List ℕ
entry_line (Enter identifier packet) = line_of identifier
entry_line (Wrote identifier packet) = []
entry_line (Acked line identifier) = []
entry_line (Refused line identifier) = []
entry_line (Accept identifier links packet) = []
entry_line (Done link identifier) = []

abbrev pub entry_lines : List Note → List ℕ
entry_lines [] = []
entry_lines (note ∷ notes) = entry_line note ++ entry_lines notes

abbrev pub IsEnter : Note → Type 0
IsEnter (Enter identifier packet) = Unit {0}
IsEnter (Wrote identifier packet) = ⊥
IsEnter (Acked line identifier) = ⊥
IsEnter (Refused line identifier) = ⊥
IsEnter (Accept identifier links packet) = ⊥
IsEnter (Done link identifier) = ⊥

abbrev pub AllEnter : List Note → Type 0
AllEnter [] = Unit {0}
AllEnter (note ∷ notes) = IsEnter note × AllEnter notes

-- ---- a turn

-- a packet is entered, and acknowledged
pub record Enters (b : NodeState) (given : Verdict) (a : NodeState) : Type 0 where
  pub identifier : List ℕ
  pub packet : List ℕ
  pub given_is : given ≡ verdict.Ack identifier
  pub after : a ≡ up_with (b.notes ++ Enter identifier packet ∷ [])

-- an end that is up takes a packet: its verdict is given, and the packet may be entered
abbrev pub TakesPacket : NodeState → SubscriberStep → NodeState → Type 0
TakesPacket b (reply.Answer given) a = (a ≡ b) ⊎ Enters b given a
TakesPacket b (reply.Down faults stopped) a = a ≡ fallen b faults
TakesPacket b reply.NoMemory a = a ≡ b

abbrev pub SaysItIsDown : ℕ → SubscriberStep → Type 0
SaysItIsDown faults (reply.Down count stopped) = count ≡ faults
SaysItIsDown faults _ = ⊥

-- what a turn does to an end that is up, or down with this count of faults
abbrev pub PacketTurn : Option ℕ → NodeState → SubscriberStep → NodeState → Type 0
PacketTurn None b answer a = TakesPacket b answer a
PacketTurn (Some faults) b answer a = SaysItIsDown faults answer × (a ≡ b)

-- ---- the whole call

-- Why the call ended, where so many packets were entered and the lines of these are missing: all that were wanted are entered
-- and told, or the end is down, or fewer are told than were wanted.
abbrev pub LeavesEntered : Ended → ℕ → NodeState → NodeState → ℕ → List ℕ → Type 0
LeavesEntered ended.Counted count b a entered missing = (entered ≡ count) × (missing ≡ []) × (a.down ≡ b.down)
LeavesEntered (ended.HubDown faults) count b a entered missing = (entered < count) × (missing ≡ []) × (a.down ≡ Some faults)
LeavesEntered ended.PeerClosed count b a entered missing = (entered < count) × (missing ≡ []) × (a.down ≡ b.down)
LeavesEntered (ended.Garbage place why) count b a entered missing = (entered < count) × (missing ≡ []) × (a.down ≡ b.down)
LeavesEntered (ended.Silent heard now) count b a entered missing = (entered < count) × (missing ≡ []) × (a.down ≡ b.down)
LeavesEntered ended.LinkFault count b a entered missing = a.down ≡ b.down
LeavesEntered ended.SinkFault count b a entered missing = a.down ≡ b.down
LeavesEntered ended.NoMemory count b a entered missing = Unit {0}
LeavesEntered (ended.Replaced newer) count b a entered missing = ⊥

-- The notes are those of before and of the packets that were entered, no more than were wanted. The sink got their lines, one
-- each, as far as they were told.
pub record HasEntered (count : ℕ) (b a : NodeState) (result : Ended) (held held_after : Option (List ℕ)) : Type 0 where
  pub entered : List Note
  pub enters : AllEnter entered
  pub notes : a.notes ≡ b.notes ++ entered
  pub few : length entered ≤ count
  pub said : List ℕ
  pub missing : List ℕ
  pub lines : said ++ missing ≡ entry_lines entered
  pub told : held_after ≡ append_known held said
  pub cause : LeavesEntered result count b a (length entered) missing
