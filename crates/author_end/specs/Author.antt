-- An author's step.
use Rattle.std.specs.Prelude.{◌≤◌, ◌<◌, List, length}
use Rattle.net_model.specs.Rules.{NodeRules}
use Rattle.net_model.specs.Steps.{Outcome, author_answer, author_next, author_write}
use Rattle.net_model.specs.declared.note.Note.{Note}
use Rattle.net_model.specs.declared.step.AuthorStep.{AuthorStep}
use Rattle.net_model.specs.declared.step.AuthorStep.TheVariants as a
use Rattle.voe_validity.specs.Judging.{IsJudged}
use Rattle.node_notes.specs.declared.config.Config.{Config}
use Rattle.node_book.specs.EndSteps.{Fate, HasRoomOf, answered, is_down, lacked_memory}
use Rattle.author_end.specs.declared.event.AuthorEvent.{AuthorEvent}
use Rattle.author_end.specs.declared.event.AuthorEvent.TheVariants.{Write, Next, Answer}

-- a packet has 1 to 1,048,576 bytes, and a line is configured
abbrev pub IsEvent : Config → AuthorEvent → Type 0
IsEvent config (Write packet) = (1 ≤ length packet) × (length packet ≤ 1048576)
IsEvent config (Next line after) = line < length config.links
IsEvent config (Answer line identifier ack) = line < length config.links

-- what the network's step says of an event
abbrev pub outcome_of : NodeRules → List Note → AuthorEvent → Outcome AuthorStep
outcome_of rules notes (Write packet) = author_write rules notes packet
outcome_of rules notes (Next line after) = author_next notes line after
outcome_of rules notes (Answer line identifier ack) = author_answer rules notes line identifier ack

-- The rules are those of this author, as far as the event goes: they judge its packet as it is, and its journal is the
-- book's.
abbrev pub AreRightFor : Config → AuthorEvent → NodeRules → Type 0
AreRightFor config (Write packet) rules = IsJudged packet (rules.judge packet) × HasRoomOf config rules
AreRightFor config (Next line after) rules = Unit {0}
AreRightFor config (Answer line identifier ack) rules = HasRoomOf config rules

-- what an answer says of the end
abbrev pub fate_of : AuthorStep → Fate
fate_of a.Wrote = answered
fate_of a.Known = answered
fate_of (a.Refused code) = answered
fate_of (a.Packet at identifier packet) = answered
fate_of a.Nothing = answered
fate_of a.Noted = answered
fate_of a.Passed = answered
fate_of a.Full = answered
fate_of (a.Down faults stopped) = is_down faults stopped
fate_of a.NoMemory = lacked_memory
