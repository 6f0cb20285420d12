-- A subscriber's step.
use Rattle.std.specs.Prelude.{◌≤◌, List, length}
use Rattle.net_model.specs.Rules.{NodeRules}
use Rattle.net_model.specs.Steps.{Outcome, Reply, subscriber_packet}
use Rattle.net_model.specs.declared.note.Note.{Note}
use Rattle.net_model.specs.declared.step.SubscriberStep.{SubscriberStep}
use Rattle.net_model.specs.declared.step.SubscriberStep.TheVariants.{Answer, Down, NoMemory}
use Rattle.voe_validity.specs.Judging.{IsJudged}
use Rattle.node_notes.specs.declared.config.Config.{Config}
use Rattle.node_book.specs.EndSteps.{Fate, HasRoomOf, answered, is_down, lacked_memory}
use Rattle.subscriber_end.specs.declared.event.SubscriberEvent.{SubscriberEvent}
use Rattle.subscriber_end.specs.declared.event.SubscriberEvent.TheVariants.{Packet}

-- a packet has 1 to 1,048,576 bytes
abbrev pub IsEvent : SubscriberEvent → Type 0
IsEvent (Packet packet) = (1 ≤ length packet) × (length packet ≤ 1048576)

-- the answer to a packet, as a subscriber gives it
abbrev pub replies : Reply → Outcome SubscriberStep
replies reply = record { added = reply.added; answer = Answer reply.answer }

-- what the network's step says of an event
abbrev pub outcome_of : NodeRules → List Note → SubscriberEvent → Outcome SubscriberStep
outcome_of rules notes (Packet packet) = replies (subscriber_packet rules notes packet)

-- The rules are those of this subscriber, as far as the event goes: they judge its packet as it is, and its journal is the
-- book's.
abbrev pub AreRightFor : Config → SubscriberEvent → NodeRules → Type 0
AreRightFor config (Packet packet) rules = IsJudged packet (rules.judge packet) × HasRoomOf config rules

-- what an answer says of the end
abbrev pub fate_of : SubscriberStep → Fate
fate_of (Answer verdict) = answered
fate_of (Down faults stopped) = is_down faults stopped
fate_of NoMemory = lacked_memory
