-- A broker's step.
use Rattle.std.specs.Prelude.{◌≡◌, ◌≤◌, ◌<◌, ◌↔◌, ℕ, Bool, true, false, IsTrue, List, Option, Some, length, map, slice_get}
use Rattle.sha1.specs.Sha1.{sha1}
use Rattle.net_model.specs.Notes.{knows}
use Rattle.net_model.specs.Rules.{NodeRules}
use Rattle.net_model.specs.Steps.{Outcome, Reply, broker_acked, broker_join, broker_live, broker_next, broker_packet, last_of, says}
use Rattle.net_model.specs.declared.note.Note.{Note}
use Rattle.net_model.specs.declared.note.Note.TheVariants.{Accept}
use Rattle.net_model.specs.declared.step.BrokerStep.{BrokerStep}
use Rattle.net_model.specs.declared.step.BrokerStep.TheVariants as b
use Rattle.net_model.specs.declared.step.Judged.TheVariants.{Good}
use Rattle.voe_validity.specs.Judging.{IsJudged}
use Rattle.node_notes.specs.declared.config.Config.{Config}
use Rattle.node_notes.specs.declared.config.LinkConfig.{LinkConfig}
use Rattle.path_filter.specs.Sets.{BytesPass, Filters}
use Rattle.path_filter.specs.Links.{PassesLinks}
use Rattle.node_book.specs.Ends.{EndView, after_step, with_sessions}
use Rattle.node_book.specs.EndSteps.{Fate, HasRoomOf, answered, is_down, lacked_memory}
use Rattle.broker_end.specs.declared.event.BrokerEvent.{BrokerEvent}
use Rattle.broker_end.specs.declared.event.BrokerEvent.TheVariants.{Packet, Join, Next, Acked, Live}
use Rattle.broker_end.specs.declared.event.Way.{Way}
use Rattle.broker_end.specs.declared.event.Way.TheVariants.{Line, Link}

-- a packet has 1 to 1,048,576 bytes, a link is configured, and a session is not above its link's last
abbrev pub IsEvent : Config → List ℕ → BrokerEvent → Type 0
IsEvent config sessions (Packet from packet) = (1 ≤ length packet) × (length packet ≤ 1048576)
IsEvent config sessions (Join name) = Unit {0}
IsEvent config sessions (Next link session after) = (link < length config.links) × (session ≤ last_of sessions link)
IsEvent config sessions (Acked link session identifier) = (link < length config.links) × (session ≤ last_of sessions link)
IsEvent config sessions (Live after filters) = Unit {0}

abbrev pub is_line : Way → Bool
is_line Line = true
is_line Link = false

-- the names of the links
abbrev pub names_of : List LinkConfig → List (List ℕ)
names_of links = map (λ link. link.name) links

-- the answer to a packet, as a broker gives it
abbrev pub replies : Reply → Outcome BrokerStep
replies reply = record { added = reply.added; answer = b.Answer reply.answer }

-- What the network's step says of an event, where `shows` are the packets that a guest's filters pass.
abbrev pub outcome_of : NodeRules → (List ℕ → Bool) → Config → List Note → List ℕ → BrokerEvent → Outcome BrokerStep
outcome_of rules shows config notes sessions (Packet from packet) = replies (broker_packet rules (length config.links) notes (is_line from) packet)
outcome_of rules shows config notes sessions (Join name) = says (broker_join (names_of config.links) notes sessions name).answer
outcome_of rules shows config notes sessions (Next link session after) = broker_next notes sessions link session after
outcome_of rules shows config notes sessions (Acked link session identifier) = broker_acked rules notes sessions link session identifier
outcome_of rules shows config notes sessions (Live after filters) = broker_live notes after shows

-- the last sessions after an event
abbrev pub sessions_after : Config → List Note → List ℕ → BrokerEvent → List ℕ
sessions_after config notes sessions (Packet from packet) = sessions
sessions_after config notes sessions (Join name) = (broker_join (names_of config.links) notes sessions name).sessions
sessions_after config notes sessions (Next link session after) = sessions
sessions_after config notes sessions (Acked link session identifier) = sessions
sessions_after config notes sessions (Live after filters) = sessions

-- digests are SHA-1 (FIPS 180-4)
abbrev pub HasDigests : NodeRules → Type 0
HasDigests rules = (bytes : List ℕ) → rules.digest_of bytes ≡ sha1 bytes

-- The rules are those of this broker, as far as a packet goes: they judge it as it is, digests are SHA-1, the journal is
-- the book's, and where the packet is good and new they pass it over exactly those links whose filters do.
pub record AreRightForPacket (config : Config) (notes : List Note) (packet : List ℕ) (rules : NodeRules) : Type 0 where
  pub judge : IsJudged packet (rules.judge packet)
  pub digest_of : HasDigests rules
  pub has_room : HasRoomOf config rules
  pub passes : (identifier : List ℕ) → rules.judge packet ≡ Good identifier → knows notes identifier ≡ false → PassesLinks config.links packet rules

-- the test passes, of the packets that the notes accepted, exactly those that the filters pass
abbrev pub IsShownBy : List Note → Filters → (List ℕ → Bool) → Type 0
IsShownBy notes filters shows = (place : ℕ) (identifier packet links : List ℕ) → slice_get notes place ≡ Some (Accept identifier links packet)
    → IsTrue (shows packet) ↔ BytesPass filters packet

-- what the network's step is told of an event is so
abbrev pub AreRightFor : Config → List Note → BrokerEvent → NodeRules → (List ℕ → Bool) → Type 0
AreRightFor config notes (Packet from packet) rules shows = AreRightForPacket config notes packet rules
AreRightFor config notes (Join name) rules shows = Unit {0}
AreRightFor config notes (Next link session after) rules shows = Unit {0}
AreRightFor config notes (Acked link session identifier) rules shows = HasRoomOf config rules
AreRightFor config notes (Live after filters) rules shows = IsShownBy notes filters shows

-- what an answer says of the end
abbrev pub fate_of : BrokerStep → Fate
fate_of (b.Answer verdict) = answered
fate_of (b.Joined link session) = answered
fate_of (b.Guest after) = answered
fate_of (b.Packet at identifier packet) = answered
fate_of b.Nothing = answered
fate_of b.Noted = answered
fate_of b.Passed = answered
fate_of b.Full = answered
fate_of (b.Replaced newer) = answered
fate_of (b.Down faults stopped) = is_down faults stopped
fate_of b.NoMemory = lacked_memory

-- there are such rules
abbrev pub HasRules : Config → List Note → BrokerEvent → Type 0
HasRules config notes (Packet from packet) = (rules : NodeRules) × AreRightForPacket config notes packet rules
HasRules config notes (Join name) = Unit {0}
HasRules config notes (Next link session after) = Unit {0}
HasRules config notes (Acked link session identifier) = Unit {0}
HasRules config notes (Live after filters) = Unit {0}

-- the note accepts a packet that the filters pass
abbrev pub IsShown : Filters → Option Note → Type 0
IsShown filters (Some (Accept identifier links packet)) = BytesPass filters packet
IsShown filters _ = ⊥

-- no note at these places accepts such a packet
abbrev pub NoneIsShown : List Note → Filters → ℕ → ℕ → Type 0
NoneIsShown notes filters from until = (place : ℕ) → from ≤ place → place < until → IsShown filters (slice_get notes place) → ⊥

-- What a guest is answered: the first packet at or past a place that its filters pass, and nothing exactly where there is none.
abbrev pub IsLiveAnswer : List Note → ℕ → Filters → BrokerStep → Type 0
IsLiveAnswer notes after filters (b.Packet at identifier packet) =
    (after ≤ at) × (links : List ℕ) × (slice_get notes at ≡ Some (Accept identifier links packet)) × BytesPass filters packet × NoneIsShown notes filters after at
IsLiveAnswer notes after filters b.Nothing = NoneIsShown notes filters after (length notes)
IsLiveAnswer notes after filters (b.Down faults stopped) = ⊥
IsLiveAnswer notes after filters b.NoMemory = Unit {0}
IsLiveAnswer notes after filters (b.Answer verdict) = ⊥
IsLiveAnswer notes after filters (b.Joined link session) = ⊥
IsLiveAnswer notes after filters (b.Guest place) = ⊥
IsLiveAnswer notes after filters b.Noted = ⊥
IsLiveAnswer notes after filters b.Passed = ⊥
IsLiveAnswer notes after filters b.Full = ⊥
IsLiveAnswer notes after filters (b.Replaced newer) = ⊥

-- the same of whatever event, which says nothing of other events
abbrev pub IsPlain : List Note → BrokerEvent → BrokerStep → Type 0
IsPlain notes (Live after filters) answer = IsLiveAnswer notes after filters answer
IsPlain notes (Packet from packet) answer = Unit {0}
IsPlain notes (Join name) answer = Unit {0}
IsPlain notes (Next link session after) answer = Unit {0}
IsPlain notes (Acked link session identifier) answer = Unit {0}

-- What only asks leaves all as it was, whatever it is answered: a step more is counted, and `Join` may begin a session.
abbrev pub LeavesAll : {D : Type 0} → EndView D → EndView D → BrokerEvent → Type 0
LeavesAll old new (Packet from packet) = Unit {0}
LeavesAll old new (Join name) = new ≡ with_sessions (after_step old) new.sessions
LeavesAll old new (Next link session after) = new ≡ after_step old
LeavesAll old new (Acked link session identifier) = Unit {0}
LeavesAll old new (Live after filters) = new ≡ after_step old

-- a packet that the note accepts has few enough bytes to be read
abbrev pub IsShort : Note → Type 0
IsShort (Accept identifier links packet) = length packet ≤ 1048576
IsShort _ = Unit {0}
