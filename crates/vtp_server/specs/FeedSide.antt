-- What a broker does towards a subscriber: it asks who the peer is, and gives it packets, a limited number of them
-- unanswered. A peer under the name of a link has that link's session; any other one is a guest.
use Rattle.std.specs.Prelude.{ℕ, ◌+◌, ◌-◌, ◌^◌, min, nat_le, Bool, true, false, List, [], if◌then◌else◌, ◌||◌}
use Rattle.xml_lexer.specs.Characters.{Text}
use Rattle.net_model.specs.declared.step.BrokerStep.{BrokerStep}
use Rattle.net_model.specs.declared.step.BrokerStep.TheVariants as reply
use Rattle.vtp_session.specs.declared.act.Act.{Act}
use Rattle.vtp_session.specs.declared.act.Act.TheVariants as act
use Rattle.vtp_server.specs.Talk.{Rules}
use Rattle.vtp_server.specs.declared.side.Next.{Next}
use Rattle.vtp_server.specs.declared.side.Next.TheVariants as next
use Rattle.vtp_server.specs.declared.speech.Speech.TheVariants as speech
use Rattle.vtp_server.specs.FeedMemory.{FeedMemory, placed}
use Rattle.vtp_server.specs.declared.ask.BrokerAsk.{BrokerAsk}
use Rattle.vtp_server.specs.declared.ask.BrokerAsk.TheVariants as ask
use Rattle.vtp_server.specs.declared.ended.Stop.{Stop}
use Rattle.vtp_server.specs.declared.ended.Stop.TheVariants as stop
use Rattle.vtp_server.specs.declared.feed.Peer.{Peer}
use Rattle.vtp_server.specs.declared.feed.Peer.TheVariants.{Stranger, Guest, Linked}

-- how the next packet is asked for; of a stranger from behind all records
abbrev pub asks_by : Peer → ℕ → BrokerAsk
asks_by Stranger from = ask.Live (2 ^ 64 - 1) []
asks_by (Guest filters) from = ask.Live from filters
asks_by (Linked link session) from = ask.Next link session from

-- The next packet is asked for where there may be one and fewer wait than may; else a message is read.
abbrev pub asks_or_reads : FeedMemory → ℕ → Next BrokerAsk Stop
asks_or_reads m waiting = if m.found_nothing || nat_le m.limit waiting then next.Read else next.Ask (asks_by m.peer m.from)

-- first a beat that is owed is written
abbrev pub feed_goes_on : FeedMemory → ℕ → FeedMemory × Next BrokerAsk Stop
feed_goes_on m waiting = if m.owes_beat then (record m { owes_beat = false }, next.Say speech.Alive) else (m, asks_or_reads m waiting)

-- an answer is handed in where the session is a link's and the packet was taken
abbrev pub feed_after_answer : FeedMemory → Peer → List ℕ → Bool → ℕ → FeedMemory × Next BrokerAsk Stop
feed_after_answer m (Linked link session) identifier true waiting = (m, next.Ask (ask.Acked link session identifier))
feed_after_answer m (Linked link session) identifier false waiting = feed_goes_on m waiting
feed_after_answer m Stranger identifier ack waiting = feed_goes_on m waiting
feed_after_answer m (Guest filters) identifier ack waiting = feed_goes_on m waiting

-- a peer that says who it is joins, and its filters are kept
abbrev pub is_wanted : FeedMemory → List ℕ → List Text → FeedMemory × Next BrokerAsk Stop
is_wanted m name filters = (record m { wanted = filters }, next.Ask (ask.Join name))

abbrev pub feed_after_read : FeedMemory → Act → ℕ → FeedMemory × Next BrokerAsk Stop
feed_after_read m (act.Auth name filters) waiting = is_wanted m name filters
feed_after_read m (act.Answer at identifier ack why) waiting = feed_after_answer m m.peer identifier ack waiting
feed_after_read m _ waiting = feed_goes_on m waiting

-- a stranger becomes a guest without filters, behind the records that there are
abbrev pub becomes_guest : FeedMemory → Peer → ℕ → FeedMemory
becomes_guest m Stranger front = record m { peer = Guest []; from = front; found_nothing = true }
becomes_guest m (Guest filters) front = record m { found_nothing = true }
becomes_guest m (Linked link session) front = record m { found_nothing = true }

abbrev pub feed_after_turn : FeedMemory → BrokerStep → ℕ → ℕ → FeedMemory × Next BrokerAsk Stop
feed_after_turn m (reply.Joined link session) front waiting = feed_goes_on (placed m (Linked link session) 0) waiting
feed_after_turn m (reply.Guest after) front waiting = feed_goes_on (placed (record m { wanted = [] }) (Guest m.wanted) after) waiting
feed_after_turn m (reply.Packet at identifier packet) front waiting = (record m { from = min (at + 1) (2 ^ 64 - 1) }, next.Send identifier packet)
feed_after_turn m reply.Nothing front waiting = feed_goes_on (becomes_guest m m.peer front) waiting
feed_after_turn m (reply.Replaced newer) front waiting = (m, next.Over (stop.Replaced newer))
feed_after_turn m (reply.Down faults stopped) front waiting = (m, next.Over (stop.Down faults))
feed_after_turn m reply.NoMemory front waiting = (m, next.Over stop.NoMemory)
feed_after_turn m (reply.Answer verdict) front waiting = feed_goes_on m waiting
feed_after_turn m reply.Noted front waiting = feed_goes_on m waiting
feed_after_turn m reply.Passed front waiting = feed_goes_on m waiting
feed_after_turn m reply.Full front waiting = feed_goes_on m waiting

abbrev pub feed_rules : Rules FeedMemory BrokerAsk BrokerStep Stop
feed_rules = record {
  after_read = λ m a beat waiting. feed_after_read (record m { owes_beat = beat; found_nothing = false }) a waiting;
  after_turn = λ m r front waiting. feed_after_turn m r front waiting;
  after_write = λ m waiting. feed_goes_on m waiting;
  after_line = λ m waiting. feed_goes_on m waiting;
}
