-- What a statement of the code means.
use Rattle.std.specs.Prelude.{◌≡◌, ℕ, Option, Some, None, List, [], map}
use Rattle.std.specs.Borrow.{Bor}
use Rattle.net_model.specs.declared.scenario.Event.{Event}
use Rattle.net_model.specs.declared.scenario.Event.TheVariants as event
use Rattle.net_model.specs.declared.scenario.Inner.{Inner}
use Rattle.net_model.specs.declared.scenario.Inner.TheVariants as inner
use Rattle.voe_packet.specs.declared.draft.Draft.{Draft}
use Rattle.voe_scenario.specs.declared.event_line.SaidEvent.{SaidEvent}
use Rattle.voe_scenario.specs.declared.event_line.SaidEvent.TheVariants.{Write, Send, Down, Up, Cut, Connect, Crash, Open, Stop, Drain}
use Rattle.voe_scenario.specs.declared.event_line.SaidInner.{SaidInner}
use Rattle.voe_scenario.specs.declared.event_line.SaidInner.TheVariants.{Write as InWrite, Down as InDown, Up as InUp}
use Rattle.voe_scenario.specs.declared.packet_line.SaidPacket.{SaidPacket}
use Rattle.voe_scenario.specs.declared.statement.Statement.{Statement}
use Rattle.voe_scenario.specs.declared.statement.Statement.TheVariants.{Node, Line as A_Line, Link, Filter, Packet, Event as An_Event}
use Rattle.voe_scenario.specs.Grammar.{Said, says_node, says_line, says_link, says_filter, says_packet, says_event, param_in}
use Rattle.voe_scenario.specs.Words.{words_of}

-- the words of what stands behind another, if anything does
abbrev pub words_in : Option (Bor (List ℕ)) → List (List ℕ)
words_in None = []
words_in (Some rest) = words_of rest.now

abbrev pub inner_meant : SaidInner → Inner
inner_meant (InWrite author packet) = inner.Write author packet
inner_meant (InDown edge) = inner.Down edge
inner_meant (InUp edge) = inner.Up edge

abbrev pub event_meant : SaidEvent → Event
event_meant (Write author packet) = event.Write author packet
event_meant (Send edge) = event.Send edge
event_meant (Down edge) = event.Down edge
event_meant (Up edge) = event.Up edge
event_meant (Cut edge) = event.Cut edge
event_meant (Connect edge) = event.Connect edge
event_meant (Crash node) = event.Crash node
event_meant (Open node) = event.Reopen node
event_meant (Stop calls fill stopped) = event.Stop calls fill (inner_meant stopped)
event_meant Drain = event.Drain

abbrev pub packet_meant : SaidPacket → Draft
packet_meant packet = record { identifier = packet.identifier.now; role = packet.role; params = map param_in (words_in packet.params); citations = [] }

abbrev pub meaning : Statement → Said
meaning (Node kind) = says_node kind
meaning (A_Line upper lower) = says_line upper lower
meaning (Link upper lower) = says_link upper lower
meaning (Filter edge text) = says_filter edge text.now
meaning (Packet packet) = says_packet (packet_meant packet)
meaning (An_Event said) = says_event (event_meant said)

-- the statement means what is said, and there is none exactly where nothing is
abbrev pub Means : Option Statement → Option Said → Type 0
Means None said = said ≡ None
Means (Some statement) said = said ≡ Some (meaning statement)

abbrev pub inner_found : Option SaidInner → Option Inner
inner_found None = None
inner_found (Some said) = Some (inner_meant said)

-- the same of what a stop cuts short
abbrev pub MeansInner : Option SaidInner → Option Inner → Type 0
MeansInner found said = said ≡ inner_found found
