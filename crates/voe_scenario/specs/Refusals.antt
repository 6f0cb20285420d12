-- Why a line of a scenario is refused, by number: each rule for itself, and the least that is broken decides.
use Rattle.std.specs.Prelude.{ℕ, Bool, true, false, not, List, [], ◌∷◌, Option, Some, None, is_none, length, nat_lt, nat_le, slice_get, ◌&&◌, ◌||◌, ◌==◌}
use Rattle.std.specs.List.{list_all}
use Rattle.voe_values.specs.declared.kind.NodeKind.{NodeKind}
use Rattle.voe_values.specs.declared.kind.NodeKind.TheVariants.{Author, Broker}
use Rattle.voe_values.specs.Identifier.{first_fault}
use Rattle.net_model.specs.Nodes.{links_of}
use Rattle.net_model.specs.declared.scenario.Event.{Event}
use Rattle.net_model.specs.declared.scenario.Event.TheVariants.{Write, Send, Down, Up, Cut, Connect, Crash, Reopen, Stop, Drain}
use Rattle.net_model.specs.declared.scenario.Inner.{Inner}
use Rattle.net_model.specs.declared.scenario.Inner.TheVariants.{Write as InWrite, Down as InDown, Up as InUp}
use Rattle.voe_packet.specs.declared.param.Param.{Param}
use Rattle.voe_scenario.specs.declared.graph.Edge.{Edge}
use Rattle.voe_scenario.specs.declared.graph.Graph.{Graph}
use Rattle.voe_scenario.specs.declared.scenario.Scenario.{Scenario}
use Rattle.voe_scenario.specs.Grammar.{Said, says_node, says_line, says_link, says_filter, says_packet, says_event, said_of}
use Rattle.voe_scenario.specs.Graphs.{is_kind, joins_line, joins_link}
use Rattle.voe_scenario.specs.Rules.{IsLeastBroken}
use Rattle.voe_scenario.specs.Shapes.{shape}

-- ---- S01

-- a line that adds to the graph or its packets
abbrev pub is_set_up : Said → Bool
is_set_up (says_node kind) = true
is_set_up (says_line upper lower) = true
is_set_up (says_link upper lower) = true
is_set_up (says_filter edge text) = true
is_set_up (says_packet draft) = true
is_set_up (says_event event) = false

-- a set-up line behind an event
abbrev pub is_misplaced : Scenario → Said → Bool
is_misplaced before said = is_set_up said && nat_lt 0 (length before.events)

-- ---- S02

-- there is an author of the one number and a packet of the other
abbrev pub can_write : Scenario → ℕ → ℕ → Bool
can_write before author packet = is_kind before.graph.nodes author Author && nat_lt packet (length before.packets)

abbrev pub is_edge : Scenario → ℕ → Bool
is_edge before edge = nat_lt edge (length before.graph.edges)

abbrev pub is_node : Scenario → ℕ → Bool
is_node before node = nat_lt node (length before.graph.nodes)

abbrev pub is_inner_named : Scenario → Inner → Bool
is_inner_named before (InWrite author packet) = can_write before author packet
is_inner_named before (InDown edge) = is_edge before edge
is_inner_named before (InUp edge) = is_edge before edge

abbrev pub is_event_named : Scenario → Event → Bool
is_event_named before (Write author packet) = can_write before author packet
is_event_named before (Send edge) = is_edge before edge
is_event_named before (Down edge) = is_edge before edge
is_event_named before (Up edge) = is_edge before edge
is_event_named before (Cut edge) = is_edge before edge
is_event_named before (Connect edge) = is_edge before edge
is_event_named before (Crash node) = is_node before node
is_event_named before (Reopen node) = is_node before node
is_event_named before (Stop calls fill inner) = is_inner_named before inner
is_event_named before Drain = true

-- the edge leads from a broker
abbrev pub leaves_broker : List NodeKind → Option Edge → Bool
leaves_broker nodes None = false
leaves_broker nodes (Some edge) = is_kind nodes edge.upper Broker

-- each number names what earlier lines brought
abbrev pub is_named : Scenario → Said → Bool
is_named before (says_node kind) = true
is_named before (says_line upper lower) = joins_line before.graph.nodes upper lower
is_named before (says_link upper lower) = joins_link before.graph.nodes upper lower
is_named before (says_filter edge text) = leaves_broker before.graph.nodes (slice_get before.graph.edges edge)
is_named before (says_packet draft) = true
is_named before (says_event event) = is_event_named before event

-- ---- S03

-- how many filters an edge has
abbrev pub count_texts : Option Edge → ℕ
count_texts None = 0
count_texts (Some edge) = length edge.texts

-- one edge more of this node: at most 256 edges, and 64 lines of an author or links of a broker
abbrev pub has_room_for_edge : Graph → ℕ → Bool
has_room_for_edge graph upper = nat_lt (length graph.edges) 256 && nat_lt (links_of (shape graph) upper) 64

-- 64 nodes; 16 filters of a link, of 1,024 bytes; 1,024 packets with identifiers of 512 bytes and 64 parameters;
-- 1,000,000 events
abbrev pub is_within : Scenario → Said → Bool
is_within before (says_node kind) = nat_lt (length before.graph.nodes) 64
is_within before (says_line upper lower) = has_room_for_edge before.graph upper
is_within before (says_link upper lower) = has_room_for_edge before.graph upper
is_within before (says_filter edge text) = nat_le (length text) 1024 && nat_lt (count_texts (slice_get before.graph.edges edge)) 16
is_within before (says_packet draft) = nat_le (length draft.identifier) 512 && nat_le (length draft.params) 64 && nat_lt (length before.packets) 1024
is_within before (says_event event) = nat_lt (length before.events) 1000000

-- more than 2,048 bytes, or one thing more than a scenario may have
abbrev pub passes_limit : Scenario → List ℕ → Said → Bool
passes_limit before line said = nat_lt 2048 (length line) || not (is_within before said)

-- ---- S04 and S05

-- S04: an identifier that is none
abbrev pub misnames_packet : Said → Bool
misnames_packet (says_node kind) = false
misnames_packet (says_line upper lower) = false
misnames_packet (says_link upper lower) = false
misnames_packet (says_filter edge text) = false
misnames_packet (says_packet draft) = not (is_none (first_fault draft.identifier))
misnames_packet (says_event event) = false

-- an ASCII letter or digit, `_`, `-` or `.`
abbrev pub is_param_character : ℕ → Bool
is_param_character b =
    (nat_le 97 b && nat_le b 122) || (nat_le 65 b && nat_le b 90) || (nat_le 48 b && nat_le b 57) || b == 95 || b == 45 || b == 46

-- a name of such characters that isn't empty
abbrev pub has_param_name : Param → Bool
has_param_name param = nat_lt 0 (length param.name) && list_all is_param_character param.name

-- S05: a parameter whose name is none
abbrev pub misnames_param : Said → Bool
misnames_param (says_node kind) = false
misnames_param (says_line upper lower) = false
misnames_param (says_link upper lower) = false
misnames_param (says_filter edge text) = false
misnames_param (says_packet draft) = not (list_all has_param_name draft.params)
misnames_param (says_event event) = false

-- ---- all rules

-- the rules up to the fifth, behind the lines that made this scenario
abbrev pub scenario_rules : Scenario → List ℕ → Option Said → List (ℕ × Bool)
scenario_rules before line None = (1, true) ∷ []
scenario_rules before line (Some said) =
    (1, is_misplaced before said)
    ∷ (2, not (is_named before said))
    ∷ (3, passes_limit before line said)
    ∷ (4, misnames_packet said)
    ∷ (5, misnames_param said)
    ∷ []

-- S06: the filter that a line brings
abbrev pub filter_brought : Option Said → Option (List ℕ)
filter_brought None = None
filter_brought (Some (says_node kind)) = None
filter_brought (Some (says_line upper lower)) = None
filter_brought (Some (says_link upper lower)) = None
filter_brought (Some (says_filter edge text)) = Some text
filter_brought (Some (says_packet draft)) = None
filter_brought (Some (says_event event)) = None

-- by which number a line is refused behind those that made this scenario, if it is
abbrev pub RefusesLine : Scenario → List ℕ → Option ℕ → Type 0
RefusesLine before line refusal = IsLeastBroken (scenario_rules before line (said_of line)) (filter_brought (said_of line)) refusal
