-- The node whose end steps at an event.
use Rattle.std.specs.Prelude.{◌≡◌, ℕ, Bool, false, cond, nat_lt, List, [], ◌∷◌, Option, Some, None, option_map, slice_get}
use Rattle.net_model.specs.declared.scenario.Edge.{Edge}
use Rattle.net_model.specs.declared.scenario.Event.{Event}
use Rattle.net_model.specs.declared.scenario.Event.TheVariants.{Write, Send, Down, Up, Connect}
use Rattle.net_model.specs.declared.scenario.Graph.{Graph}
use Rattle.net_model.specs.declared.state.State.{State}
use Rattle.net_model.specs.declared.state.Verdict.{Verdict}
use Rattle.net_model.specs.declared.state.Verdict.TheVariants.{Ack, Nak}
use Rattle.net_model.specs.declared.state.Wire.{Wire}
use Rattle.voe_values.specs.declared.kind.NodeKind.{NodeKind}
use Rattle.voe_values.specs.declared.kind.NodeKind.TheVariants.{Author, Broker, Subscriber}
use Rattle.net_model.specs.Nodes.{is_author, is_up}
use Rattle.net_model.specs.Runs.{has_packet}
use Rattle.node_notes.specs.Forms.{is_identifier}
use Rattle.net_machine.specs.Counts.{RoseAt}

-- an author that is up writes
abbrev pub writer : Graph → List (List ℕ) → State → ℕ → ℕ → Option ℕ
writer graph packets state author packet =
    cond (is_author (slice_get graph.nodes author))
    (cond (is_up (slice_get state.nodes author)) (option_map (λ found. author) (slice_get packets packet)) None)
    None

-- the upper end of a connected edge is asked for its next packet while the window has room
abbrev pub sender : Graph → Option Edge → Option Wire → Option ℕ
sender graph (Some edge) (Some wire) = cond wire.connected (cond (nat_lt wire.unanswered graph.window) (Some edge.upper) None) None
sender graph (Some edge) None = None
sender graph None wire = None

-- the lower end takes the first packet in flight
abbrev pub taker : Option Edge → Option Wire → Option ℕ
taker (Some edge) wire = cond (has_packet wire) (Some edge.lower) None
taker None wire = None

-- an author steps at an answer with an identifier, a broker at an acknowledgement
abbrev pub is_heard : Option NodeKind → Verdict → Bool
is_heard (Some Author) (Ack identifier) = is_identifier identifier
is_heard (Some Author) (Nak (Some identifier) code) = is_identifier identifier
is_heard (Some Author) (Nak None code) = false
is_heard (Some Broker) (Ack identifier) = is_identifier identifier
is_heard (Some Broker) (Nak identifier code) = false
is_heard (Some Subscriber) answer = false
is_heard None answer = false

abbrev pub hearer_of_first : Graph → Edge → List Verdict → Option ℕ
hearer_of_first graph edge [] = None
hearer_of_first graph edge (answer ∷ rest) = cond (is_heard (slice_get graph.nodes edge.upper) answer) (Some edge.upper) None

-- the upper end hears the first answer in flight
abbrev pub hearer : Graph → Option Edge → Option Wire → Option ℕ
hearer graph (Some edge) (Some wire) = hearer_of_first graph edge wire.up
hearer graph (Some edge) None = None
hearer graph None wire = None

abbrev pub if_broker : Option NodeKind → ℕ → Option ℕ
if_broker (Some Broker) n = Some n
if_broker (Some Author) n = None
if_broker (Some Subscriber) n = None
if_broker None n = None

-- a broker begins a session of a cut link whose two ends are up
abbrev pub joiner : Graph → State → Option Edge → Option Wire → Option ℕ
joiner graph state (Some edge) (Some wire) =
    cond wire.connected None
    (cond (is_up (slice_get state.nodes edge.upper))
    (cond (is_up (slice_get state.nodes edge.lower)) (if_broker (slice_get graph.nodes edge.upper) edge.upper) None)
    None)
joiner graph state (Some edge) None = None
joiner graph state None wire = None

-- the node whose end makes a step at the event; a stop's and a drain's steps are not told
abbrev pub stepper : Graph → List (List ℕ) → State → Event → Option ℕ
stepper graph packets state (Write author packet) = writer graph packets state author packet
stepper graph packets state (Send edge) = sender graph (slice_get graph.edges edge) (slice_get state.wires edge)
stepper graph packets state (Down edge) = taker (slice_get graph.edges edge) (slice_get state.wires edge)
stepper graph packets state (Up edge) = hearer graph (slice_get graph.edges edge) (slice_get state.wires edge)
stepper graph packets state (Connect edge) = joiner graph state (slice_get graph.edges edge) (slice_get state.wires edge)
stepper graph packets state _ = None

-- the steps of that node rose
abbrev pub Stepped : Option ℕ → List ℕ → List ℕ → Type 0
Stepped stepper before now = (n : ℕ) → stepper ≡ Some n → RoseAt n before now
