-- Events and runs.
use Rattle.std.specs.Prelude.{ℕ, ◌+◌, nat_lt, Bool, true, false, cond, List, [], ◌∷◌, length, Option, Some, None, ◌==◌, slice_get, map, not, option_map}
use Rattle.net_model.specs.declared.scenario.Graph.{Graph}
use Rattle.voe_values.specs.declared.kind.NodeKind.{NodeKind}
use Rattle.net_model.specs.declared.scenario.Event.{Event}
use Rattle.net_model.specs.declared.scenario.Inner.{Inner}
use Rattle.net_model.specs.declared.note.Note.{Note}
use Rattle.net_model.specs.declared.state.Node.{Node}
use Rattle.net_model.specs.declared.state.Wire.{Wire}
use Rattle.net_model.specs.declared.state.State.{State}
use Rattle.voe_values.specs.declared.kind.NodeKind.TheVariants.{Author, Broker, Subscriber}
use Rattle.net_model.specs.declared.scenario.Event.TheVariants.{Write, Send, Down, Up, Cut, Connect, Crash, Reopen, Stop, Drain}
use Rattle.net_model.specs.declared.scenario.Inner.TheVariants.{Write as InWrite, Down as InDown, Up as InUp}
use Rattle.net_model.specs.declared.step.Judged.{Judged}
use Rattle.net_model.specs.declared.step.Judged.TheVariants.{BadTree, BadPacket, Good}
use Rattle.net_model.specs.Rules.{Rules}
use Rattle.net_model.specs.Notes.{knows}
use Rattle.net_model.specs.Nodes.{edges_of, notes_at, is_up, is_author}
use Rattle.net_model.specs.Flights.{writes, send, arrive, hear}
use Rattle.net_model.specs.Connections.{cut, connect, connections, crash, crash_node, reopen}
use Rattle.net_model.specs.Rounds.{drained}

-- a packet is in flight
abbrev pub has_packet : Option Wire → Bool
has_packet None = false
has_packet (Some wire) = nat_lt 0 (length wire.down)

-- an answer is in flight
abbrev pub has_answer : Option Wire → Bool
has_answer None = false
has_answer (Some wire) = nat_lt 0 (length wire.up)

-- a good packet's identifier is new
abbrev pub is_new_identifier : List Note → Judged → Bool
is_new_identifier notes (BadTree number) = true
is_new_identifier notes (BadPacket number identifier) = true
is_new_identifier notes (Good identifier) = not (knows notes identifier)

-- the packet may be written
abbrev pub is_new : Rules → List Note → Option (List ℕ) → Bool
is_new rules notes None = false
is_new rules notes (Some packet) = is_new_identifier notes (rules.judge packet)

-- where the event that a stop cuts short acts, if it fits
abbrev pub actor_of : Rules → Graph → List (List ℕ) → State → Inner → Option ℕ
actor_of rules graph packets state (InWrite author packet) =
    cond (is_author (slice_get graph.nodes author))
    (cond (is_up (slice_get state.nodes author)) (cond (is_new rules (notes_at state author) (slice_get packets packet)) (Some author) None) None)
    None
actor_of rules graph packets state (InDown edge) =
    cond (has_packet (slice_get state.wires edge)) (option_map (λ found. found.lower) (slice_get graph.edges edge)) None
actor_of rules graph packets state (InUp edge) =
    cond (has_answer (slice_get state.wires edge)) (option_map (λ found. found.upper) (slice_get graph.edges edge)) None

-- what a stopped event does if it is made
abbrev pub inner_happens : Rules → Graph → List (List ℕ) → State → Inner → State
inner_happens rules graph packets state (InWrite author packet) =
    writes rules state author (is_author (slice_get graph.nodes author)) (slice_get state.nodes author) (slice_get packets packet)
inner_happens rules graph packets state (InDown edge) = arrive rules graph state edge
inner_happens rules graph packets state (InUp edge) = hear rules graph state edge

-- the record of a step whose disk stopped after so many device calls, with this fill, outlives the crash
abbrev pub is_kept : ℕ → ℕ → Bool
is_kept calls fill = cond (nat_lt 3 calls) true (cond (calls == 3) (fill == 1) false)

-- the step is made or not, and then its node crashes
abbrev pub stopped : Rules → Graph → List (List ℕ) → State → Bool → Inner → Option ℕ → State
stopped rules graph packets state kept inner None = state
stopped rules graph packets state true inner (Some actor) = crash_node graph (inner_happens rules graph packets state inner) actor
stopped rules graph packets state false inner (Some actor) = crash_node graph state actor

-- what an event does
abbrev pub happens : Rules → Graph → List (List ℕ) → State → Event → State
happens rules graph packets state (Write author packet) =
    writes rules state author (is_author (slice_get graph.nodes author)) (slice_get state.nodes author) (slice_get packets packet)
happens rules graph packets state (Send edge) = send graph state edge
happens rules graph packets state (Down edge) = arrive rules graph state edge
happens rules graph packets state (Up edge) = hear rules graph state edge
happens rules graph packets state (Cut edge) = cut state edge
happens rules graph packets state (Connect edge) = connect graph state edge
happens rules graph packets state (Crash node) = crash graph state node
happens rules graph packets state (Reopen node) = reopen state node
happens rules graph packets state (Stop calls fill inner) =
    stopped rules graph packets state (is_kept calls fill) inner (actor_of rules graph packets state inner)
happens rules graph packets state Drain = drained rules graph state

-- a node at the beginning: each link of a broker has joined its first session
abbrev pub first_node : Graph → ℕ → NodeKind → Node
first_node graph n Author = record { up = true; notes = []; sessions = [] }
first_node graph n Broker = record { up = true; notes = []; sessions = map (λ link. 1) (edges_of graph n) }
first_node graph n Subscriber = record { up = true; notes = []; sessions = [] }

-- the nodes at the beginning
abbrev pub first_nodes : Graph → ℕ → List NodeKind → List Node
first_nodes graph n [] = []
first_nodes graph n (kind ∷ kinds) = first_node graph n kind ∷ first_nodes graph (n + 1) kinds

-- all nodes up without notes, all edges connected with nothing under way
abbrev pub beginning : Graph → State
beginning graph =
    record { nodes = first_nodes graph 0 graph.nodes; wires = connections graph (first_nodes graph 0 graph.nodes) 0 graph.edges }

-- a whole run
abbrev pub run : Rules → Graph → List (List ℕ) → List Event → State → State
run rules graph packets [] state = state
run rules graph packets (event ∷ events) state = run rules graph packets events (happens rules graph packets state event)

-- the network after these events, from its beginning
abbrev pub after : Rules → Graph → List (List ℕ) → List Event → State
after rules graph packets events = run rules graph packets events (beginning graph)
