-- Connections and their sessions, crashes and reopenings.
use Rattle.std.specs.Prelude.{ℕ, ◌+◌, true, false, cond, List, [], ◌∷◌, Option, Some, None, ◌==◌, slice_get, slice_set, map}
use Rattle.net_model.specs.declared.scenario.Edge.{Edge}
use Rattle.net_model.specs.declared.scenario.Graph.{Graph}
use Rattle.net_model.specs.declared.state.Node.{Node}
use Rattle.net_model.specs.declared.state.Wire.{Wire}
use Rattle.net_model.specs.declared.state.State.{State}
use Rattle.net_model.specs.Steps.{join_link, last_of}
use Rattle.net_model.specs.Nodes.{number_of, sessions_of, with_wire, is_up}

-- a connection with nothing under way
abbrev pub connection : ℕ → Wire
connection session = record { connected = true; session = session; down = []; up = []; sent = []; unanswered = 0 }

-- no connection
abbrev pub unconnected : Wire
unconnected = record { connected = false; session = 0; down = []; up = []; sent = []; unanswered = 0 }

-- a connected edge is cut
abbrev pub cut_wire : State → ℕ → Option Wire → State
cut_wire state e None = state
cut_wire state e (Some wire) = cond wire.connected (with_wire state e unconnected) state

-- an edge is cut
abbrev pub cut : State → ℕ → State
cut state e = cut_wire state e (slice_get state.wires e)

-- the last session of a broker's link; an author's lines have none
abbrev pub last_session : Option Node → ℕ → ℕ
last_session node number = last_of (sessions_of node) number

-- a session is joined at the node's link of this number
abbrev pub joined : List Node → ℕ → ℕ → Option Node → List Node
joined nodes n number None = nodes
joined nodes n number (Some node) = slice_set nodes n (record node { sessions = join_link node.sessions number })

-- an edge is connected in its link's last session
abbrev pub joins : List Node → List Wire → ℕ → ℕ → ℕ → State
joins nodes wires n number e = record { nodes = nodes; wires = slice_set wires e (connection (last_session (slice_get nodes n) number)) }

-- a cut edge whose ends are up is connected, in a new session
abbrev pub connect_wire : Graph → State → ℕ → Option Edge → Option Wire → State
connect_wire graph state e (Some edge) (Some wire) =
    cond wire.connected state
    (cond (is_up (slice_get state.nodes edge.upper))
    (cond (is_up (slice_get state.nodes edge.lower))
    (joins (joined state.nodes edge.upper (number_of graph.edges edge.upper e) (slice_get state.nodes edge.upper)) state.wires edge.upper (number_of graph.edges edge.upper e) e)
    state)
    state)
connect_wire graph state e (Some edge) None = state
connect_wire graph state e None wire = state

-- an edge is connected
abbrev pub connect : Graph → State → ℕ → State
connect graph state e = connect_wire graph state e (slice_get graph.edges e) (slice_get state.wires e)

-- every edge connected, each with its link's last session
abbrev pub connections : Graph → List Node → ℕ → List Edge → List Wire
connections graph nodes e [] = []
connections graph nodes e (edge ∷ edges) =
    connection (last_session (slice_get nodes edge.upper) (number_of graph.edges edge.upper e)) ∷ connections graph nodes (e + 1) edges

-- the wires after a node went down
abbrev pub cut_round : ℕ → List Edge → List Wire → List Wire
cut_round n edges [] = []
cut_round n [] (wire ∷ wires) = wire ∷ wires
cut_round n (edge ∷ edges) (wire ∷ wires) =
    cond (edge.upper == n) unconnected (cond (edge.lower == n) unconnected wire) ∷ cut_round n edges wires

-- a node that went down keeps its notes alone
abbrev pub down_node : Node → Node
down_node node = record node { up = false; sessions = map (λ last. 0) node.sessions }

-- a node that is up again
abbrev pub up_node : Node → Node
up_node node = record node { up = true }

-- the nodes with one of them changed
abbrev pub with_node : (Node → Node) → List Node → ℕ → Option Node → List Node
with_node change nodes n None = nodes
with_node change nodes n (Some node) = slice_set nodes n (change node)

-- a node goes down, and its edges are cut
abbrev pub crash_node : Graph → State → ℕ → State
crash_node graph state n =
    record { nodes = with_node down_node state.nodes n (slice_get state.nodes n); wires = cut_round n graph.edges state.wires }

-- a node that is up crashes
abbrev pub crash : Graph → State → ℕ → State
crash graph state n = cond (is_up (slice_get state.nodes n)) (crash_node graph state n) state

-- a node that is down comes up with the notes that it has
abbrev pub reopen_found : State → ℕ → Option Node → State
reopen_found state n None = state
reopen_found state n (Some node) = cond node.up state (record { nodes = slice_set state.nodes n (up_node node); wires = state.wires })

-- a node is reopened
abbrev pub reopen : State → ℕ → State
reopen state n = reopen_found state n (slice_get state.nodes n)
