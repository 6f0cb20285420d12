-- What a drain is, and what holds after one.
use Rattle.std.specs.Prelude.{◌≡◌, ℕ, zero, suc, ◌+◌, ◌<◌, ◌≤◌, true, false, List, [], ◌∷◌, ◌⊎◌, ◌↔◌, ◌++◌, length, Some, slice_get}
use Rattle.net_model.specs.declared.scenario.Edge.{Edge}
use Rattle.net_model.specs.declared.scenario.Event.{Event}
use Rattle.net_model.specs.declared.scenario.Event.TheVariants.{Cut, Connect, Reopen}
use Rattle.net_model.specs.declared.state.Node.{Node}
use Rattle.net_model.specs.declared.scenario.Graph.{Graph}
use Rattle.voe_values.specs.declared.kind.NodeKind.TheVariants.{Author, Broker, Subscriber}
use Rattle.net_model.specs.declared.note.Note.{Note}
use Rattle.net_model.specs.declared.note.Note.TheVariants.{Wrote, Acked}
use Rattle.net_model.specs.declared.state.Wire.{Wire}
use Rattle.net_model.specs.declared.state.State.{State}
use Rattle.net_model.specs.Rules.{Rules, endless}
use Rattle.net_model.specs.Notes.{is_open}
use Rattle.net_model.specs.Nodes.{notes_at}
use Rattle.net_model.specs.Rounds.{round, rounds}
use Rattle.net_model.specs.Runs.{after}
use Rattle.net_model.specs.Laws.{HasEdge, IsA, IsIn, IsOnly, IsReached, Stands, times_entered}

-- a line leads from an author to a broker, a link from a broker to a broker or a subscriber, and each may carry a packet
pub record IsProper (graph : Graph) : Type 0 where
  pub ends : (e : ℕ) (edge : Edge) → slice_get graph.edges e ≡ Some edge
      → ((IsA graph edge.upper Author) × (IsA graph edge.lower Broker))
      ⊎ ((IsA graph edge.upper Broker)
      × ((IsA graph edge.lower Broker) ⊎ (IsA graph edge.lower Subscriber)))
  pub window : 0 < graph.window

-- how many packets were sent on the connections that stand
abbrev pub sendings : List Wire → ℕ
sendings [] = 0
sendings (wire ∷ wires) = length wire.sent + sendings wires

-- rounds up to and with the first that changes nothing lead from one state to another
pub record Drains (rules : Rules) (graph : Graph) (start end : State) : Type 0 where
  pub count : ℕ
  pub leads : rounds rules graph count start ≡ end
  pub last : round rules graph end ≡ end
  pub changing : (k : ℕ) → k < count → round rules graph (rounds rules graph k start) ≡ rounds rules graph k start → ⊥

-- every edge is connected and at rest: whatever was sent was answered
abbrev pub IsAtRest : Graph → State → Type 0
IsAtRest graph state =
    (e : ℕ) (edge : Edge) (wire : Wire) → slice_get graph.edges e ≡ Some edge → slice_get state.wires e ≡ Some wire
    → (wire.connected ≡ true) × (wire.down ≡ []) × (wire.up ≡ []) × (wire.unanswered ≡ 0)

-- every node is up
abbrev pub IsAllUp : State → Type 0
IsAllUp state = (n : ℕ) (node : Node) → slice_get state.nodes n ≡ Some node → node.up ≡ true

-- the events of this kind at so many edges or nodes, from one on
abbrev pub each_of : (ℕ → Event) → ℕ → ℕ → List Event
each_of kind number zero = []
each_of kind number (suc more) = kind number ∷ each_of kind (number + 1) more

-- the events with which a drain begins: all edges are cut, all nodes reopened, all edges connected
abbrev pub restart_of : Graph → List Event
restart_of graph =
    each_of Cut 0 (length graph.edges) ++ each_of Reopen 0 (length graph.nodes) ++ each_of Connect 0 (length graph.edges)

-- the list has each identifier that an author wrote
abbrev pub NamesWritten : State → List (List ℕ) → Type 0
NamesWritten state names = (n : ℕ) (identifier packet : List ℕ) → Stands state n (Wrote identifier packet) → IsIn identifier names

-- no line has a packet unanswered
abbrev pub IsAllAnswered : Graph → State → Type 0
IsAllAnswered graph state =
    (a number : ℕ) (line : Edge) (identifier : List ℕ) → IsA graph a Author
    → HasEdge graph a number line → is_open (notes_at state a) number identifier ≡ false

-- each note that a node gets over journals that never fill has room behind those before it
abbrev pub HadRoom : Rules → Graph → List (List ℕ) → List Event → Type 0
HadRoom rules graph packets events =
    (n : ℕ) (before : List Note) (note : Note) (rest : List Note)
    → notes_at (after (endless rules) graph packets events) n ≡ before ++ note ∷ rest → rules.has_room n before note ≡ true

-- an author has the identifier acknowledged on a line from whose end its packet reaches this node
pub record IsDueAt (rules : Rules) (graph : Graph) (state : State) (identifier packet : List ℕ) (y : ℕ) : Type 0 where
  pub author : ℕ
  pub number : ℕ
  pub line : Edge
  pub acked : Stands state author (Acked number identifier)
  pub has_line : HasEdge graph author number line
  pub reaches : IsReached rules graph packet line.lower y

-- An identifier that authors wrote with one packet alone stands at a subscriber exactly where an author has it
-- acknowledged and the packet reaches the subscriber, and it stands there once.
abbrev pub IsDelivered : Rules → Graph → State → Type 0
IsDelivered rules graph state =
    (identifier packet : List ℕ)
    → IsOnly state identifier packet
    → (y : ℕ) → IsA graph y Subscriber
    → ((1 ≤ times_entered (notes_at state y) identifier) ↔ IsDueAt rules graph state identifier packet y)
    × (times_entered (notes_at state y) identifier ≤ 1)
