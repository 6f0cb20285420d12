-- The shape of every state that a run reaches: its sizes, its records' kinds and its connections.
use Rattle.std.specs.Prelude.{◌≡◌, ℕ, ◌+◌, ◌≤◌, nat_lt, true, cond, List, [], ◌∷◌, length, Some, ◌⊎◌, slice_get}
use Rattle.net_model.specs.declared.scenario.Edge.{Edge}
use Rattle.net_model.specs.declared.scenario.Graph.{Graph}
use Rattle.voe_values.specs.declared.kind.NodeKind.{NodeKind}
use Rattle.voe_values.specs.declared.kind.NodeKind.TheVariants.{Author, Broker, Subscriber}
use Rattle.net_model.specs.declared.note.Note.{Note}
use Rattle.net_model.specs.declared.note.Note.TheVariants.{Wrote, Acked, Refused, Accept, Done, Enter}
use Rattle.net_model.specs.declared.state.State.{State}
use Rattle.net_model.specs.declared.state.Wire.{Wire}
use Rattle.net_model.specs.declared.step.Judged.TheVariants.{Good}
use Rattle.net_model.specs.Rules.{Rules}
use Rattle.net_model.specs.Nodes.{is_up, notes_at, number_of}
use Rattle.net_model.specs.Notes.{first_from, to_send}
use Rattle.net_model.specs.Flights.{next_over}
use Rattle.net_model.specs.Connections.{unconnected}
use Rattle.net_model.specs.Laws.{IsA, Stands}

-- the kind of node that keeps such a note
abbrev pub keeper : Note → NodeKind
keeper (Wrote identifier packet) = Author
keeper (Acked line identifier) = Author
keeper (Refused line identifier) = Author
keeper (Accept identifier links packet) = Broker
keeper (Done link identifier) = Broker
keeper (Enter identifier packet) = Subscriber

-- each node keeps notes of its kind, and each packet stands under its own identifier
pub record IsKept (rules : Rules) (graph : Graph) (state : State) : Type 0 where
  pub kind : (n : ℕ) (note : Note) → Stands state n note → IsA graph n (keeper note)
  pub wrote : (n : ℕ) (identifier packet : List ℕ) → Stands state n (Wrote identifier packet) → rules.judge packet ≡ Good identifier
  pub accepted : (n : ℕ) (identifier links packet : List ℕ) → Stands state n (Accept identifier links packet) → rules.judge packet ≡ Good identifier
  pub entered : (n : ℕ) (identifier packet : List ℕ) → Stands state n (Enter identifier packet) → rules.judge packet ≡ Good identifier

-- there is a node for each of the graph's and a wire for each edge
abbrev pub IsSized : Graph → State → Type 0
IsSized graph state = (length state.nodes ≡ length graph.nodes) × (length state.wires ≡ length graph.edges)

-- Both ends of a connected edge are up, and a cut one has nothing under way. What is unanswered is in flight, and
-- stays within the window.
pub record IsWired (graph : Graph) (state : State) (edge : Edge) (wire : Wire) : Type 0 where
  pub ends : wire.connected ≡ true → (is_up (slice_get state.nodes edge.upper) ≡ true) × (is_up (slice_get state.nodes edge.lower) ≡ true)
  pub off : (wire.connected ≡ true) ⊎ (wire ≡ unconnected)
  pub counted : wire.unanswered ≡ length wire.down + length wire.up
  pub few : wire.unanswered ≤ graph.window

-- so is each edge
abbrev pub AllWired : Graph → State → Type 0
AllWired graph state =
    (e : ℕ) (edge : Edge) (wire : Wire) → slice_get graph.edges e ≡ Some edge → slice_get state.wires e ≡ Some wire → IsWired graph state edge wire

-- one past the greatest of these places
abbrev pub past : List ℕ → ℕ
past [] = 0
past (place ∷ places) = cond (nat_lt (past places) (place + 1)) (place + 1) (past places)

-- an edge sends next what its upper end gives when it is asked for the first packet past those that were sent
abbrev pub IsInTurn : Graph → State → Type 0
IsInTurn graph state =
    (e : ℕ) (edge : Edge) (wire : Wire) → slice_get graph.edges e ≡ Some edge → slice_get state.wires e ≡ Some wire
    → next_over graph state e edge wire
    ≡ first_from (to_send (notes_at state edge.upper) (number_of graph.edges edge.upper e)) (past wire.sent) 0 (notes_at state edge.upper)
