-- What is written, sent, delivered and answered.
use Rattle.std.specs.Prelude.{ℕ, ◌+◌, ◌-◌, nat_lt, Bool, true, false, cond, List, [], ◌∷◌, ◌++◌, Option, Some, None, slice_get}
use Rattle.net_model.specs.declared.scenario.Edge.{Edge}
use Rattle.net_model.specs.declared.scenario.Graph.{Graph}
use Rattle.voe_values.specs.declared.kind.NodeKind.{NodeKind}
use Rattle.net_model.specs.declared.note.Note.{Note}
use Rattle.net_model.specs.declared.state.Verdict.{Verdict}
use Rattle.net_model.specs.declared.state.Node.{Node}
use Rattle.net_model.specs.declared.state.Wire.{Wire}
use Rattle.net_model.specs.declared.state.State.{State}
use Rattle.voe_values.specs.declared.kind.NodeKind.TheVariants.{Author, Broker, Subscriber}
use Rattle.net_model.specs.declared.state.Verdict.TheVariants.{Ack, Nak}
use Rattle.net_model.specs.Rules.{Rules, NodeRules, rules_at}
use Rattle.net_model.specs.Notes.{Placed, first_to_send}
use Rattle.net_model.specs.Steps.{Reply, author_write, author_answer, broker_packet, broker_acked, subscriber_packet}
use Rattle.net_model.specs.Nodes.{links_of, number_of, notes_at, sessions_of, with_notes, with_wire, is_author}

-- an author that is up writes a packet
abbrev pub writes : Rules → State → ℕ → Bool → Option Node → Option (List ℕ) → State
writes rules state a an_author None packet = state
writes rules state a an_author (Some node) None = state
writes rules state a an_author (Some node) (Some packet) =
    cond an_author
    (cond node.up (with_notes state a (author_write (rules_at rules a) (notes_at state a) packet).added) state)
    state

-- a wire with one more packet in flight
abbrev pub with_packet : Wire → ℕ → List ℕ → Wire
with_packet wire place packet =
    record wire { down = wire.down ++ packet ∷ []; sent = wire.sent ++ place ∷ []; unanswered = wire.unanswered + 1 }

-- the next packet for an edge, with the place of its note
abbrev pub next_over : Graph → State → ℕ → Edge → Wire → Option Placed
next_over graph state e edge wire =
    first_to_send (notes_at state edge.upper) (number_of graph.edges edge.upper e) wire.sent 0 (notes_at state edge.upper)

-- that packet goes into flight
abbrev pub sends : State → ℕ → Wire → Option Placed → State
sends state e wire None = state
sends state e wire (Some first) = with_wire state e (with_packet wire first.0 first.1.packet)

-- a connected edge sends its next packet while its window has room
abbrev pub send_over : Graph → State → ℕ → Option Edge → Option Wire → State
send_over graph state e (Some edge) (Some wire) =
    cond wire.connected
    (cond (nat_lt wire.unanswered graph.window)
    (sends state e wire (next_over graph state e edge wire))
    state)
    state
send_over graph state e (Some edge) None = state
send_over graph state e None wire = state

-- an edge sends
abbrev pub send : Graph → State → ℕ → State
send graph state e = send_over graph state e (slice_get graph.edges e) (slice_get state.wires e)

-- what the lower end says to a packet
abbrev pub reply_at : Rules → Graph → ℕ → Bool → List Note → List ℕ → Option NodeKind → Option Reply
reply_at rules graph n from_line notes packet (Some Broker) =
    Some (broker_packet (rules_at rules n) (links_of graph n) notes from_line packet)
reply_at rules graph n from_line notes packet (Some Subscriber) =
    Some (subscriber_packet (rules_at rules n) notes packet)
reply_at rules graph n from_line notes packet (Some Author) = None
reply_at rules graph n from_line notes packet None = None

-- a wire whose first packet came, with the answer
abbrev pub with_answer : Wire → List (List ℕ) → Verdict → Wire
with_answer wire rest answer =
    record wire { down = rest; up = wire.up ++ answer ∷ [] }

-- the lower end has replied
abbrev pub arrives : State → ℕ → Edge → Wire → List (List ℕ) → Option Reply → State
arrives state e edge wire rest None = state
arrives state e edge wire rest (Some reply) =
    with_wire (with_notes state edge.lower reply.added) e (with_answer wire rest reply.answer)

-- the lower end replies to the first packet in flight
abbrev pub arrive_first : Rules → Graph → State → ℕ → Edge → Wire → List (List ℕ) → Option Node → State
arrive_first rules graph state e edge wire [] found = state
arrive_first rules graph state e edge wire (packet ∷ rest) None = state
arrive_first rules graph state e edge wire (packet ∷ rest) (Some node) =
    arrives state e edge wire rest
    (reply_at rules graph edge.lower (is_author (slice_get graph.nodes edge.upper)) (notes_at state edge.lower) packet (slice_get graph.nodes edge.lower))

-- the first packet in flight reaches the lower end
abbrev pub arrive_over : Rules → Graph → State → ℕ → Option Edge → Option Wire → State
arrive_over rules graph state e (Some edge) (Some wire) =
    arrive_first rules graph state e edge wire wire.down (slice_get state.nodes edge.lower)
arrive_over rules graph state e (Some edge) None = state
arrive_over rules graph state e None wire = state

-- an edge delivers
abbrev pub arrive : Rules → Graph → State → ℕ → State
arrive rules graph state e = arrive_over rules graph state e (slice_get graph.edges e) (slice_get state.wires e)

-- the note that an author adds for an answer on a line
abbrev pub author_hears : NodeRules → List Note → ℕ → Verdict → List Note
author_hears rules notes line (Ack identifier) = (author_answer rules notes line identifier true).added
author_hears rules notes line (Nak (Some identifier) code) = (author_answer rules notes line identifier false).added
author_hears rules notes line (Nak None code) = []

-- the note that a broker adds for an answer in a session of a link
abbrev pub broker_hears : NodeRules → List Note → List ℕ → ℕ → ℕ → Verdict → List Note
broker_hears rules notes sessions link session (Ack identifier) = (broker_acked rules notes sessions link session identifier).added
broker_hears rules notes sessions link session (Nak identifier code) = []

-- the note that the upper end adds for an answer
abbrev pub heard : NodeRules → List Note → List ℕ → ℕ → ℕ → Verdict → Option NodeKind → List Note
heard rules notes sessions number session answer (Some Author) = author_hears rules notes number answer
heard rules notes sessions number session answer (Some Broker) = broker_hears rules notes sessions number session answer
heard rules notes sessions number session answer (Some Subscriber) = []
heard rules notes sessions number session answer None = []

-- a wire whose first answer came
abbrev pub without_answer : Wire → List Verdict → Wire
without_answer wire rest =
    record wire { up = rest; unanswered = wire.unanswered - 1 }

-- the upper end hears the first answer in flight
abbrev pub hear_first : Rules → Graph → State → ℕ → Edge → Wire → List Verdict → State
hear_first rules graph state e edge wire [] = state
hear_first rules graph state e edge wire (answer ∷ rest) =
    with_wire
    (with_notes state edge.upper
    (heard (rules_at rules edge.upper) (notes_at state edge.upper) (sessions_of (slice_get state.nodes edge.upper)) (number_of graph.edges edge.upper e) wire.session answer (slice_get graph.nodes edge.upper)))
    e
    (without_answer wire rest)

-- the first answer in flight reaches the upper end
abbrev pub hear_over : Rules → Graph → State → ℕ → Option Edge → Option Wire → State
hear_over rules graph state e (Some edge) (Some wire) = hear_first rules graph state e edge wire wire.up
hear_over rules graph state e (Some edge) None = state
hear_over rules graph state e None wire = state

-- an edge answers
abbrev pub hear : Rules → Graph → State → ℕ → State
hear rules graph state e = hear_over rules graph state e (slice_get graph.edges e) (slice_get state.wires e)
