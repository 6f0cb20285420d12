-- Small runs, computed.
use Rattle.std.proofs.Common.{◌≡◌, ℕ, zero, suc, Bool, true, false, List, [], ◌∷◌, ◌++◌, Option, Some, None, refl}
use Rattle.std.specs.Prelude.{slice_get, option_map, map}
use Rattle.net_model.specs.declared.scenario.Edge.{Edge}
use Rattle.net_model.specs.declared.scenario.Event.{Event}
use Rattle.net_model.specs.declared.scenario.Event.TheVariants.{Write, Send, Down, Up, Cut, Connect, Crash, Reopen, Stop, Drain}
use Rattle.net_model.specs.declared.scenario.Graph.{Graph}
use Rattle.net_model.specs.declared.scenario.Inner.TheVariants.{Down as InDown}
use Rattle.voe_values.specs.declared.kind.NodeKind.TheVariants.{Author, Broker, Subscriber}
use Rattle.net_model.specs.declared.note.Note.TheVariants.{Wrote, Acked, Refused, Accept, Done, Enter}
use Rattle.net_model.specs.declared.state.NakCode.TheVariants.{Tree, Validity, Conflict, Full as NoRoom}
use Rattle.net_model.specs.declared.state.Verdict.TheVariants.{Ack, Nak}
use Rattle.net_model.specs.declared.step.Judged.{Judged}
use Rattle.net_model.specs.declared.step.Judged.TheVariants.{BadTree, BadPacket, Good}
use Rattle.net_model.specs.declared.step.AuthorStep.TheVariants as a
use Rattle.net_model.specs.declared.step.BrokerStep.TheVariants as b
use Rattle.net_model.specs.Rules.{NodeRules, Rules, rules_at}
use Rattle.net_model.specs.Notes.{is_open, lists}
use Rattle.net_model.specs.Steps.{author_answer, author_next, author_write, broker_acked, broker_join, broker_live, broker_next, broker_packet, says, subscriber_packet}
use Rattle.net_model.specs.Nodes.{is_up, notes_at}
use Rattle.net_model.specs.Rounds.{restarted}
use Rattle.net_model.specs.Connections.{connection}
use Rattle.net_model.specs.declared.state.State.{State}
use Rattle.net_model.specs.declared.state.Wire.{Wire}
use Rattle.net_model.specs.Runs.{after}

-- No tree begins with 0. What begins with 1 is no valid packet, and the rest is its identifier, if it has one. Any
-- other packet is its identifier's byte and what follows it.
judged : List ℕ → Judged
judged [] = BadTree 9
judged (zero ∷ rest) = BadTree 4
judged (suc zero ∷ []) = BadPacket 1 None
judged (suc zero ∷ rest) = BadPacket 5 (Some rest)
judged (name ∷ rest) = Good (name ∷ [])

-- a packet whose second byte is 1
is_marked : List ℕ → Bool
is_marked (name ∷ suc zero ∷ rest) = true
is_marked _ = false

open_links : Rules
open_links = record { judge = judged; digest_of = λ packet. packet; passes = λ node number packet. true; has_room = λ node notes note. true }

marked_at_three : ℕ → ℕ → List ℕ → Bool
marked_at_three (suc (suc (suc zero))) number packet = is_marked packet
marked_at_three _ number packet = true

filtered : Rules
filtered = record open_links { passes = marked_at_three }

edge : ℕ → ℕ → Edge
edge upper lower = record { upper = upper; lower = lower }

-- an author, a broker and a subscriber in a chain
chain : ℕ → Graph
chain window = record { nodes = Author ∷ Broker ∷ Subscriber ∷ []; edges = edge 0 1 ∷ edge 1 2 ∷ []; window = window }

-- two brokers in a cycle, each with a subscriber
cycle : Graph
cycle = record {
  nodes = Author ∷ Broker ∷ Broker ∷ Subscriber ∷ Subscriber ∷ [];
  edges = edge 0 1 ∷ edge 1 2 ∷ edge 2 1 ∷ edge 1 3 ∷ edge 2 4 ∷ [];
  window = 1;
}

-- a broker with a link to itself
loop : Graph
loop = record { nodes = Author ∷ Broker ∷ []; edges = edge 0 1 ∷ edge 1 1 ∷ []; window = 1 }

-- two authors, two brokers, the second of which passes marked packets alone
two_authors : Graph
two_authors = record {
  nodes = Author ∷ Author ∷ Broker ∷ Broker ∷ Subscriber ∷ [];
  edges = edge 0 2 ∷ edge 1 3 ∷ edge 2 3 ∷ edge 3 4 ∷ [];
  window = 1;
}

-- two authors of one broker
shared : Graph
shared = record { nodes = Author ∷ Author ∷ Broker ∷ []; edges = edge 0 2 ∷ edge 1 2 ∷ []; window = 1 }

seven : List ℕ
seven = 7 ∷ []

p : List ℕ
p = 7 ∷ 0 ∷ []

other : List ℕ
other = 7 ∷ 1 ∷ []

delivered : (events : List Event) → Type 0
delivered events =
    (notes_at (after open_links (chain 1) (p ∷ []) events) 0 ≡ Wrote seven p ∷ Acked 0 seven ∷ [])
    × (notes_at (after open_links (chain 1) (p ∷ []) events) 1 ≡ Accept seven (0 ∷ []) p ∷ Done 0 seven ∷ [])
    × (notes_at (after open_links (chain 1) (p ∷ []) events) 2 ≡ Enter seven p ∷ [])

drained_chain : delivered (Write 0 0 ∷ Drain ∷ [])
unfolding is_open lists judged open_links edge chain seven p delivered
drained_chain = (refl, refl, refl)

stepped_chain : delivered (Write 0 0 ∷ Send 0 ∷ Down 0 ∷ Up 0 ∷ Send 1 ∷ Down 1 ∷ Up 1 ∷ [])
unfolding is_open lists judged open_links edge chain seven p delivered
stepped_chain = (refl, refl, refl)

-- a stopped delivery whose record is kept, or not
stopped : ℕ → List Event
stopped fill = Write 0 0 ∷ Send 0 ∷ Down 0 ∷ Up 0 ∷ Send 1 ∷ Stop 3 fill (InDown 1) ∷ []

stop_kept : (notes_at (after open_links (chain 1) (p ∷ []) (stopped 1)) 2 ≡ Enter seven p ∷ [])
    × (notes_at (after open_links (chain 1) (p ∷ []) (stopped 1)) 1 ≡ Accept seven (0 ∷ []) p ∷ [])
    × (is_up (slice_get (after open_links (chain 1) (p ∷ []) (stopped 1)).nodes 2) ≡ false)
    × delivered (stopped 1 ++ Drain ∷ [])
unfolding is_open lists judged open_links edge chain seven p delivered stopped
stop_kept = (refl, refl, refl, (refl, refl, refl))

stop_lost : (notes_at (after open_links (chain 1) (p ∷ []) (stopped 0)) 2 ≡ []) × delivered (stopped 0 ++ Drain ∷ [])
unfolding is_open lists judged open_links edge chain seven p delivered stopped
stop_lost = (refl, (refl, refl, refl))

-- an acknowledgement that a cut lost
cut_answer : (notes_at (after open_links (chain 1) (p ∷ []) (Write 0 0 ∷ Send 0 ∷ Down 0 ∷ Up 0 ∷ Send 1 ∷ Down 1 ∷ Cut 1 ∷ [])) 1 ≡ Accept seven (0 ∷ []) p ∷ [])
    × delivered (Write 0 0 ∷ Send 0 ∷ Down 0 ∷ Up 0 ∷ Send 1 ∷ Down 1 ∷ Cut 1 ∷ Drain ∷ [])
unfolding is_open lists judged open_links edge chain seven p delivered
cut_answer = (refl, (refl, refl, refl))

-- a window of two
window_of_two : (notes_at (after open_links (chain 2) ((4 ∷ []) ∷ (5 ∷ []) ∷ (6 ∷ []) ∷ [])
    (Write 0 0 ∷ Write 0 1 ∷ Write 0 2 ∷ Send 0 ∷ Send 0 ∷ Send 0 ∷ Down 0 ∷ Down 0 ∷ Down 0 ∷ [])) 1
    ≡ Accept (4 ∷ []) (0 ∷ []) (4 ∷ []) ∷ Accept (5 ∷ []) (0 ∷ []) (5 ∷ []) ∷ [])
unfolding is_open lists judged open_links edge chain
window_of_two = refl

-- around the cycle each node holds the packet once
drained_cycle : (notes_at (after open_links cycle (p ∷ []) (Write 0 0 ∷ Drain ∷ [])) 1 ≡ Accept seven (0 ∷ 1 ∷ []) p ∷ Done 0 seven ∷ Done 1 seven ∷ [])
    × (notes_at (after open_links cycle (p ∷ []) (Write 0 0 ∷ Drain ∷ [])) 2 ≡ Accept seven (0 ∷ 1 ∷ []) p ∷ Done 0 seven ∷ Done 1 seven ∷ [])
    × (notes_at (after open_links cycle (p ∷ []) (Write 0 0 ∷ Drain ∷ [])) 3 ≡ Enter seven p ∷ [])
    × (notes_at (after open_links cycle (p ∷ []) (Write 0 0 ∷ Drain ∷ [])) 4 ≡ Enter seven p ∷ [])
unfolding is_open lists judged open_links edge cycle seven p
drained_cycle = (refl, refl, refl, refl)

drained_loop : (notes_at (after open_links loop (p ∷ []) (Write 0 0 ∷ Drain ∷ [])) 1 ≡ Accept seven (0 ∷ []) p ∷ Done 0 seven ∷ [])
unfolding is_open lists judged open_links edge loop seven p
drained_loop = refl

-- two packets under one identifier: the subscriber gets neither, though both are acknowledged
both_acknowledged : List Event
both_acknowledged = Write 0 0 ∷ Write 1 1 ∷ Send 1 ∷ Down 1 ∷ Up 1 ∷ Drain ∷ []

one_packet_alone : (notes_at (after filtered two_authors (other ∷ p ∷ []) both_acknowledged) 0 ≡ Wrote seven other ∷ Acked 0 seven ∷ [])
    × (notes_at (after filtered two_authors (other ∷ p ∷ []) both_acknowledged) 1 ≡ Wrote seven p ∷ Acked 0 seven ∷ [])
    × (notes_at (after filtered two_authors (other ∷ p ∷ []) both_acknowledged) 2 ≡ Accept seven (0 ∷ []) other ∷ Done 0 seven ∷ [])
    × (notes_at (after filtered two_authors (other ∷ p ∷ []) both_acknowledged) 3 ≡ Accept seven [] p ∷ [])
    × (notes_at (after filtered two_authors (other ∷ p ∷ []) both_acknowledged) 4 ≡ [])
unfolding is_open lists judged open_links marked_at_three is_marked filtered edge two_authors seven p other both_acknowledged
one_packet_alone = (refl, refl, refl, refl, refl)

-- the second of two packets under one identifier is refused
one_refused : (notes_at (after open_links shared (p ∷ other ∷ []) (Write 0 0 ∷ Write 1 1 ∷ Drain ∷ [])) 0 ≡ Wrote seven p ∷ Acked 0 seven ∷ [])
    × (notes_at (after open_links shared (p ∷ other ∷ []) (Write 0 0 ∷ Write 1 1 ∷ Drain ∷ [])) 1 ≡ Wrote seven other ∷ Refused 0 seven ∷ [])
    × (notes_at (after open_links shared (p ∷ other ∷ []) (Write 0 0 ∷ Write 1 1 ∷ Drain ∷ [])) 2 ≡ Accept seven [] p ∷ [])
unfolding is_open lists judged open_links edge shared seven p other
one_refused = (refl, refl, refl)

-- the last sessions of the broker in the chain after these events
sessions_after : List Event → Option (List ℕ)
sessions_after events = option_map (λ node. node.sessions) (slice_get (after open_links (chain 1) [] events).nodes 1)

-- the start and each connection join a session, and a crash forgets them
joined_sessions : (sessions_after [] ≡ Some (1 ∷ [])) × (sessions_after (Cut 1 ∷ Connect 1 ∷ []) ≡ Some (2 ∷ []))
    × (sessions_after (Cut 1 ∷ Connect 1 ∷ Drain ∷ []) ≡ Some (3 ∷ [])) × (sessions_after (Cut 1 ∷ Connect 1 ∷ Crash 1 ∷ []) ≡ Some (0 ∷ []))
    × (sessions_after (Crash 1 ∷ Reopen 1 ∷ Connect 0 ∷ Connect 1 ∷ []) ≡ Some (1 ∷ []))
unfolding is_open lists judged open_links edge chain sessions_after
joined_sessions = (refl, refl, refl, refl, refl)

-- a drain starts with all nodes up and all edges connected anew, in new sessions
started : State → List Wire → Type 0
started state wires = (state.wires ≡ wires) × (map (λ node. node.up) state.nodes ≡ true ∷ true ∷ true ∷ []) × (map (λ node. node.sessions) state.nodes ≡ [] ∷ (1 ∷ []) ∷ [] ∷ [])

starts_anew : started (restarted (chain 1) (after open_links (chain 1) (p ∷ []) (Write 0 0 ∷ Send 0 ∷ Crash 1 ∷ []))) (connection 0 ∷ connection 1 ∷ [])
unfolding is_open lists judged open_links edge chain seven p started
starts_anew = (refl, refl, refl)

-- an author writes to two brokers, which link to one subscriber
two_lines : Graph
two_lines = record {
  nodes = Author ∷ Broker ∷ Broker ∷ Subscriber ∷ [];
  edges = edge 0 1 ∷ edge 0 2 ∷ edge 1 3 ∷ edge 2 3 ∷ [];
  window = 1;
}

over_two_lines : (notes_at (after open_links two_lines (p ∷ []) (Write 0 0 ∷ Drain ∷ [])) 0 ≡ Wrote seven p ∷ Acked 0 seven ∷ Acked 1 seven ∷ [])
    × (notes_at (after open_links two_lines (p ∷ []) (Write 0 0 ∷ Drain ∷ [])) 1 ≡ Accept seven (0 ∷ []) p ∷ Done 0 seven ∷ [])
    × (notes_at (after open_links two_lines (p ∷ []) (Write 0 0 ∷ Drain ∷ [])) 2 ≡ Accept seven (0 ∷ []) p ∷ Done 0 seven ∷ [])
    × (notes_at (after open_links two_lines (p ∷ []) (Write 0 0 ∷ Drain ∷ [])) 3 ≡ Enter seven p ∷ [])
unfolding is_open lists judged open_links edge two_lines seven p
over_two_lines = (refl, refl, refl, refl)

-- a broker that stops once its record is kept: its answer is lost, and the line is still open
broker_stopped : (notes_at (after open_links (chain 1) (p ∷ []) (Write 0 0 ∷ Send 0 ∷ Stop 4 0 (InDown 0) ∷ [])) 0 ≡ Wrote seven p ∷ [])
    × (notes_at (after open_links (chain 1) (p ∷ []) (Write 0 0 ∷ Send 0 ∷ Stop 4 0 (InDown 0) ∷ [])) 1 ≡ Accept seven (0 ∷ []) p ∷ [])
    × (is_up (slice_get (after open_links (chain 1) (p ∷ []) (Write 0 0 ∷ Send 0 ∷ Stop 4 0 (InDown 0) ∷ [])).nodes 1) ≡ false)
    × delivered (Write 0 0 ∷ Send 0 ∷ Stop 4 0 (InDown 0) ∷ Drain ∷ [])
unfolding is_open lists judged open_links edge chain seven p delivered
broker_stopped = (refl, refl, refl, (refl, refl, refl))

-- two links to one broker, of which the second passes marked packets alone
second_marked : ℕ → ℕ → List ℕ → Bool
second_marked node (suc zero) packet = is_marked packet
second_marked node number packet = true

by_number : Rules
by_number = record open_links { passes = second_marked }

parallel : Graph
parallel = record { nodes = Author ∷ Broker ∷ Broker ∷ []; edges = edge 0 1 ∷ edge 1 2 ∷ edge 1 2 ∷ []; window = 1 }

parallel_links : (notes_at (after by_number parallel (p ∷ []) (Write 0 0 ∷ Drain ∷ [])) 1 ≡ Accept seven (0 ∷ []) p ∷ Done 0 seven ∷ [])
    × (notes_at (after by_number parallel (other ∷ []) (Write 0 0 ∷ Drain ∷ [])) 1 ≡ Accept seven (0 ∷ 1 ∷ []) other ∷ Done 0 seven ∷ Done 1 seven ∷ [])
unfolding is_open lists judged open_links by_number second_marked is_marked edge parallel seven p other
parallel_links = (refl, refl)

-- one node's rules, and the same over a journal without room
open_node : NodeRules
open_node = rules_at open_links 0

full_node : NodeRules
full_node = record open_node { has_room = λ notes note. false }

-- what is no packet is refused with its number, and with its identifier where it has one
verdicts : (broker_packet open_node 1 [] true (0 ∷ []) ≡ says (Nak None (Tree 4)))
    × (broker_packet open_node 1 [] true (1 ∷ []) ≡ says (Nak None (Validity 1)))
    × (subscriber_packet open_node [] (1 ∷ 7 ∷ []) ≡ says (Nak (Some seven) (Validity 5)))
    × (subscriber_packet full_node [] p ≡ says (Nak (Some seven) NoRoom))
    × (broker_packet open_node 1 (Accept seven [] p ∷ []) true other ≡ says (Nak (Some seven) Conflict))
    × (broker_packet open_node 1 (Accept seven [] p ∷ []) true p ≡ says (Ack seven))
    × (broker_packet open_node 1 (Accept seven [] p ∷ []) false other ≡ says (Ack seven))
    × (broker_packet full_node 1 (Accept seven [] p ∷ []) false p ≡ says (Ack seven))
    × (broker_packet open_node 2 [] false p ≡ record { added = Accept seven (0 ∷ 1 ∷ []) p ∷ []; answer = Ack seven })
unfolding is_open lists judged open_links open_node full_node seven p other
verdicts = (refl, refl, refl, refl, refl, refl, refl, refl, refl)

-- an author's answers
author_answers : (author_write open_node [] p ≡ record { added = Wrote seven p ∷ []; answer = a.Wrote })
    × (author_write open_node (Wrote seven p ∷ []) other ≡ says a.Known)
    × (author_write open_node [] (0 ∷ []) ≡ says (a.Refused (Tree 4)))
    × (author_write open_node [] (1 ∷ 7 ∷ []) ≡ says (a.Refused (Validity 5)))
    × (author_write full_node [] p ≡ says a.Full)
    × (author_next (Wrote seven p ∷ []) 0 0 ≡ says (a.Packet 0 seven p))
    × (author_next (Wrote seven p ∷ []) 0 1 ≡ says a.Nothing)
    × (author_next (Wrote seven p ∷ Acked 0 seven ∷ []) 0 0 ≡ says a.Nothing)
    × (author_next (Wrote seven p ∷ Acked 0 seven ∷ []) 1 0 ≡ says (a.Packet 0 seven p))
    × (author_answer open_node (Wrote seven p ∷ []) 0 seven true ≡ record { added = Acked 0 seven ∷ []; answer = a.Noted })
    × (author_answer open_node (Wrote seven p ∷ []) 0 seven false ≡ record { added = Refused 0 seven ∷ []; answer = a.Noted })
    × (author_answer open_node [] 0 seven true ≡ says a.Passed)
    × (author_answer full_node (Wrote seven p ∷ []) 0 seven true ≡ says a.Full)
unfolding is_open lists judged open_links open_node full_node seven p other
author_answers = (refl, refl, refl, refl, refl, refl, refl, refl, refl, refl, refl, refl, refl)

-- a session is joined by a configured name, its first place deciding; an older session is replaced
joining : (broker_join (seven ∷ seven ∷ []) [] (0 ∷ 0 ∷ []) seven ≡ record { sessions = 1 ∷ 0 ∷ []; answer = b.Joined 0 1 })
    × (broker_join (seven ∷ []) [] (1 ∷ []) seven ≡ record { sessions = 2 ∷ []; answer = b.Joined 0 2 })
    × (broker_join (seven ∷ []) (Accept seven [] p ∷ []) (0 ∷ []) p ≡ record { sessions = 0 ∷ []; answer = b.Guest 1 })
    × (broker_join (seven ∷ []) [] (18446744073709551615 ∷ []) seven ≡ record { sessions = 18446744073709551615 ∷ []; answer = b.Joined 0 18446744073709551615 })
    × (broker_next [] (2 ∷ []) 0 1 0 ≡ says (b.Replaced 2)) × (broker_next [] (2 ∷ []) 0 2 0 ≡ says b.Nothing)
    × (broker_acked open_node (Accept seven (0 ∷ []) p ∷ []) (2 ∷ []) 0 1 seven ≡ says (b.Replaced 2))
unfolding is_open lists judged open_links open_node seven p
joining = (refl, refl, refl, refl, refl, refl, refl)

-- a broker's answers in a session and to a guest
broker_answers : (broker_next (Accept seven (0 ∷ []) p ∷ []) (1 ∷ []) 0 1 0 ≡ says (b.Packet 0 seven p))
    × (broker_next (Accept seven (0 ∷ []) p ∷ Done 0 seven ∷ []) (1 ∷ []) 0 1 0 ≡ says b.Nothing)
    × (broker_next (Accept seven [] p ∷ []) (1 ∷ []) 0 1 0 ≡ says b.Nothing)
    × (broker_acked open_node (Accept seven (0 ∷ []) p ∷ []) (1 ∷ []) 0 1 seven ≡ record { added = Done 0 seven ∷ []; answer = b.Noted })
    × (broker_acked open_node [] (1 ∷ []) 0 1 seven ≡ says b.Passed)
    × (broker_acked full_node (Accept seven (0 ∷ []) p ∷ []) (1 ∷ []) 0 1 seven ≡ says b.Full)
    × (broker_live (Accept seven [] p ∷ []) 0 is_marked ≡ says b.Nothing)
    × (broker_live (Accept seven [] other ∷ []) 0 is_marked ≡ says (b.Packet 0 seven other))
    × (broker_live (Accept seven [] other ∷ []) 1 is_marked ≡ says b.Nothing)
unfolding is_open lists judged open_links open_node full_node is_marked seven p other
broker_answers = (refl, refl, refl, refl, refl, refl, refl, refl, refl)
