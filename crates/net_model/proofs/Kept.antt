-- Every event, and so every run, keeps the network sound.
use Rattle.std.proofs.Common.{◌≡◌, ℕ, zero, suc, ◌+◌, ◌*◌, Bool, true, false, cond, List, [], ◌∷◌, ◌++◌, length, Option, Some, None, inl, inr, refl, sym, ap, ◌∙◌, arith}
use Rattle.std.specs.Prelude.{slice_get, slice_set, ◌==◌, nat_lt}
use Rattle.net_model.specs.declared.scenario.Edge.{Edge}
use Rattle.net_model.specs.declared.scenario.Graph.{Graph}
use Rattle.voe_values.specs.declared.kind.NodeKind.{NodeKind}
use Rattle.voe_values.specs.declared.kind.NodeKind.TheVariants.{Author, Broker, Subscriber}
use Rattle.net_model.specs.declared.note.Note.TheVariants.{Acked, Refused, Accept, Done, Enter}
use Rattle.net_model.specs.declared.state.Verdict.{Verdict}
use Rattle.net_model.specs.declared.state.Verdict.TheVariants.{Ack, Nak}
use Rattle.net_model.specs.declared.state.Node.{Node}
use Rattle.net_model.specs.declared.state.Wire.{Wire}
use Rattle.net_model.specs.declared.state.State.{State}
use Rattle.net_model.specs.Connections.{connect, connect_wire, connection, connections, crash, crash_node, cut, cut_round, cut_wire, down_node, joined, joins, last_session, reopen, reopen_found, unconnected, up_node, with_node}
use Rattle.net_model.specs.Flights.{arrive, arrive_first, arrive_over, arrives, author_hears, broker_hears, hear, hear_first, hear_over, heard, next_over, reply_at, send, send_over, sends, writes}
use Rattle.net_model.specs.Laws.{HasSource, IsIn, down_of, up_of}
use Rattle.net_model.specs.Nodes.{is_author, is_up, links_of, notes_at, notes_of, number_of, sessions_of, with_notes, with_wire}
use Rattle.net_model.specs.Notes.{Placed, knows, passing}
use Rattle.net_model.specs.Rounds.{all_written, connects, cuts, reopens, restarted, round, rounds, turn, turns}
use Rattle.net_model.specs.Rules.{Rules, rules_at}
use Rattle.net_model.specs.Runs.{actor_of, beginning, first_nodes, happens, inner_happens, is_kept, run, stopped}
use Rattle.net_model.specs.Steps.{Reply, author_write, broker_judged, join_link, last_of, says, settles, subscriber_judged}
use Rattle.net_model.specs.declared.step.Judged.{Judged}
use Rattle.net_model.specs.declared.step.Judged.TheVariants.{BadTree, BadPacket, Good}
use Rattle.net_model.specs.declared.step.AuthorStep.TheVariants.{Noted as IsNoted, Full as HasNoRoom, Passed as IsPassed}
use Rattle.net_model.specs.declared.step.BrokerStep.TheVariants.{Noted as DoneNoted, Full as DoneNoRoom, Passed as DonePassed, Replaced}
use Rattle.net_model.proofs.Sound.{IsTold, IsRefusable, IsAnswered, IsTurnedAway, IsSound}
use Rattle.net_model.proofs.Members.{IsIn-append, get-set, not_empty, length-slice_set}
use Rattle.net_model.proofs.Growth.{Follows, Follows-same}
use Rattle.net_model.proofs.Places.{edges_of-number_of}
use Rattle.net_model.proofs.Steps.{MayAdd, Follows-with_notes, Follows-with_wire}
use Rattle.net_model.specs.declared.scenario.Event.{Event}
use Rattle.net_model.specs.declared.scenario.Event.TheVariants.{Write, Send, Down, Up, Cut, Connect, Crash, Reopen, Stop, Drain}
use Rattle.net_model.specs.declared.scenario.Inner.{Inner}
use Rattle.net_model.specs.declared.scenario.Inner.TheVariants.{Write as InWrite, Down as InDown, Up as InUp}
use Rattle.net_model.proofs.Growth.{IsSound-follows}
use Rattle.net_model.proofs.Events.{MayAdd-author_write, MayAdd-none, MayAdd-reply_to, MayAdd-settles, Tells, source-good, IsTold-with_notes, reply_to-tells, first_to_send-found, to_send-offered, source_of-offered, some_same}

is_author-kind : (kind : Option NodeKind) → is_author kind ≡ true → kind ≡ Some Author
is_author-kind (Some Author) h = refl
is_author-kind (Some Broker) h = cc
is_author-kind (Some Subscriber) h = cc
is_author-kind None h = cc

with_node-size : (change : Node → Node) (nodes : List Node) (n : ℕ) → length (with_node change nodes n (slice_get nodes n)) ≡ length nodes
with_node-size change nodes n = elim (slice_get nodes n) as (λ o. length (with_node change nodes n o) ≡ length nodes)
    [ None ↦ refl | Some node ↦ length-slice_set nodes n (change node) ]

joined-size : (nodes : List Node) (n number : ℕ) → length (joined nodes n number (slice_get nodes n)) ≡ length nodes
joined-size nodes n number = elim (slice_get nodes n) as (λ o. length (joined nodes n number o) ≡ length nodes)
    [ None ↦ refl | Some node ↦ length-slice_set nodes n _ ]

first_nodes-size : (graph : Graph) (k : ℕ) (kinds : List NodeKind) → length (first_nodes graph k kinds) ≡ length kinds
first_nodes-size graph k [] = refl
first_nodes-size graph k (kind ∷ kinds) = ap suc (first_nodes-size graph (k + 1) kinds)

-- a change of a node that leaves its notes
pub with_node-notes : (change : Node → Node) → ((node : Node) → (change node).notes ≡ node.notes)
    → (nodes : List Node) (n m : ℕ) → notes_of (slice_get (with_node change nodes n (slice_get nodes n)) m) ≡ notes_of (slice_get nodes m)
with_node-notes change same nodes n m =
    elim (slice_get nodes n) as (λ o. slice_get nodes n ≡ o → notes_of (slice_get (with_node change nodes n o) m) ≡ notes_of (slice_get nodes m)) [
      | None ↦ λ is. refl
      | Some node ↦ λ is. elim (get-set nodes n m (change node))
          [ inl unchanged ↦ ap notes_of unchanged | inr both ↦ rw both.1 (rw (both.0, is) (same node)) ]
    ] refl

pub set-notes : (nodes : List Node) (n : ℕ) (old new : Node) → slice_get nodes n ≡ Some old → new.notes ≡ old.notes
    → (m : ℕ) → notes_of (slice_get (slice_set nodes n new) m) ≡ notes_of (slice_get nodes m)
set-notes nodes n old new is same m =
    elim (get-set nodes n m new) [ inl unchanged ↦ ap notes_of unchanged | inr both ↦ rw both.1 (rw (both.0, is) same) ]

pub joined-notes : (nodes : List Node) (n number m : ℕ) → notes_of (slice_get (joined nodes n number (slice_get nodes n)) m) ≡ notes_of (slice_get nodes m)
joined-notes nodes n number m =
    elim (slice_get nodes n) as (λ o. slice_get nodes n ≡ o → notes_of (slice_get (joined nodes n number o) m) ≡ notes_of (slice_get nodes m)) [
      | None ↦ λ is. refl
      | Some node ↦ λ is. elim (get-set nodes n m (record node { sessions = join_link node.sessions number }))
          [ inl unchanged ↦ ap notes_of unchanged | inr both ↦ rw both.1 (rw (both.0, is) refl) ]
    ] refl

module _ (rules : Rules) (graph : Graph) (state : State) where
  Follows-writes : (a : ℕ) (found : Option Node) (packet : Option (List ℕ))
      → Follows rules graph state (writes rules state a (is_author (slice_get graph.nodes a)) found packet)
  Follows-writes a None packet = Follows-same rules graph state
  Follows-writes a (Some node) None = Follows-same rules graph state
  Follows-writes a (Some node) (Some packet) =
      elim (is_author (slice_get graph.nodes a)) as (λ b. is_author (slice_get graph.nodes a) ≡ b
      → Follows rules graph state (writes rules state a b (Some node) (Some packet))) [
        | false ↦ λ is. Follows-same rules graph state
        | true ↦ λ is. elim node.up as (λ b. Follows rules graph state
            (cond b (with_notes state a (author_write (rules_at rules a) (notes_at state a) packet).added) state)) [
              | false ↦ Follows-same rules graph state
              | true ↦ Follows-with_notes rules graph state a _ (MayAdd-author_write rules graph state a packet (is_author-kind (slice_get graph.nodes a) is))
            ]
      ] refl

  Follows-sends : (e : ℕ) (edge : Edge) (wire : Wire) (first : Option Placed)
      → slice_get graph.edges e ≡ Some edge → slice_get state.wires e ≡ Some wire
      → next_over graph state e edge wire ≡ first
      → Follows rules graph state (sends state e wire first)
  Follows-sends e edge wire None is at h = Follows-same rules graph state
  Follows-sends e edge wire (Some first) is at h =
      let found = first_to_send-found (notes_at state edge.upper) (number_of graph.edges edge.upper e) wire.sent 0 (notes_at state edge.upper) first h in
      Follows-with_wire rules graph state state e _ (Follows-same rules graph state)
      (λ other packet is' in'. elim (IsIn-append packet wire.down (first.1.packet ∷ []) in') [
        | inl before ↦ inl (rw at before)
        | inr now ↦ elim now [
          | inl same ↦ inr (rw same (let same_edge : edge ≡ other = some_same edge other (sym is ∙ is') in rw (← same_edge) (to_send-offered state edge.upper (number_of graph.edges edge.upper e) found.0 first.1 found.1 found.2)))
          | inr none ↦ absurd none
        ]
      ])
      (λ other answer is' in'. inl (rw at in'))

  Follows-send : (e : ℕ) → Follows rules graph state (send graph state e)
  Follows-send e =
      elim (slice_get graph.edges e) as (λ o. slice_get graph.edges e ≡ o → Follows rules graph state (send_over graph state e o (slice_get state.wires e))) [
        | None ↦ λ is. Follows-same rules graph state
        | Some edge ↦ λ is.
            elim (slice_get state.wires e) as (λ o. slice_get state.wires e ≡ o → Follows rules graph state (send_over graph state e (Some edge) o)) [
              | None ↦ λ at. Follows-same rules graph state
              | Some wire ↦ λ at.
                  elim wire.connected as (λ b. Follows rules graph state (cond b (cond (nat_lt wire.unanswered graph.window)
                  (sends state e wire (next_over graph state e edge wire)) state) state)) [
                    | false ↦ Follows-same rules graph state
                    | true ↦ elim (nat_lt wire.unanswered graph.window) as (λ b. Follows rules graph state (cond b
                        (sends state e wire (next_over graph state e edge wire)) state)) [
                          | false ↦ Follows-same rules graph state
                          | true ↦ Follows-sends e edge wire _ is at refl
                        ]
                  ]
            ] refl
      ] refl

  Follows-arrives : (e : ℕ) (edge : Edge) (wire : Wire) (packet : List ℕ) (rest : List (List ℕ)) (node : Node) (reply : Reply)
      → slice_get graph.edges e ≡ Some edge → slice_get state.wires e ≡ Some wire → wire.down ≡ packet ∷ rest → slice_get state.nodes edge.lower ≡ Some node
      → MayAdd rules graph state edge.lower reply.added → Tells rules state edge.lower (notes_at state edge.lower ++ reply.added) reply.answer
      → Follows rules graph state (arrives state e edge wire rest (Some reply))
  Follows-arrives e edge wire packet rest node reply is at has up may tells =
      Follows-with_wire rules graph state (with_notes state edge.lower reply.added) e _ (Follows-with_notes rules graph state edge.lower reply.added may)
      (λ other sent is' in'. inl (rw at (rw has (inr in'))))
      (λ other answer is' in'. elim (IsIn-append answer wire.up (reply.answer ∷ []) in') [
        | inl before ↦ inl (rw at before)
        | inr now ↦ elim now [
          | inl same ↦ inr (rw same (let same_edge : edge ≡ other = some_same edge other (sym is ∙ is') in
              rw (← same_edge) (IsTold-with_notes rules state edge.lower reply.added node reply.answer up tells)))
          | inr none ↦ absurd none
        ]
      ])

  -- what is in flight is good
  good_in_flight : (e : ℕ) (edge : Edge) (wire : Wire) (packet : List ℕ) (rest : List (List ℕ))
      → IsSound rules graph state → slice_get graph.edges e ≡ Some edge → slice_get state.wires e ≡ Some wire → wire.down ≡ packet ∷ rest
      → HasSource graph state packet edge.lower
  good_in_flight e edge wire packet rest sound is at has =
      source_of-offered rules graph state e edge packet sound is (sound.down e edge packet is (rw at (rw has (inl refl))))

  Follows-broker : (e : ℕ) (edge : Edge) (wire : Wire) (packet : List ℕ) (rest : List (List ℕ)) (node : Node) (from_line : Bool) (judged : Judged)
      → IsSound rules graph state → slice_get graph.edges e ≡ Some edge → slice_get state.wires e ≡ Some wire → wire.down ≡ packet ∷ rest
      → slice_get state.nodes edge.lower ≡ Some node → slice_get graph.nodes edge.lower ≡ Some Broker → rules.judge packet ≡ judged
      → Follows rules graph state (arrives state e edge wire rest (Some (broker_judged (rules_at rules edge.lower) (links_of graph edge.lower) (notes_at state edge.lower) from_line packet judged)))
  Follows-broker e edge wire packet rest node from_line (BadTree number) sound is at has up kind bad =
      let good = source-good rules graph state packet edge.lower sound (good_in_flight e edge wire packet rest sound is at has) in
      let clash : BadTree number ≡ Good good.0 = sym bad ∙ good.1 in cc
  Follows-broker e edge wire packet rest node from_line (BadPacket number identifier) sound is at has up kind bad =
      let good = source-good rules graph state packet edge.lower sound (good_in_flight e edge wire packet rest sound is at has) in
      let clash : BadPacket number identifier ≡ Good good.0 = sym bad ∙ good.1 in cc
  Follows-broker e edge wire packet rest node from_line (Good identifier) sound is at has up kind good =
      let source = good_in_flight e edge wire packet rest sound is at has in
      let note = Accept identifier (passing (rules_at rules edge.lower) 0 (links_of graph edge.lower) packet) packet in
      Follows-arrives e edge wire packet rest node _ is at has up
      (MayAdd-reply_to rules graph state edge.lower from_line packet identifier note (kind, good, refl, source) (λ other. refl))
      (reply_to-tells rules graph state sound edge.lower packet identifier good source from_line note (λ other. refl))

  Follows-subscriber : (e : ℕ) (edge : Edge) (wire : Wire) (packet : List ℕ) (rest : List (List ℕ)) (node : Node) (judged : Judged)
      → IsSound rules graph state → slice_get graph.edges e ≡ Some edge → slice_get state.wires e ≡ Some wire → wire.down ≡ packet ∷ rest
      → slice_get state.nodes edge.lower ≡ Some node → slice_get graph.nodes edge.lower ≡ Some Subscriber → rules.judge packet ≡ judged
      → Follows rules graph state (arrives state e edge wire rest (Some (subscriber_judged (rules_at rules edge.lower) (notes_at state edge.lower) packet judged)))
  Follows-subscriber e edge wire packet rest node (BadTree number) sound is at has up kind bad =
      let good = source-good rules graph state packet edge.lower sound (good_in_flight e edge wire packet rest sound is at has) in
      let clash : BadTree number ≡ Good good.0 = sym bad ∙ good.1 in cc
  Follows-subscriber e edge wire packet rest node (BadPacket number identifier) sound is at has up kind bad =
      let good = source-good rules graph state packet edge.lower sound (good_in_flight e edge wire packet rest sound is at has) in
      let clash : BadPacket number identifier ≡ Good good.0 = sym bad ∙ good.1 in cc
  Follows-subscriber e edge wire packet rest node (Good identifier) sound is at has up kind good =
      let source = good_in_flight e edge wire packet rest sound is at has in
      Follows-arrives e edge wire packet rest node _ is at has up
      (MayAdd-reply_to rules graph state edge.lower false packet identifier (Enter identifier packet) (kind, good, source) (λ other. refl))
      (reply_to-tells rules graph state sound edge.lower packet identifier good source false (Enter identifier packet) (λ other. refl))

  Follows-reply_at : (e : ℕ) (edge : Edge) (wire : Wire) (packet : List ℕ) (rest : List (List ℕ)) (node : Node) (from_line : Bool) (kind : Option NodeKind)
      → IsSound rules graph state → slice_get graph.edges e ≡ Some edge → slice_get state.wires e ≡ Some wire → wire.down ≡ packet ∷ rest
      → slice_get state.nodes edge.lower ≡ Some node → slice_get graph.nodes edge.lower ≡ kind
      → Follows rules graph state (arrives state e edge wire rest (reply_at rules graph edge.lower from_line (notes_at state edge.lower) packet kind))
  Follows-reply_at e edge wire packet rest node from_line (Some Broker) sound is at has up kind =
      Follows-broker e edge wire packet rest node from_line (rules.judge packet) sound is at has up kind refl
  Follows-reply_at e edge wire packet rest node from_line (Some Subscriber) sound is at has up kind =
      Follows-subscriber e edge wire packet rest node (rules.judge packet) sound is at has up kind refl
  Follows-reply_at e edge wire packet rest node from_line (Some Author) sound is at has up kind = Follows-same rules graph state
  Follows-reply_at e edge wire packet rest node from_line None sound is at has up kind = Follows-same rules graph state

  Follows-arrive_first : (e : ℕ) (edge : Edge) (wire : Wire) (down : List (List ℕ)) (found : Option Node)
      → IsSound rules graph state → slice_get graph.edges e ≡ Some edge → slice_get state.wires e ≡ Some wire → wire.down ≡ down
      → slice_get state.nodes edge.lower ≡ found → Follows rules graph state (arrive_first rules graph state e edge wire down found)
  Follows-arrive_first e edge wire [] found sound is at has up = Follows-same rules graph state
  Follows-arrive_first e edge wire (packet ∷ rest) None sound is at has up = Follows-same rules graph state
  Follows-arrive_first e edge wire (packet ∷ rest) (Some node) sound is at has up =
      Follows-reply_at e edge wire packet rest node (is_author (slice_get graph.nodes edge.upper)) (slice_get graph.nodes edge.lower) sound is at has up refl

  Follows-arrive : (e : ℕ) → IsSound rules graph state → Follows rules graph state (arrive rules graph state e)
  Follows-arrive e sound =
      elim (slice_get graph.edges e) as (λ o. slice_get graph.edges e ≡ o → Follows rules graph state (arrive_over rules graph state e o (slice_get state.wires e))) [
        | None ↦ λ is. Follows-same rules graph state
        | Some edge ↦ λ is.
            elim (slice_get state.wires e) as (λ o. slice_get state.wires e ≡ o → Follows rules graph state (arrive_over rules graph state e (Some edge) o)) [
              | None ↦ λ at. Follows-same rules graph state
              | Some wire ↦ λ at. Follows-arrive_first e edge wire wire.down (slice_get state.nodes edge.lower) sound is at refl refl
            ] refl
      ] refl

  -- an answer on the upper node's edge of this number, which is this one
  IsAnswered-by : (e : ℕ) (edge : Edge) (identifier : List ℕ) → slice_get graph.edges e ≡ Some edge → knows (notes_at state edge.lower) identifier ≡ true
      → IsAnswered graph state edge.upper (number_of graph.edges edge.upper e) identifier
  IsAnswered-by e edge identifier is known other found =
      let same : edge ≡ other = some_same edge other (sym (edges_of-number_of graph.edges e edge is) ∙ found) in rw (← same) known

  IsTurnedAway-by : (e : ℕ) (edge : Edge) (identifier : List ℕ) → slice_get graph.edges e ≡ Some edge → IsRefusable rules state edge.lower identifier
      → IsTurnedAway rules graph state edge.upper (number_of graph.edges edge.upper e) identifier
  IsTurnedAway-by e edge identifier is refusable other found =
      let same : edge ≡ other = some_same edge other (sym (edges_of-number_of graph.edges e edge is) ∙ found) in rw (← same) refusable

  MayAdd-author_hears : (e : ℕ) (edge : Edge) (answer : Verdict) → slice_get graph.edges e ≡ Some edge → slice_get graph.nodes edge.upper ≡ Some Author
      → IsTold rules state edge.lower answer
      → MayAdd rules graph state edge.upper (author_hears (rules_at rules edge.upper) (notes_at state edge.upper) (number_of graph.edges edge.upper e) answer)
  MayAdd-author_hears e edge (Ack identifier) is kind told =
      MayAdd-settles rules graph state edge.upper (number_of graph.edges edge.upper e) identifier (Acked _ identifier) IsNoted HasNoRoom IsPassed
      (λ due. (kind, due, IsAnswered-by e edge identifier is told)) (λ other. refl)
  MayAdd-author_hears e edge (Nak (Some identifier) code) is kind told =
      MayAdd-settles rules graph state edge.upper (number_of graph.edges edge.upper e) identifier (Refused _ identifier) IsNoted HasNoRoom IsPassed
      (λ due. (kind, due, IsTurnedAway-by e edge identifier is told)) (λ other. refl)
  MayAdd-author_hears e edge (Nak None code) is kind told = MayAdd-none rules graph state edge.upper

  MayAdd-broker_hears : (e : ℕ) (edge : Edge) (sessions : List ℕ) (session : ℕ) (answer : Verdict) → slice_get graph.edges e ≡ Some edge
      → slice_get graph.nodes edge.upper ≡ Some Broker → IsTold rules state edge.lower answer
      → MayAdd rules graph state edge.upper (broker_hears (rules_at rules edge.upper) (notes_at state edge.upper) sessions (number_of graph.edges edge.upper e) session answer)
  MayAdd-broker_hears e edge sessions session (Ack identifier) is kind told =
      let number = number_of graph.edges edge.upper e in
      let last = last_of sessions number in
      let done = settles (rules_at rules edge.upper) (notes_at state edge.upper) number identifier (Done number identifier) DoneNoted DoneNoRoom DonePassed in
      elim (nat_lt session last) as (λ b. MayAdd rules graph state edge.upper (cond b (says (Replaced last)) done).added) [
        | true ↦ MayAdd-none rules graph state edge.upper
        | false ↦ MayAdd-settles rules graph state edge.upper number identifier (Done number identifier) DoneNoted DoneNoRoom DonePassed
            (λ due. (kind, due, IsAnswered-by e edge identifier is told)) (λ other. refl)
      ]
  MayAdd-broker_hears e edge sessions session (Nak identifier code) is kind told = MayAdd-none rules graph state edge.upper

  MayAdd-heard : (e : ℕ) (edge : Edge) (sessions : List ℕ) (session : ℕ) (answer : Verdict) (kind : Option NodeKind) → slice_get graph.edges e ≡ Some edge
      → slice_get graph.nodes edge.upper ≡ kind → IsTold rules state edge.lower answer
      → MayAdd rules graph state edge.upper (heard (rules_at rules edge.upper) (notes_at state edge.upper) sessions (number_of graph.edges edge.upper e) session answer kind)
  MayAdd-heard e edge sessions session answer (Some Author) is kind told = MayAdd-author_hears e edge answer is kind told
  MayAdd-heard e edge sessions session answer (Some Broker) is kind told = MayAdd-broker_hears e edge sessions session answer is kind told
  MayAdd-heard e edge sessions session answer (Some Subscriber) is kind told = MayAdd-none rules graph state edge.upper
  MayAdd-heard e edge sessions session answer None is kind told = MayAdd-none rules graph state edge.upper

  Follows-hear_first : (e : ℕ) (edge : Edge) (wire : Wire) (up : List Verdict) → IsSound rules graph state
      → slice_get graph.edges e ≡ Some edge → slice_get state.wires e ≡ Some wire → wire.up ≡ up
      → Follows rules graph state (hear_first rules graph state e edge wire up)
  Follows-hear_first e edge wire [] sound is at has = Follows-same rules graph state
  Follows-hear_first e edge wire (answer ∷ rest) sound is at has =
      Follows-with_wire rules graph state _ e _
      (Follows-with_notes rules graph state edge.upper _
      (MayAdd-heard e edge (sessions_of (slice_get state.nodes edge.upper)) wire.session answer (slice_get graph.nodes edge.upper) is refl (sound.up e edge answer is (rw at (rw has (inl refl))))))
      (λ other packet is' in'. inl (rw at in'))
      (λ other answer is' in'. inl (rw at (rw has (inr in'))))

  Follows-hear : (e : ℕ) → IsSound rules graph state → Follows rules graph state (hear rules graph state e)
  Follows-hear e sound =
      elim (slice_get graph.edges e) as (λ o. slice_get graph.edges e ≡ o → Follows rules graph state (hear_over rules graph state e o (slice_get state.wires e))) [
        | None ↦ λ is. Follows-same rules graph state
        | Some edge ↦ λ is.
            elim (slice_get state.wires e) as (λ o. slice_get state.wires e ≡ o → Follows rules graph state (hear_over rules graph state e (Some edge) o)) [
              | None ↦ λ at. Follows-same rules graph state
              | Some wire ↦ λ at. Follows-hear_first e edge wire wire.up sound is at refl
            ] refl
      ] refl

  -- the same notes, and nothing new in flight
  Follows-quieter : (new : State) → length new.nodes ≡ length state.nodes → length new.wires ≡ length state.wires → ((n : ℕ) → notes_at new n ≡ notes_at state n)
      → ((e : ℕ) (packet : List ℕ) → IsIn packet (down_of (slice_get new.wires e)) → IsIn packet (down_of (slice_get state.wires e)))
      → ((e : ℕ) (answer : Verdict) → IsIn answer (up_of (slice_get new.wires e)) → IsIn answer (up_of (slice_get state.wires e)))
      → Follows rules graph state new
  Follows-quieter new size wires same down up = record {
    size = size;
    wires = wires;
    grows = record { kept = λ n note h. rw (same n) h };
    notes = λ n before note after h. inl (after, sym (same n) ∙ h);
    down = λ e edge packet is h. inl (down e packet h);
    up = λ e edge answer is h. inl (up e answer h);
    single = λ before n identifier. rw (same n) (before n identifier);
  }

  Follows-cut_wire : (e : ℕ) (found : Option Wire) → Follows rules graph state (cut_wire state e found)
  Follows-cut_wire e None = Follows-same rules graph state
  Follows-cut_wire e (Some wire) =
      elim wire.connected as (λ b. Follows rules graph state (cond b (with_wire state e unconnected) state)) [
        | true ↦ Follows-with_wire rules graph state state e _ (Follows-same rules graph state) (λ edge packet is h. absurd h) (λ edge answer is h. absurd h)
        | false ↦ Follows-same rules graph state
      ]

  Follows-joins : (n number e : ℕ) → Follows rules graph state (joins (joined state.nodes n number (slice_get state.nodes n)) state.wires n number e)
  Follows-joins n number e =
      let nodes = joined state.nodes n number (slice_get state.nodes n) in
      let wire = connection (last_session (slice_get nodes n) number) in
      Follows-quieter (joins nodes state.wires n number e) (joined-size state.nodes n number) (length-slice_set state.wires e wire) (joined-notes state.nodes n number)
      (λ other packet h. elim (get-set state.wires e other wire) [ inl same ↦ rw same at h | inr both ↦ absurd (rw both.1 at h) ])
      (λ other answer h. elim (get-set state.wires e other wire) [ inl same ↦ rw same at h | inr both ↦ absurd (rw both.1 at h) ])

  Follows-connect_wire : (e : ℕ) (edge : Option Edge) (found : Option Wire) → Follows rules graph state (connect_wire graph state e edge found)
  Follows-connect_wire e None found = Follows-same rules graph state
  Follows-connect_wire e (Some edge) None = Follows-same rules graph state
  Follows-connect_wire e (Some edge) (Some wire) =
      let number = number_of graph.edges edge.upper e in
      let new = joins (joined state.nodes edge.upper number (slice_get state.nodes edge.upper)) state.wires edge.upper number e in
      elim wire.connected as (λ b. Follows rules graph state (cond b state (cond (is_up (slice_get state.nodes edge.upper)) (cond (is_up (slice_get state.nodes edge.lower)) new state) state))) [
        | true ↦ Follows-same rules graph state
        | false ↦ elim (is_up (slice_get state.nodes edge.upper)) as (λ b. Follows rules graph state (cond b (cond (is_up (slice_get state.nodes edge.lower)) new state) state)) [
          | false ↦ Follows-same rules graph state
          | true ↦ elim (is_up (slice_get state.nodes edge.lower)) as (λ b. Follows rules graph state (cond b new state))
              [ false ↦ Follows-same rules graph state | true ↦ Follows-joins edge.upper number e ]
        ]
      ]

cut_round-size : (n : ℕ) (edges : List Edge) (wires : List Wire) → length (cut_round n edges wires) ≡ length wires
cut_round-size n edges [] = refl
cut_round-size n [] (wire ∷ wires) = refl
cut_round-size n (edge ∷ edges) (wire ∷ wires) = ap suc (cut_round-size n edges wires)

cut_round-down : (n : ℕ) (edges : List Edge) (wires : List Wire) (e : ℕ) (packet : List ℕ)
    → IsIn packet (down_of (slice_get (cut_round n edges wires) e)) → IsIn packet (down_of (slice_get wires e))
cut_round-down n edges [] e packet h = h
cut_round-down n [] (wire ∷ wires) e packet h = h
cut_round-down n (edge ∷ edges) (wire ∷ wires) zero packet h =
    elim (edge.upper == n) as (λ b. IsIn packet (cond b unconnected (cond (edge.lower == n) unconnected wire)).down → IsIn packet wire.down) [
      | true ↦ λ in'. absurd in'
      | false ↦ λ in'. elim (edge.lower == n) as (λ b. IsIn packet (cond b unconnected wire).down → IsIn packet wire.down)
          [ true ↦ λ none. absurd none | false ↦ λ same. same ] in'
    ] h
cut_round-down n (edge ∷ edges) (wire ∷ wires) (suc e) packet h = cut_round-down n edges wires e packet h

cut_round-up : (n : ℕ) (edges : List Edge) (wires : List Wire) (e : ℕ) (answer : Verdict)
    → IsIn answer (up_of (slice_get (cut_round n edges wires) e)) → IsIn answer (up_of (slice_get wires e))
cut_round-up n edges [] e answer h = h
cut_round-up n [] (wire ∷ wires) e answer h = h
cut_round-up n (edge ∷ edges) (wire ∷ wires) zero answer h =
    elim (edge.upper == n) as (λ b. IsIn answer (cond b unconnected (cond (edge.lower == n) unconnected wire)).up → IsIn answer wire.up) [
      | true ↦ λ in'. absurd in'
      | false ↦ λ in'. elim (edge.lower == n) as (λ b. IsIn answer (cond b unconnected wire).up → IsIn answer wire.up)
          [ true ↦ λ none. absurd none | false ↦ λ same. same ] in'
    ] h
cut_round-up n (edge ∷ edges) (wire ∷ wires) (suc e) answer h = cut_round-up n edges wires e answer h

connections-size : (graph : Graph) (nodes : List Node) (k : ℕ) (edges : List Edge) → length (connections graph nodes k edges) ≡ length edges
connections-size graph nodes k [] = refl
connections-size graph nodes k (edge ∷ edges) = ap suc (connections-size graph nodes (k + 1) edges)

connections-down : (graph : Graph) (nodes : List Node) (k : ℕ) (edges : List Edge) (e : ℕ) (packet : List ℕ) → IsIn packet (down_of (slice_get (connections graph nodes k edges) e)) → ⊥
connections-down graph nodes k [] e packet h = h
connections-down graph nodes k (edge ∷ edges) zero packet h = h
connections-down graph nodes k (edge ∷ edges) (suc e) packet h = connections-down graph nodes (k + 1) edges e packet h

connections-up : (graph : Graph) (nodes : List Node) (k : ℕ) (edges : List Edge) (e : ℕ) (answer : Verdict) → IsIn answer (up_of (slice_get (connections graph nodes k edges) e)) → ⊥
connections-up graph nodes k [] e answer h = h
connections-up graph nodes k (edge ∷ edges) zero answer h = h
connections-up graph nodes k (edge ∷ edges) (suc e) answer h = connections-up graph nodes (k + 1) edges e answer h

no_notes : (graph : Graph) (k : ℕ) (kinds : List NodeKind) (n : ℕ) → notes_of (slice_get (first_nodes graph k kinds) n) ≡ []
no_notes graph k [] n = refl
no_notes graph k (Author ∷ kinds) zero = refl
no_notes graph k (Broker ∷ kinds) zero = refl
no_notes graph k (Subscriber ∷ kinds) zero = refl
no_notes graph k (kind ∷ kinds) (suc n) = no_notes graph (k + 1) kinds n

module _ (rules : Rules) (graph : Graph) where
  IsSound-crash_node : (state : State) (n : ℕ) → IsSound rules graph state → IsSound rules graph (crash_node graph state n)
  IsSound-crash_node state n sound =
      IsSound-follows sound (Follows-quieter rules graph state (crash_node graph state n)
      (with_node-size down_node state.nodes n) (cut_round-size n graph.edges state.wires) (λ m. with_node-notes down_node (λ node. refl) state.nodes n m) (λ e packet h. cut_round-down n graph.edges state.wires e packet h)
      (λ e answer h. cut_round-up n graph.edges state.wires e answer h))

  IsSound-crash : (state : State) (n : ℕ) → IsSound rules graph state → IsSound rules graph (crash graph state n)
  IsSound-crash state n sound =
      elim (is_up (slice_get state.nodes n)) as (λ b. IsSound rules graph (cond b (crash_node graph state n) state))
      [ true ↦ IsSound-crash_node state n sound | false ↦ sound ]

  pub IsSound-reopen : (state : State) (n : ℕ) → IsSound rules graph state → IsSound rules graph (reopen state n)
  IsSound-reopen state n sound =
      elim (slice_get state.nodes n) as (λ o. slice_get state.nodes n ≡ o → IsSound rules graph (reopen_found state n o)) [
        | None ↦ λ is. sound
        | Some node ↦ λ is. elim node.up as (λ b. IsSound rules graph (cond b state (record { nodes = slice_set state.nodes n (up_node node); wires = state.wires }))) [
          | true ↦ sound
          | false ↦ IsSound-follows sound (Follows-quieter rules graph state (record { nodes = slice_set state.nodes n (up_node node); wires = state.wires })
              (length-slice_set state.nodes n (up_node node)) refl (set-notes state.nodes n node (up_node node) is refl) (λ e packet h. h) (λ e answer h. h))
        ]
      ] refl

  pub IsSound-cut : (state : State) (e : ℕ) → IsSound rules graph state → IsSound rules graph (cut state e)
  IsSound-cut state e sound = IsSound-follows sound (Follows-cut_wire rules graph state e (slice_get state.wires e))

  pub IsSound-connect : (state : State) (e : ℕ) → IsSound rules graph state → IsSound rules graph (connect graph state e)
  IsSound-connect state e sound = IsSound-follows sound (Follows-connect_wire rules graph state e (slice_get graph.edges e) (slice_get state.wires e))

  pub IsSound-cuts : (e more : ℕ) (state : State) → IsSound rules graph state → IsSound rules graph (cuts e more state)
  IsSound-cuts e zero state sound = sound
  IsSound-cuts e (suc more) state sound = IsSound-cuts (e + 1) more (cut state e) (IsSound-cut state e sound)

  pub IsSound-reopens : (n more : ℕ) (state : State) → IsSound rules graph state → IsSound rules graph (reopens n more state)
  IsSound-reopens n zero state sound = sound
  IsSound-reopens n (suc more) state sound = IsSound-reopens (n + 1) more (reopen state n) (IsSound-reopen state n sound)

  pub IsSound-connects : (e more : ℕ) (state : State) → IsSound rules graph state → IsSound rules graph (connects graph e more state)
  IsSound-connects e zero state sound = sound
  IsSound-connects e (suc more) state sound = IsSound-connects (e + 1) more (connect graph state e) (IsSound-connect state e sound)

  pub IsSound-restarted : (state : State) → IsSound rules graph state → IsSound rules graph (restarted graph state)
  IsSound-restarted state sound =
      IsSound-connects 0 (length graph.edges) (reopens 0 (length graph.nodes) (cuts 0 (length graph.edges) state))
      (IsSound-reopens 0 (length graph.nodes) (cuts 0 (length graph.edges) state) (IsSound-cuts 0 (length graph.edges) state sound))

  IsSound-beginning : IsSound rules graph (beginning graph)
  IsSound-beginning =
      let nodes = first_nodes graph 0 graph.nodes in
      record {
        notes = λ n before note after h. absurd (not_empty before note after (sym (no_notes graph 0 graph.nodes n) ∙ h));
        down = λ e edge packet is h. absurd (connections-down graph nodes 0 graph.edges e packet h);
        up = λ e edge answer is h. absurd (connections-up graph nodes 0 graph.edges e answer h);
        single = λ n identifier. rw (no_notes graph 0 graph.nodes n) (omega arith);
        size = first_nodes-size graph 0 graph.nodes;
        wires = connections-size graph nodes 0 graph.edges;
      }

  IsSound-send : (state : State) (e : ℕ) → IsSound rules graph state → IsSound rules graph (send graph state e)
  IsSound-send state e sound = IsSound-follows sound (Follows-send rules graph state e)

  IsSound-arrive : (state : State) (e : ℕ) → IsSound rules graph state → IsSound rules graph (arrive rules graph state e)
  IsSound-arrive state e sound = IsSound-follows sound (Follows-arrive rules graph state e sound)

  IsSound-hear : (state : State) (e : ℕ) → IsSound rules graph state → IsSound rules graph (hear rules graph state e)
  IsSound-hear state e sound = IsSound-follows sound (Follows-hear rules graph state e sound)

  pub IsSound-turn : (e : ℕ) (state : State) → IsSound rules graph state → IsSound rules graph (turn rules graph e state)
  IsSound-turn e state sound =
      IsSound-hear (arrive rules graph (send graph state e) e) e (IsSound-arrive (send graph state e) e (IsSound-send state e sound))

  IsSound-turns : (e more : ℕ) (state : State) → IsSound rules graph state → IsSound rules graph (turns rules graph e more state)
  IsSound-turns e zero state sound = sound
  IsSound-turns e (suc more) state sound = IsSound-turns (e + 1) more (turn rules graph e state) (IsSound-turn e state sound)

  IsSound-rounds : (more : ℕ) (state : State) → IsSound rules graph state → IsSound rules graph (rounds rules graph more state)
  IsSound-rounds zero state sound = sound
  IsSound-rounds (suc more) state sound =
      IsSound-rounds more (round rules graph state) (IsSound-turns 0 (length graph.edges) state sound)

  IsSound-inner : (packets : List (List ℕ)) (state : State) (inner : Inner) → IsSound rules graph state → IsSound rules graph (inner_happens rules graph packets state inner)
  IsSound-inner packets state (InWrite author packet) sound =
      IsSound-follows sound (Follows-writes rules graph state author (slice_get state.nodes author) (slice_get packets packet))
  IsSound-inner packets state (InDown edge) sound = IsSound-arrive state edge sound
  IsSound-inner packets state (InUp edge) sound = IsSound-hear state edge sound

  IsSound-stopped : (packets : List (List ℕ)) (state : State) (kept : Bool) (inner : Inner) (actor : Option ℕ) → IsSound rules graph state
      → IsSound rules graph (stopped rules graph packets state kept inner actor)
  IsSound-stopped packets state kept inner None sound = sound
  IsSound-stopped packets state true inner (Some actor) sound = IsSound-crash_node _ actor (IsSound-inner packets state inner sound)
  IsSound-stopped packets state false inner (Some actor) sound = IsSound-crash_node state actor sound

  -- every event keeps the network sound
  pub IsSound-happens : (packets : List (List ℕ)) (state : State) (event : Event) → IsSound rules graph state → IsSound rules graph (happens rules graph packets state event)
  IsSound-happens packets state (Write author packet) sound = IsSound-inner packets state (InWrite author packet) sound
  IsSound-happens packets state (Send edge) sound = IsSound-send state edge sound
  IsSound-happens packets state (Down edge) sound = IsSound-arrive state edge sound
  IsSound-happens packets state (Up edge) sound = IsSound-hear state edge sound
  IsSound-happens packets state (Cut edge) sound = IsSound-cut state edge sound
  IsSound-happens packets state (Connect edge) sound = IsSound-connect state edge sound
  IsSound-happens packets state (Crash node) sound = IsSound-crash state node sound
  IsSound-happens packets state (Reopen node) sound = IsSound-reopen state node sound
  IsSound-happens packets state (Stop calls fill inner) sound =
      IsSound-stopped packets state (is_kept calls fill) inner (actor_of rules graph packets state inner) sound
  IsSound-happens packets state Drain sound =
      IsSound-rounds (length graph.edges * length (all_written state.nodes)) (restarted graph state) (IsSound-restarted state sound)

  -- and so does a run
  IsSound-run_from : (packets : List (List ℕ)) (events : List Event) (state : State) → IsSound rules graph state → IsSound rules graph (run rules graph packets events state)
  IsSound-run_from packets [] state sound = sound
  IsSound-run_from packets (event ∷ events) state sound = IsSound-run_from packets events _ (IsSound-happens packets state event sound)

  pub IsSound-run : (packets : List (List ℕ)) (events : List Event) → IsSound rules graph (run rules graph packets events (beginning graph))
  IsSound-run packets events = IsSound-run_from packets events (beginning graph) IsSound-beginning
