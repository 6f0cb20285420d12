-- The shape of every state: sizes, kinds, connections.
use Rattle.std.proofs.Common.{◌≡◌, ℕ, zero, suc, ◌+◌, ◌*◌, ◌≤◌, Bool, true, false, cond, List, [], ◌∷◌, ◌++◌, length, Option, Some, None, ◌⊎◌, inl, inr, refl, sym, ap, ◌∙◌, arith, length-append, eq-eqb}
use Rattle.std.proofs.lemmas.Bool.{ltb-true}
use Rattle.std.specs.Prelude.{slice_get, slice_set, nat_lt, ◌==◌}
use Rattle.net_model.specs.declared.scenario.Edge.{Edge}
use Rattle.net_model.specs.declared.scenario.Event.{Event}
use Rattle.net_model.specs.declared.scenario.Event.TheVariants.{Write, Send, Down, Up, Cut, Connect, Crash, Reopen, Stop, Drain}
use Rattle.net_model.specs.declared.scenario.Graph.{Graph}
use Rattle.net_model.specs.declared.scenario.Inner.{Inner}
use Rattle.net_model.specs.declared.scenario.Inner.TheVariants.{Write as InWrite, Down as InDown, Up as InUp}
use Rattle.voe_values.specs.declared.kind.NodeKind.{NodeKind}
use Rattle.voe_values.specs.declared.kind.NodeKind.TheVariants.{Author, Broker, Subscriber}
use Rattle.net_model.specs.declared.note.Note.{Note}
use Rattle.net_model.specs.declared.note.Note.TheVariants.{Wrote, Acked, Refused, Accept, Done, Enter}
use Rattle.net_model.specs.declared.state.Node.{Node}
use Rattle.net_model.specs.declared.state.State.{State}
use Rattle.net_model.specs.declared.state.Verdict.{Verdict}
use Rattle.net_model.specs.declared.state.Wire.{Wire}
use Rattle.net_model.specs.Connections.{connect, connect_wire, connection, connections, crash, crash_node, cut, cut_round, cut_wire, down_node, joined, joins, last_session, reopen, reopen_found, unconnected, up_node, with_node}
use Rattle.net_model.specs.Draining.{IsProper}
use Rattle.net_model.specs.Flights.{arrive, arrive_first, arrive_over, arrives, hear, hear_first, hear_over, heard, next_over, reply_at, send, send_over, sends, with_answer, with_packet, without_answer, writes}
use Rattle.net_model.specs.Laws.{IsA}
use Rattle.net_model.specs.Nodes.{extended, is_author, is_up, notes_at, number_of, sessions_of, with_notes, with_wire}
use Rattle.net_model.specs.Notes.{Placed}
use Rattle.net_model.specs.Rounds.{all_written, connects, cuts, reopens, restarted, round, rounds, turn, turns}
use Rattle.net_model.specs.Rules.{Rules, rules_at}
use Rattle.net_model.specs.Runs.{actor_of, after, beginning, first_nodes, happens, inner_happens, is_kept, run, stopped}
use Rattle.net_model.specs.Shape.{AllWired, IsKept, IsWired, keeper}
use Rattle.net_model.specs.Steps.{Reply, author_write}
use Rattle.net_model.proofs.Growth.{justified}
use Rattle.net_model.proofs.Members.{get-set}
use Rattle.net_model.proofs.Sound.{IsJustified, IsSound}

some_same : {X : Type 0} (x y : X) → Some x ≡ Some y → x ≡ y
some_same x y h = cc

kind_of : (rules : Rules) (graph : Graph) (state : State) (n : ℕ) (before : List Note) (note : Note) → IsJustified rules graph state n before note → IsA graph n (keeper note)
kind_of rules graph state n before (Wrote identifier packet) why = why.0
kind_of rules graph state n before (Acked line identifier) why = why.0
kind_of rules graph state n before (Refused line identifier) why = why.0
kind_of rules graph state n before (Accept identifier links packet) why = why.0
kind_of rules graph state n before (Done link identifier) why = why.0
kind_of rules graph state n before (Enter identifier packet) why = why.0

pub IsKept-sound : (rules : Rules) (graph : Graph) (state : State) → IsSound rules graph state → IsKept rules graph state
IsKept-sound rules graph state sound = record {
  kind = λ n note stands. let why = justified sound n note stands in kind_of rules graph state n why.0 note why.3;
  wrote = λ n identifier packet stands. (justified sound n (Wrote identifier packet) stands).3.1;
  accepted = λ n identifier links packet stands. (justified sound n (Accept identifier links packet) stands).3.1;
  entered = λ n identifier packet stands. (justified sound n (Enter identifier packet) stands).3.1;
}

-- whether a node is up doesn't change where notes are added
up-with_notes : (state : State) (n m : ℕ) (added : List Note) → is_up (slice_get (with_notes state n added).nodes m) ≡ is_up (slice_get state.nodes m)
up-with_notes state n m [] = refl
up-with_notes state n m (first ∷ more) =
    elim (slice_get state.nodes n) as (λ o. slice_get state.nodes n ≡ o → is_up (slice_get (extended state.nodes n (first ∷ more) o) m) ≡ is_up (slice_get state.nodes m)) [
      | None ↦ λ is. refl
      | Some node ↦ λ is. elim (get-set state.nodes n m (record node { notes = node.notes ++ first ∷ more }))
          [ inl unchanged ↦ ap is_up unchanged | inr both ↦ rw both.1 (rw (both.0, is) refl) ]
    ] refl

up-joined : (nodes : List Node) (n number m : ℕ) → is_up (slice_get (joined nodes n number (slice_get nodes n)) m) ≡ is_up (slice_get nodes m)
up-joined nodes n number m =
    elim (slice_get nodes n) as (λ o. slice_get nodes n ≡ o → is_up (slice_get (joined nodes n number o) m) ≡ is_up (slice_get nodes m)) [
      | None ↦ λ is. refl
      | Some node ↦ λ is. elim (get-set nodes n m _) [ inl unchanged ↦ ap is_up unchanged | inr both ↦ rw both.1 (rw (both.0, is) refl) ]
    ] refl

up-beside : (nodes : List Node) (n m : ℕ) → (m == n) ≡ false → is_up (slice_get (with_node down_node nodes n (slice_get nodes n)) m) ≡ is_up (slice_get nodes m)
up-beside nodes n m other =
    elim (slice_get nodes n) as (λ o. is_up (slice_get (with_node down_node nodes n o) m) ≡ is_up (slice_get nodes m)) [
      | None ↦ refl
      | Some node ↦ elim (get-set nodes n m (down_node node)) [
        | inl unchanged ↦ ap is_up unchanged
        | inr both ↦ let clash : true ≡ false = sym (eq-eqb m n both.0) ∙ other in cc
      ]
    ]

up-opened : (nodes : List Node) (n m : ℕ) (node : Node) → is_up (slice_get nodes m) ≡ true → is_up (slice_get (slice_set nodes n (up_node node)) m) ≡ true
up-opened nodes n m node up =
    elim (get-set nodes n m (up_node node)) [ inl unchanged ↦ ap is_up unchanged ∙ up | inr both ↦ ap is_up both.1 ]

-- a packet or an answer is in flight on connected edges alone
live : (wire : Wire) (packet : List ℕ) (rest : List (List ℕ)) → (wire.connected ≡ true) ⊎ (wire ≡ unconnected) → wire.down ≡ packet ∷ rest → wire.connected ≡ true
live wire packet rest (inl on) has = on
live wire packet rest (inr off) has = let clash : [] ≡ packet ∷ rest = sym (ap (λ (w : Wire). w.down) off) ∙ has in cc

live_up : (wire : Wire) (answer : Verdict) (rest : List Verdict) → (wire.connected ≡ true) ⊎ (wire ≡ unconnected) → wire.up ≡ answer ∷ rest → wire.connected ≡ true
live_up wire answer rest (inl on) has = on
live_up wire answer rest (inr off) has = let clash : [] ≡ answer ∷ rest = sym (ap (λ (w : Wire). w.up) off) ∙ has in cc

module _ (graph : Graph) where
  -- ends that are still up
  wired_still : (old new : State) (edge : Edge) (wire : Wire)
      → ((m : ℕ) → is_up (slice_get old.nodes m) ≡ true → is_up (slice_get new.nodes m) ≡ true)
      → IsWired graph old edge wire → IsWired graph new edge wire
  wired_still old new edge wire same h = record {
    ends = λ on. (same edge.upper (h.ends on).0, same edge.lower (h.ends on).1);
    off = h.off;
    counted = h.counted;
    few = h.few;
  }

  -- one wire has changed, to one that is as it should be
  AllWired-wire : (old : State) (nodes : List Node) (e : ℕ) (new : Wire)
      → ((m : ℕ) → is_up (slice_get old.nodes m) ≡ true → is_up (slice_get nodes m) ≡ true)
      → ((edge : Edge) → slice_get graph.edges e ≡ Some edge → IsWired graph (record { nodes = nodes; wires = slice_set old.wires e new }) edge new)
      → AllWired graph old → AllWired graph (record { nodes = nodes; wires = slice_set old.wires e new })
  AllWired-wire old nodes e new same made all f edge wire is at =
      elim (get-set old.wires e f new) [
        | inl unchanged ↦ wired_still old (record { nodes = nodes; wires = slice_set old.wires e new }) edge wire same (all f edge wire is (sym unchanged ∙ at))
        | inr both ↦ rw (← some_same new wire (sym both.1 ∙ at)) (made edge (rw both.0 at is))
      ]

  -- notes are added, and what is under way on one connection changes
  AllWired-moved : (state : State) (n : ℕ) (added : List Note) (e : ℕ) (old new : Wire) → slice_get state.wires e ≡ Some old
      → old.connected ≡ true → new.connected ≡ true → new.unanswered ≡ length new.down + length new.up → new.unanswered ≤ graph.window
      → AllWired graph state → AllWired graph (with_wire (with_notes state n added) e new)
  AllWired-moved state n added e old new at on on' counted few all =
      AllWired-wire state (with_notes state n added).nodes e new (λ m up. up-with_notes state n m added ∙ up)
      (λ edge is. let was = (all e edge old is at).ends on in record {
        ends = λ up. (up-with_notes state n edge.upper added ∙ was.0, up-with_notes state n edge.lower added ∙ was.1);
        off = inl on';
        counted = counted;
        few = few;
      }) all

  AllWired-notes : (state : State) (n : ℕ) (added : List Note) → AllWired graph state → AllWired graph (with_notes state n added)
  AllWired-notes state n added all e edge wire is at =
      wired_still state (with_notes state n added) edge wire (λ m up. up-with_notes state n m added ∙ up) (all e edge wire is at)

  AllWired-sends : (state : State) (e : ℕ) (edge : Edge) (wire : Wire) (first : Option Placed) → slice_get graph.edges e ≡ Some edge → slice_get state.wires e ≡ Some wire
      → wire.connected ≡ true → nat_lt wire.unanswered graph.window ≡ true → AllWired graph state → AllWired graph (sends state e wire first)
  AllWired-sends state e edge wire None is at on few all = all
  AllWired-sends state e edge wire (Some first) is at on few all =
      let was = (all e edge wire is at).counted in
      let added = length-append wire.down (first.1.packet ∷ []) in
      let less = ltb-true wire.unanswered graph.window few in
      AllWired-moved state 0 [] e wire (with_packet wire first.0 first.1.packet) at on on (omega (arith, was, added)) (omega (arith, less)) all

  AllWired-send : (state : State) (e : ℕ) → AllWired graph state → AllWired graph (send graph state e)
  AllWired-send state e all =
      elim (slice_get graph.edges e) as (λ o. slice_get graph.edges e ≡ o → AllWired graph (send_over graph state e o (slice_get state.wires e))) [
        | None ↦ λ is. all
        | Some edge ↦ λ is. elim (slice_get state.wires e) as (λ o. slice_get state.wires e ≡ o → AllWired graph (send_over graph state e (Some edge) o)) [
          | None ↦ λ at. all
          | Some wire ↦ λ at.
              elim wire.connected as (λ b. wire.connected ≡ b → AllWired graph (cond b (cond (nat_lt wire.unanswered graph.window) (sends state e wire (next_over graph state e edge wire)) state) state)) [
                | false ↦ λ off. all
                | true ↦ λ on. elim (nat_lt wire.unanswered graph.window) as (λ b. nat_lt wire.unanswered graph.window ≡ b → AllWired graph (cond b (sends state e wire (next_over graph state e edge wire)) state)) [
                  | false ↦ λ full. all
                  | true ↦ λ few. AllWired-sends state e edge wire (next_over graph state e edge wire) is at on few all
                ] refl
              ] refl
        ] refl
      ] refl

  AllWired-arrives : (state : State) (e : ℕ) (edge : Edge) (wire : Wire) (packet : List ℕ) (rest : List (List ℕ)) (reply : Option Reply) → slice_get graph.edges e ≡ Some edge
      → slice_get state.wires e ≡ Some wire → wire.down ≡ packet ∷ rest → AllWired graph state → AllWired graph (arrives state e edge wire rest reply)
  AllWired-arrives state e edge wire packet rest None is at has all = all
  AllWired-arrives state e edge wire packet rest (Some reply) is at has all =
      let was = all e edge wire is at in
      let on = live wire packet rest was.off has in
      let counted = was.counted in
      let taken : length wire.down ≡ length rest + 1 = ap length has ∙ omega arith in
      let added = length-append wire.up (reply.answer ∷ []) in
      AllWired-moved state edge.lower reply.added e wire (with_answer wire rest reply.answer) at on on (omega (arith, counted, taken, added)) was.few all

  AllWired-arrive_first : (rules : Rules) (state : State) (e : ℕ) (edge : Edge) (wire : Wire) (down : List (List ℕ)) (found : Option Node) → slice_get graph.edges e ≡ Some edge
      → slice_get state.wires e ≡ Some wire → wire.down ≡ down → AllWired graph state → AllWired graph (arrive_first rules graph state e edge wire down found)
  AllWired-arrive_first rules state e edge wire [] found is at has all = all
  AllWired-arrive_first rules state e edge wire (packet ∷ rest) None is at has all = all
  AllWired-arrive_first rules state e edge wire (packet ∷ rest) (Some node) is at has all =
      AllWired-arrives state e edge wire packet rest
      (reply_at rules graph edge.lower (is_author (slice_get graph.nodes edge.upper)) (notes_at state edge.lower) packet (slice_get graph.nodes edge.lower)) is at has all

  AllWired-arrive : (rules : Rules) (state : State) (e : ℕ) → AllWired graph state → AllWired graph (arrive rules graph state e)
  AllWired-arrive rules state e all =
      elim (slice_get graph.edges e) as (λ o. slice_get graph.edges e ≡ o → AllWired graph (arrive_over rules graph state e o (slice_get state.wires e))) [
        | None ↦ λ is. all
        | Some edge ↦ λ is. elim (slice_get state.wires e) as (λ o. slice_get state.wires e ≡ o → AllWired graph (arrive_over rules graph state e (Some edge) o)) [
          | None ↦ λ at. all
          | Some wire ↦ λ at. AllWired-arrive_first rules state e edge wire wire.down (slice_get state.nodes edge.lower) is at refl all
        ] refl
      ] refl

  AllWired-hear_first : (rules : Rules) (state : State) (e : ℕ) (edge : Edge) (wire : Wire) (up : List Verdict) → slice_get graph.edges e ≡ Some edge
      → slice_get state.wires e ≡ Some wire → wire.up ≡ up → AllWired graph state → AllWired graph (hear_first rules graph state e edge wire up)
  AllWired-hear_first rules state e edge wire [] is at has all = all
  AllWired-hear_first rules state e edge wire (answer ∷ rest) is at has all =
      let was = all e edge wire is at in
      let on = live_up wire answer rest was.off has in
      let counted = was.counted in
      let few = was.few in
      let taken : length wire.up ≡ length rest + 1 = ap length has ∙ omega arith in
      AllWired-moved state edge.upper
      (heard (rules_at rules edge.upper) (notes_at state edge.upper) (sessions_of (slice_get state.nodes edge.upper)) (number_of graph.edges edge.upper e) wire.session answer (slice_get graph.nodes edge.upper))
      e wire (without_answer wire rest) at on on (omega (arith, counted, taken)) (omega (arith, few)) all

  AllWired-hear : (rules : Rules) (state : State) (e : ℕ) → AllWired graph state → AllWired graph (hear rules graph state e)
  AllWired-hear rules state e all =
      elim (slice_get graph.edges e) as (λ o. slice_get graph.edges e ≡ o → AllWired graph (hear_over rules graph state e o (slice_get state.wires e))) [
        | None ↦ λ is. all
        | Some edge ↦ λ is. elim (slice_get state.wires e) as (λ o. slice_get state.wires e ≡ o → AllWired graph (hear_over rules graph state e (Some edge) o)) [
          | None ↦ λ at. all
          | Some wire ↦ λ at. AllWired-hear_first rules state e edge wire wire.up is at refl all
        ] refl
      ] refl

  AllWired-writes : (rules : Rules) (state : State) (a : ℕ) (an_author : Bool) (found : Option Node) (packet : Option (List ℕ))
      → AllWired graph state → AllWired graph (writes rules state a an_author found packet)
  AllWired-writes rules state a an_author None packet all = all
  AllWired-writes rules state a an_author (Some node) None all = all
  AllWired-writes rules state a false (Some node) (Some packet) all = all
  AllWired-writes rules state a true (Some node) (Some packet) all =
      elim node.up as (λ b. AllWired graph (cond b (with_notes state a (author_write (rules_at rules a) (notes_at state a) packet).added) state)) [
        | false ↦ all
        | true ↦ AllWired-notes state a (author_write (rules_at rules a) (notes_at state a) packet).added all
      ]

  wired_unconnected : (state : State) (edge : Edge) → IsWired graph state edge unconnected
  wired_unconnected state edge = record { ends = λ on. cc; off = inr refl; counted = refl; few = omega arith }

  AllWired-cut : (state : State) (e : ℕ) → AllWired graph state → AllWired graph (cut state e)
  AllWired-cut state e all =
      elim (slice_get state.wires e) as (λ o. AllWired graph (cut_wire state e o)) [
        | None ↦ all
        | Some wire ↦ elim wire.connected as (λ b. AllWired graph (cond b (with_wire state e unconnected) state)) [
          | false ↦ all
          | true ↦ AllWired-wire state state.nodes e unconnected (λ m up. up) (λ edge is. wired_unconnected _ edge) all
        ]
      ]

  AllWired-connect_wire : (state : State) (e : ℕ) (edge : Option Edge) (found : Option Wire) → slice_get graph.edges e ≡ edge → AllWired graph state
      → AllWired graph (connect_wire graph state e edge found)
  AllWired-connect_wire state e None found is all = all
  AllWired-connect_wire state e (Some edge) None is all = all
  AllWired-connect_wire state e (Some edge) (Some wire) is all =
      let number = number_of graph.edges edge.upper e in
      let nodes = joined state.nodes edge.upper number (slice_get state.nodes edge.upper) in
      let new = connection (last_session (slice_get nodes edge.upper) number) in
      elim wire.connected as (λ b. AllWired graph (cond b state (cond (is_up (slice_get state.nodes edge.upper)) (cond (is_up (slice_get state.nodes edge.lower)) (joins nodes state.wires edge.upper number e) state) state))) [
        | true ↦ all
        | false ↦ elim (is_up (slice_get state.nodes edge.upper)) as (λ b. is_up (slice_get state.nodes edge.upper) ≡ b → AllWired graph (cond b (cond (is_up (slice_get state.nodes edge.lower)) (joins nodes state.wires edge.upper number e) state) state)) [
          | false ↦ λ down. all
          | true ↦ λ upper. elim (is_up (slice_get state.nodes edge.lower)) as (λ b. is_up (slice_get state.nodes edge.lower) ≡ b → AllWired graph (cond b (joins nodes state.wires edge.upper number e) state)) [
            | false ↦ λ down. all
            | true ↦ λ lower. AllWired-wire state nodes e new (λ m up. up-joined state.nodes edge.upper number m ∙ up)
                (λ other is'. let same : edge ≡ other = some_same edge other (sym is ∙ is') in rw (← same) (record {
                  ends = λ on. (up-joined state.nodes edge.upper number edge.upper ∙ upper, up-joined state.nodes edge.upper number edge.lower ∙ lower);
                  off = inl refl;
                  counted = refl;
                  few = omega arith;
                })) all
          ] refl
        ] refl
      ]

  AllWired-connect : (state : State) (e : ℕ) → AllWired graph state → AllWired graph (connect graph state e)
  AllWired-connect state e all = AllWired-connect_wire state e (slice_get graph.edges e) (slice_get state.wires e) refl all

  -- an edge after a node went down: cut, or as it was and at other nodes
  pub cut_round-wire : (n : ℕ) (edges : List Edge) (wires : List Wire) (e : ℕ) (edge : Edge) (wire : Wire) → slice_get edges e ≡ Some edge
      → slice_get (cut_round n edges wires) e ≡ Some wire
      → (wire ≡ unconnected) ⊎ ((slice_get wires e ≡ Some wire) × ((edge.upper == n) ≡ false) × ((edge.lower == n) ≡ false))
  cut_round-wire n edges [] e edge wire is at = cc
  cut_round-wire n [] (first ∷ wires) e edge wire is at = cc
  cut_round-wire n (link ∷ edges) (first ∷ wires) zero edge wire is at =
      let same : link ≡ edge = cc in
      elim (link.upper == n) as (λ b. (link.upper == n) ≡ b → Some (cond b unconnected (cond (link.lower == n) unconnected first)) ≡ Some wire
      → (wire ≡ unconnected) ⊎ ((Some first ≡ Some wire) × ((edge.upper == n) ≡ false) × ((edge.lower == n) ≡ false))) [
        | true ↦ λ from here. inl (sym (some_same unconnected wire here))
        | false ↦ λ from here. elim (link.lower == n) as (λ b. (link.lower == n) ≡ b → Some (cond b unconnected first) ≡ Some wire
            → (wire ≡ unconnected) ⊎ ((Some first ≡ Some wire) × ((edge.upper == n) ≡ false) × ((edge.lower == n) ≡ false))) [
              | true ↦ λ to here'. inl (sym (some_same unconnected wire here'))
              | false ↦ λ to here'. inr (here', ap (λ (l : Edge). l.upper == n) (sym same) ∙ from, ap (λ (l : Edge). l.lower == n) (sym same) ∙ to)
            ] refl here
      ] refl at
  cut_round-wire n (link ∷ edges) (first ∷ wires) (suc e) edge wire is at = cut_round-wire n edges wires e edge wire is at

  AllWired-crash_node : (state : State) (n : ℕ) → AllWired graph state → AllWired graph (crash_node graph state n)
  AllWired-crash_node state n all e edge wire is at =
      elim (cut_round-wire n graph.edges state.wires e edge wire is at) [
        | inl off ↦ rw off (wired_unconnected _ edge)
        | inr kept ↦
            let was = all e edge wire is kept.0 in
            record {
              ends = λ on. (up-beside state.nodes n edge.upper kept.1 ∙ (was.ends on).0, up-beside state.nodes n edge.lower kept.2 ∙ (was.ends on).1);
              off = was.off;
              counted = was.counted;
              few = was.few;
            }
      ]

  AllWired-crash : (state : State) (n : ℕ) → AllWired graph state → AllWired graph (crash graph state n)
  AllWired-crash state n all =
      elim (is_up (slice_get state.nodes n)) as (λ b. AllWired graph (cond b (crash_node graph state n) state))
      [ true ↦ AllWired-crash_node state n all | false ↦ all ]

  AllWired-reopen : (state : State) (n : ℕ) → AllWired graph state → AllWired graph (reopen state n)
  AllWired-reopen state n all =
      elim (slice_get state.nodes n) as (λ o. AllWired graph (reopen_found state n o)) [
        | None ↦ all
        | Some node ↦ elim node.up as (λ b. AllWired graph (cond b state (record { nodes = slice_set state.nodes n (up_node node); wires = state.wires }))) [
          | true ↦ all
          | false ↦ λ e edge wire is at. wired_still state (record { nodes = slice_set state.nodes n (up_node node); wires = state.wires }) edge wire
              (λ m up. up-opened state.nodes n m node up) (all e edge wire is at)
        ]
      ]

  AllWired-cuts : (e more : ℕ) (state : State) → AllWired graph state → AllWired graph (cuts e more state)
  AllWired-cuts e zero state all = all
  AllWired-cuts e (suc more) state all = AllWired-cuts (e + 1) more (cut state e) (AllWired-cut state e all)

  AllWired-reopens : (n more : ℕ) (state : State) → AllWired graph state → AllWired graph (reopens n more state)
  AllWired-reopens n zero state all = all
  AllWired-reopens n (suc more) state all = AllWired-reopens (n + 1) more (reopen state n) (AllWired-reopen state n all)

  AllWired-connects : (e more : ℕ) (state : State) → AllWired graph state → AllWired graph (connects graph e more state)
  AllWired-connects e zero state all = all
  AllWired-connects e (suc more) state all = AllWired-connects (e + 1) more (connect graph state e) (AllWired-connect state e all)

  AllWired-restarted : (state : State) → AllWired graph state → AllWired graph (restarted graph state)
  AllWired-restarted state all =
      AllWired-connects 0 (length graph.edges) (reopens 0 (length graph.nodes) (cuts 0 (length graph.edges) state))
      (AllWired-reopens 0 (length graph.nodes) (cuts 0 (length graph.edges) state) (AllWired-cuts 0 (length graph.edges) state all))

  -- at the beginning all nodes are up
  first_up : (k : ℕ) (kinds : List NodeKind) (n : ℕ) (kind : NodeKind) → slice_get kinds n ≡ Some kind → is_up (slice_get (first_nodes graph k kinds) n) ≡ true
  first_up k [] n kind is = cc
  first_up k (Author ∷ kinds) zero kind is = refl
  first_up k (Broker ∷ kinds) zero kind is = refl
  first_up k (Subscriber ∷ kinds) zero kind is = refl
  first_up k (first ∷ kinds) (suc n) kind is = first_up (k + 1) kinds n kind is

  first_connection : (nodes : List Node) (k : ℕ) (edges : List Edge) (e : ℕ) (wire : Wire) → slice_get (connections graph nodes k edges) e ≡ Some wire
      → (session : ℕ) × (wire ≡ connection session)
  first_connection nodes k [] e wire h = cc
  first_connection nodes k (edge ∷ edges) zero wire h = (last_session (slice_get nodes edge.upper) (number_of graph.edges edge.upper k), sym (some_same _ wire h))
  first_connection nodes k (edge ∷ edges) (suc e) wire h = first_connection nodes (k + 1) edges e wire h

  has_ends : IsProper graph → (e : ℕ) (edge : Edge) → slice_get graph.edges e ≡ Some edge
      → (upper lower : NodeKind) × (slice_get graph.nodes edge.upper ≡ Some upper) × (slice_get graph.nodes edge.lower ≡ Some lower)
  has_ends proper e edge is =
      elim (proper.ends e edge is) [
        | inl line ↦ (Author, Broker, line.0, line.1)
        | inr link ↦ elim link.1 [ inl broker ↦ (Broker, Broker, link.0, broker) | inr subscriber ↦ (Broker, Subscriber, link.0, subscriber) ]
      ]

  AllWired-beginning : IsProper graph → AllWired graph (beginning graph)
  AllWired-beginning proper e edge wire is at =
      let found = has_ends proper e edge is in
      let fresh = first_connection (first_nodes graph 0 graph.nodes) 0 graph.edges e wire at in
      rw fresh.1 (record {
        ends = λ on. (first_up 0 graph.nodes edge.upper found.0 found.2, first_up 0 graph.nodes edge.lower found.1 found.3);
        off = inl refl;
        counted = refl;
        few = omega arith;
      })

  module _ (rules : Rules) where
    AllWired-turn : (e : ℕ) (state : State) → AllWired graph state → AllWired graph (turn rules graph e state)
    AllWired-turn e state all =
        AllWired-hear rules (arrive rules graph (send graph state e) e) e (AllWired-arrive rules (send graph state e) e (AllWired-send state e all))

    AllWired-turns : (e more : ℕ) (state : State) → AllWired graph state → AllWired graph (turns rules graph e more state)
    AllWired-turns e zero state all = all
    AllWired-turns e (suc more) state all = AllWired-turns (e + 1) more (turn rules graph e state) (AllWired-turn e state all)

    AllWired-rounds : (count : ℕ) (state : State) → AllWired graph state → AllWired graph (rounds rules graph count state)
    AllWired-rounds zero state all = all
    AllWired-rounds (suc count) state all = AllWired-rounds count (round rules graph state) (AllWired-turns 0 (length graph.edges) state all)

    AllWired-inner : (packets : List (List ℕ)) (state : State) (inner : Inner) → AllWired graph state → AllWired graph (inner_happens rules graph packets state inner)
    AllWired-inner packets state (InWrite author packet) all =
        AllWired-writes rules state author (is_author (slice_get graph.nodes author)) (slice_get state.nodes author) (slice_get packets packet) all
    AllWired-inner packets state (InDown edge) all = AllWired-arrive rules state edge all
    AllWired-inner packets state (InUp edge) all = AllWired-hear rules state edge all

    AllWired-stopped : (packets : List (List ℕ)) (state : State) (kept : Bool) (inner : Inner) (actor : Option ℕ) → AllWired graph state
        → AllWired graph (stopped rules graph packets state kept inner actor)
    AllWired-stopped packets state kept inner None all = all
    AllWired-stopped packets state true inner (Some actor) all = AllWired-crash_node (inner_happens rules graph packets state inner) actor (AllWired-inner packets state inner all)
    AllWired-stopped packets state false inner (Some actor) all = AllWired-crash_node state actor all

    AllWired-happens : (packets : List (List ℕ)) (state : State) (event : Event) → AllWired graph state → AllWired graph (happens rules graph packets state event)
    AllWired-happens packets state (Write author packet) all = AllWired-inner packets state (InWrite author packet) all
    AllWired-happens packets state (Send edge) all = AllWired-send state edge all
    AllWired-happens packets state (Down edge) all = AllWired-arrive rules state edge all
    AllWired-happens packets state (Up edge) all = AllWired-hear rules state edge all
    AllWired-happens packets state (Cut edge) all = AllWired-cut state edge all
    AllWired-happens packets state (Connect edge) all = AllWired-connect state edge all
    AllWired-happens packets state (Crash node) all = AllWired-crash state node all
    AllWired-happens packets state (Reopen node) all = AllWired-reopen state node all
    AllWired-happens packets state (Stop calls fill inner) all =
        AllWired-stopped packets state (is_kept calls fill) inner (actor_of rules graph packets state inner) all
    AllWired-happens packets state Drain all =
        AllWired-rounds (length graph.edges * length (all_written state.nodes)) (restarted graph state) (AllWired-restarted state all)

    AllWired-run : (packets : List (List ℕ)) (events : List Event) (state : State) → AllWired graph state → AllWired graph (run rules graph packets events state)
    AllWired-run packets [] state all = all
    AllWired-run packets (event ∷ events) state all =
        AllWired-run packets events (happens rules graph packets state event) (AllWired-happens packets state event all)

    pub AllWired-after : IsProper graph → (packets : List (List ℕ)) (events : List Event) → AllWired graph (after rules graph packets events)
    AllWired-after proper packets events = AllWired-run packets events (beginning graph) (AllWired-beginning proper)
