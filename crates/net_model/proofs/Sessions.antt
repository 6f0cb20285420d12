-- Each connection is in the last session of its link.
use Rattle.std.proofs.Common.{◌≡◌, ℕ, zero, suc, ◌+◌, ◌*◌, Bool, true, false, cond, List, [], ◌∷◌, ◌++◌, length, Option, Some, None, inl, inr, refl, sym, ap, ◌∙◌, arith, eq-eqb}
use Rattle.std.proofs.lemmas.Bool.{cases_Bool, eqb-true}
use Rattle.std.specs.Prelude.{slice_get, slice_set, nat_lt, unwrap_or, ◌==◌}
use Rattle.net_model.specs.declared.scenario.Edge.{Edge}
use Rattle.net_model.specs.declared.scenario.Event.{Event}
use Rattle.net_model.specs.declared.scenario.Event.TheVariants.{Write, Send, Down, Up, Cut, Connect, Crash, Reopen, Stop, Drain}
use Rattle.net_model.specs.declared.scenario.Graph.{Graph}
use Rattle.net_model.specs.declared.scenario.Inner.{Inner}
use Rattle.net_model.specs.declared.scenario.Inner.TheVariants.{Write as InWrite, Down as InDown, Up as InUp}
use Rattle.net_model.specs.declared.note.Note.{Note}
use Rattle.net_model.specs.declared.state.Verdict.{Verdict}
use Rattle.net_model.specs.declared.state.Node.{Node}
use Rattle.net_model.specs.declared.state.State.{State}
use Rattle.net_model.specs.declared.state.Wire.{Wire}
use Rattle.net_model.specs.Connections.{connect, connect_wire, connection, connections, crash, crash_node, cut, cut_round, cut_wire, down_node, joined, joins, last_session, reopen, reopen_found, unconnected, up_node, with_node}
use Rattle.net_model.specs.Flights.{arrive, arrive_first, arrive_over, arrives, hear, hear_first, hear_over, heard, next_over, reply_at, send, send_over, sends, with_answer, with_packet, without_answer, writes}
use Rattle.net_model.specs.Laws.{IsCurrent}
use Rattle.net_model.specs.Nodes.{extended, is_author, is_up, notes_at, number_of, sessions_of, with_notes, with_wire}
use Rattle.net_model.specs.Rounds.{all_written, connects, cuts, reopens, restarted, round, rounds, turn, turns}
use Rattle.net_model.specs.Rules.{Rules, rules_at}
use Rattle.net_model.specs.Runs.{actor_of, after, beginning, first_nodes, happens, inner_happens, is_kept, run, stopped}
use Rattle.net_model.specs.Steps.{Reply, author_write, last_of, next_session}
use Rattle.net_model.proofs.Members.{get-set, get-set_same}

-- the number of an edge among those of its upper node is its own
numbers : (edges : List Edge) (x e f : ℕ) (edge other : Edge) → slice_get edges e ≡ Some edge → edge.upper ≡ x → slice_get edges f ≡ Some other → other.upper ≡ x
    → number_of edges x e ≡ number_of edges x f → e ≡ f
numbers [] x e f edge other at from at' from' same = cc
numbers (first ∷ edges) x zero zero edge other at from at' from' same = refl
numbers (first ∷ edges) x zero (suc f) edge other at from at' from' same =
    let is : first ≡ edge = cc in
    let upper : first.upper ≡ x = ap (λ (link : Edge). link.upper) is ∙ from in
    let more : 0 ≡ 1 + number_of edges x f = rw (eq-eqb first.upper x upper) at same in absurd (omega arith)
numbers (first ∷ edges) x (suc e) zero edge other at from at' from' same =
    let is : first ≡ other = cc in
    let upper : first.upper ≡ x = ap (λ (link : Edge). link.upper) is ∙ from' in
    let more : 1 + number_of edges x e ≡ 0 = rw (eq-eqb first.upper x upper) at same in absurd (omega arith)
numbers (first ∷ edges) x (suc e) (suc f) edge other at from at' from' same =
    let rest : number_of edges x e ≡ number_of edges x f = omega arith in ap suc (numbers edges x e f edge other at from at' from' rest)

-- a connection that stood before, in the same session, which is still the last of its link
abbrev pub Continues : Graph → State → State → Type 0
Continues graph old new =
    (e : ℕ) (edge : Edge) (wire : Wire) → slice_get graph.edges e ≡ Some edge → slice_get new.wires e ≡ Some wire → wire.connected ≡ true
    → (before : Wire) × (slice_get old.wires e ≡ Some before) × (before.connected ≡ true) × (wire.session ≡ before.session)
    × (last_session (slice_get new.nodes edge.upper) (number_of graph.edges edge.upper e) ≡ last_session (slice_get old.nodes edge.upper) (number_of graph.edges edge.upper e))

pub Current-continues : (graph : Graph) (old new : State) → IsCurrent graph old → Continues graph old new → IsCurrent graph new
Current-continues graph old new current step e edge wire is at connected =
    let h = step e edge wire is at connected in h.3 ∙ (current e edge h.0 is h.1 h.2 ∙ sym h.4)

Continues-same : (graph : Graph) (state : State) → Continues graph state state
Continues-same graph state e edge wire is at connected = (wire, at, connected, refl, refl)

-- a change of a node that leaves its sessions
set-sessions : (nodes : List Node) (n m number : ℕ) (old new : Node) → slice_get nodes n ≡ Some old → new.sessions ≡ old.sessions
    → last_session (slice_get (slice_set nodes n new) m) number ≡ last_session (slice_get nodes m) number
set-sessions nodes n m number old new is same =
    elim (get-set nodes n m new) [
      | inl unchanged ↦ ap (λ (o : Option Node). last_session o number) unchanged
      | inr both ↦ rw both.1 (rw (both.0, is) (ap (λ (sessions : List ℕ). last_of sessions number) same))
    ]

pub with_notes-sessions : (state : State) (n m number : ℕ) (added : List Note)
    → last_session (slice_get (with_notes state n added).nodes m) number ≡ last_session (slice_get state.nodes m) number
with_notes-sessions state n m number [] = refl
with_notes-sessions state n m number (first ∷ more) =
    elim (slice_get state.nodes n) as (λ o. slice_get state.nodes n ≡ o
    → last_session (slice_get (extended state.nodes n (first ∷ more) o) m) number ≡ last_session (slice_get state.nodes m) number) [
      | None ↦ λ is. refl
      | Some node ↦ λ is. elim (get-set state.nodes n m (record node { notes = node.notes ++ first ∷ more })) [
        | inl unchanged ↦ ap (λ (o : Option Node). last_session o number) unchanged
        | inr both ↦ rw both.1 (rw (both.0, is) refl)
      ]
    ] refl

some_same : {X : Type 0} (x y : X) → Some x ≡ Some y → x ≡ y
some_same x y h = cc

-- a session that is joined leaves the other links' sessions
beside : (nodes : List Node) (n number m other : ℕ) → (m ≡ n → other ≡ number → ⊥)
    → last_session (slice_get (joined nodes n number (slice_get nodes n)) m) other ≡ last_session (slice_get nodes m) other
beside nodes n number m other differ =
    elim (slice_get nodes n) as (λ o. slice_get nodes n ≡ o → last_session (slice_get (joined nodes n number o) m) other ≡ last_session (slice_get nodes m) other) [
      | None ↦ λ is. refl
      | Some node ↦ λ is.
          let next = next_session (last_session (Some node) number) in
          elim (get-set nodes n m (record node { sessions = slice_set node.sessions number next })) [
            | inl unchanged ↦ ap (λ (o : Option Node). last_session o other) unchanged
            | inr both ↦ elim (get-set node.sessions number other next) [
              | inl same ↦ rw both.1 (rw (both.0, is) (ap (λ (o : Option ℕ). unwrap_or o 0) same))
              | inr clash ↦ absurd (differ both.0 clash.0)
            ]
          ]
    ] refl

-- a node that goes down leaves the others' sessions
elsewhere : (nodes : List Node) (n m number : ℕ) → (m == n) ≡ false
    → last_session (slice_get (with_node down_node nodes n (slice_get nodes n)) m) number ≡ last_session (slice_get nodes m) number
elsewhere nodes n m number other =
    elim (slice_get nodes n) as (λ o. last_session (slice_get (with_node down_node nodes n o) m) number ≡ last_session (slice_get nodes m) number) [
      | None ↦ refl
      | Some node ↦ elim (get-set nodes n m (down_node node)) [
        | inl unchanged ↦ ap (λ (o : Option Node). last_session o number) unchanged
        | inr both ↦ let clash : true ≡ false = sym (eq-eqb m n both.0) ∙ other in cc
      ]
    ]

module _ (graph : Graph) where
  -- more notes at a node, and something else under way on the same connection
  Continues-wire : (state : State) (n : ℕ) (added : List Note) (e : ℕ) (old new : Wire) → slice_get state.wires e ≡ Some old
      → new.connected ≡ old.connected → new.session ≡ old.session → Continues graph state (with_wire (with_notes state n added) e new)
  Continues-wire state n added e old new at connected session f edge wire is there up =
      elim (get-set state.wires e f new) [
        | inl same ↦ (wire, sym same ∙ there, up, refl, with_notes-sessions state n edge.upper (number_of graph.edges edge.upper f) added)
        | inr both ↦
            let is_new : new ≡ wire = some_same new wire (sym both.1 ∙ there) in (
              old,
              ap (slice_get state.wires) both.0 ∙ at,
              sym connected ∙ (ap (λ (w : Wire). w.connected) is_new ∙ up),
              sym (ap (λ (w : Wire). w.session) is_new) ∙ session,
              with_notes-sessions state n edge.upper (number_of graph.edges edge.upper f) added,
            )
      ]

  Continues-notes : (state : State) (n : ℕ) (added : List Note) → Continues graph state (with_notes state n added)
  Continues-notes state n added e edge wire is at up = (wire, at, up, refl, with_notes-sessions state n edge.upper (number_of graph.edges edge.upper e) added)

  Continues-cut : (state : State) (e : ℕ) (found : Option Wire) → Continues graph state (cut_wire state e found)
  Continues-cut state e None = Continues-same graph state
  Continues-cut state e (Some old) =
      elim old.connected as (λ b. Continues graph state (cond b (with_wire state e unconnected) state)) [
        | true ↦ λ f edge wire is there up. elim (get-set state.wires e f unconnected) [
          | inl same ↦ (wire, sym same ∙ there, up, refl, refl)
          | inr both ↦
              let is_new : unconnected ≡ wire = some_same unconnected wire (sym both.1 ∙ there) in
              let clash : false ≡ true = ap (λ (w : Wire). w.connected) is_new ∙ up in cc
        ]
        | false ↦ Continues-same graph state
      ]

  cut_round-connected : (n : ℕ) (edges : List Edge) (wires : List Wire) (e : ℕ) (edge : Edge) (wire : Wire) → slice_get edges e ≡ Some edge
      → slice_get (cut_round n edges wires) e ≡ Some wire → wire.connected ≡ true → (slice_get wires e ≡ Some wire) × ((edge.upper == n) ≡ false)
  cut_round-connected n edges [] e edge wire is at up = cc
  cut_round-connected n [] (first ∷ wires) e edge wire is at up = cc
  cut_round-connected n (link ∷ edges) (first ∷ wires) zero edge wire is at up =
      let same : link ≡ edge = cc in
      elim (link.upper == n) as (λ b. (link.upper == n) ≡ b → Some (cond b unconnected (cond (link.lower == n) unconnected first)) ≡ Some wire
      → (Some first ≡ Some wire) × ((edge.upper == n) ≡ false)) [
        | true ↦ λ from here. let clash : false ≡ true = ap (λ (w : Wire). w.connected) (some_same unconnected wire here) ∙ up in cc
        | false ↦ λ from here. elim (link.lower == n) as (λ b. Some (cond b unconnected first) ≡ Some wire → (Some first ≡ Some wire) × ((edge.upper == n) ≡ false)) [
          | true ↦ λ here'. let clash : false ≡ true = ap (λ (w : Wire). w.connected) (some_same unconnected wire here') ∙ up in cc
          | false ↦ λ here'. (here', ap (λ (l : Edge). l.upper == n) (sym same) ∙ from)
        ] here
      ] refl at
  cut_round-connected n (link ∷ edges) (first ∷ wires) (suc e) edge wire is at up = cut_round-connected n edges wires e edge wire is at up

  Continues-crash : (state : State) (n : ℕ) → Continues graph state (crash_node graph state n)
  Continues-crash state n e edge wire is at up =
      let kept = cut_round-connected n graph.edges state.wires e edge wire is at up in
      (wire, kept.0, up, refl, elsewhere state.nodes n edge.upper (number_of graph.edges edge.upper e) kept.1)

  Continues-reopen : (state : State) (n : ℕ) → Continues graph state (reopen state n)
  Continues-reopen state n =
      elim (slice_get state.nodes n) as (λ o. slice_get state.nodes n ≡ o → Continues graph state (reopen_found state n o)) [
        | None ↦ λ is. Continues-same graph state
        | Some node ↦ λ is. elim node.up as (λ b. Continues graph state (cond b state (record { nodes = slice_set state.nodes n (up_node node); wires = state.wires }))) [
          | true ↦ Continues-same graph state
          | false ↦ λ e edge wire at there up. (wire, there, up, refl, set-sessions state.nodes n edge.upper (number_of graph.edges edge.upper e) node (up_node node) is refl)
        ]
      ] refl

  pub Continues-send : (state : State) (e : ℕ) → Continues graph state (send graph state e)
  Continues-send state e =
      elim (slice_get graph.edges e) as (λ o. Continues graph state (send_over graph state e o (slice_get state.wires e))) [
        | None ↦ Continues-same graph state
        | Some edge ↦ elim (slice_get state.wires e) as (λ o. slice_get state.wires e ≡ o → Continues graph state (send_over graph state e (Some edge) o)) [
          | None ↦ λ at. Continues-same graph state
          | Some wire ↦ λ at. elim wire.connected as (λ b. Continues graph state (cond b (cond (nat_lt wire.unanswered graph.window) (sends state e wire (next_over graph state e edge wire)) state) state)) [
            | false ↦ Continues-same graph state
            | true ↦ elim (nat_lt wire.unanswered graph.window) as (λ b. Continues graph state (cond b (sends state e wire (next_over graph state e edge wire)) state)) [
              | false ↦ Continues-same graph state
              | true ↦ elim (next_over graph state e edge wire) as (λ o. Continues graph state (sends state e wire o)) [
                | None ↦ Continues-same graph state
                | Some first ↦ Continues-wire state 0 [] e wire (with_packet wire first.0 first.1.packet) at refl refl
              ]
            ]
          ]
        ] refl
      ]

  Continues-arrives : (state : State) (e : ℕ) (edge : Edge) (wire : Wire) (rest : List (List ℕ)) (reply : Option Reply) → slice_get state.wires e ≡ Some wire
      → Continues graph state (arrives state e edge wire rest reply)
  Continues-arrives state e edge wire rest None at = Continues-same graph state
  Continues-arrives state e edge wire rest (Some reply) at = Continues-wire state edge.lower reply.added e wire (with_answer wire rest reply.answer) at refl refl

  Continues-arrive_first : (rules : Rules) (state : State) (e : ℕ) (edge : Edge) (wire : Wire) (down : List (List ℕ)) (found : Option Node) → slice_get state.wires e ≡ Some wire
      → Continues graph state (arrive_first rules graph state e edge wire down found)
  Continues-arrive_first rules state e edge wire [] found at = Continues-same graph state
  Continues-arrive_first rules state e edge wire (packet ∷ rest) None at = Continues-same graph state
  Continues-arrive_first rules state e edge wire (packet ∷ rest) (Some node) at =
      Continues-arrives state e edge wire rest
      (reply_at rules graph edge.lower (is_author (slice_get graph.nodes edge.upper)) (notes_at state edge.lower) packet (slice_get graph.nodes edge.lower)) at

  pub Continues-arrive : (rules : Rules) (state : State) (e : ℕ) → Continues graph state (arrive rules graph state e)
  Continues-arrive rules state e =
      elim (slice_get graph.edges e) as (λ o. Continues graph state (arrive_over rules graph state e o (slice_get state.wires e))) [
        | None ↦ Continues-same graph state
        | Some edge ↦ elim (slice_get state.wires e) as (λ o. slice_get state.wires e ≡ o → Continues graph state (arrive_over rules graph state e (Some edge) o)) [
          | None ↦ λ at. Continues-same graph state
          | Some wire ↦ λ at. Continues-arrive_first rules state e edge wire wire.down (slice_get state.nodes edge.lower) at
        ] refl
      ]

  Continues-hear_first : (rules : Rules) (state : State) (e : ℕ) (edge : Edge) (wire : Wire) (up : List Verdict) → slice_get state.wires e ≡ Some wire
      → Continues graph state (hear_first rules graph state e edge wire up)
  Continues-hear_first rules state e edge wire [] at = Continues-same graph state
  Continues-hear_first rules state e edge wire (answer ∷ rest) at =
      Continues-wire state edge.upper (heard (rules_at rules edge.upper) (notes_at state edge.upper) (sessions_of (slice_get state.nodes edge.upper)) (number_of graph.edges edge.upper e) wire.session answer (slice_get graph.nodes edge.upper)) e wire
      (without_answer wire rest) at refl refl

  Continues-hear : (rules : Rules) (state : State) (e : ℕ) → Continues graph state (hear rules graph state e)
  Continues-hear rules state e =
      elim (slice_get graph.edges e) as (λ o. Continues graph state (hear_over rules graph state e o (slice_get state.wires e))) [
        | None ↦ Continues-same graph state
        | Some edge ↦ elim (slice_get state.wires e) as (λ o. slice_get state.wires e ≡ o → Continues graph state (hear_over rules graph state e (Some edge) o)) [
          | None ↦ λ at. Continues-same graph state
          | Some wire ↦ λ at. Continues-hear_first rules state e edge wire wire.up at
        ] refl
      ]

  Continues-writes : (rules : Rules) (state : State) (a : ℕ) (an_author : Bool) (found : Option Node) (packet : Option (List ℕ))
      → Continues graph state (writes rules state a an_author found packet)
  Continues-writes rules state a an_author None packet = Continues-same graph state
  Continues-writes rules state a an_author (Some node) None = Continues-same graph state
  Continues-writes rules state a false (Some node) (Some packet) = Continues-same graph state
  Continues-writes rules state a true (Some node) (Some packet) =
      elim node.up as (λ b. Continues graph state (cond b (with_notes state a (author_write (rules_at rules a) (notes_at state a) packet).added) state)) [
        | false ↦ Continues-same graph state
        | true ↦ Continues-notes state a (author_write (rules_at rules a) (notes_at state a) packet).added
      ]

  apart : (f e : ℕ) (other edge : Edge) → slice_get graph.edges f ≡ Some other → slice_get graph.edges e ≡ Some edge → other.upper ≡ edge.upper
      → number_of graph.edges other.upper f ≡ number_of graph.edges edge.upper e → f ≡ e
  apart f e other edge is' is upper same =
      numbers graph.edges edge.upper f e other edge is' upper is refl (ap (λ (u : ℕ). number_of graph.edges u f) (sym upper) ∙ same)

  -- an edge that is connected anew
  Current-joins : (state : State) (e : ℕ) (edge : Edge) (old : Wire) → slice_get graph.edges e ≡ Some edge → slice_get state.wires e ≡ Some old → IsCurrent graph state
      → IsCurrent graph (joins (joined state.nodes edge.upper (number_of graph.edges edge.upper e) (slice_get state.nodes edge.upper)) state.wires edge.upper (number_of graph.edges edge.upper e) e)
  Current-joins state e edge old is at current f other wire is' at' up =
      let number = number_of graph.edges edge.upper e in
      let nodes = joined state.nodes edge.upper number (slice_get state.nodes edge.upper) in
      let new = connection (last_session (slice_get nodes edge.upper) number) in
      elim (cases_Bool (f == e)) [
        | inl same ↦
            let here : f ≡ e = eqb-true f e same in
            let same_edge : edge ≡ other = some_same edge other (sym is ∙ (ap (slice_get graph.edges) (sym here) ∙ is')) in
            let is_new : new ≡ wire = some_same new wire (sym (get-set_same state.wires e new old at) ∙ (ap (slice_get (slice_set state.wires e new)) (sym here) ∙ at')) in
            rw (← is_new) (rw (← same_edge) (rw here refl))
        | inr differ ↦ elim (get-set state.wires e f new) [
          | inl same ↦ current f other wire is' (sym same ∙ at') up ∙ sym (beside state.nodes edge.upper number other.upper (number_of graph.edges other.upper f)
              (λ upper same_number. let here : f ≡ e = apart f e other edge is' is upper same_number in let clash : true ≡ false = sym (eq-eqb f e here) ∙ differ in cc))
          | inr both ↦ let clash : true ≡ false = sym (eq-eqb f e both.0) ∙ differ in cc
        ]
      ]

  Current-connect : (state : State) (e : ℕ) (edge : Option Edge) (found : Option Wire) → slice_get graph.edges e ≡ edge → slice_get state.wires e ≡ found
      → IsCurrent graph state → IsCurrent graph (connect_wire graph state e edge found)
  Current-connect state e None found is at current = current
  Current-connect state e (Some edge) None is at current = current
  Current-connect state e (Some edge) (Some wire) is at current =
      let number = number_of graph.edges edge.upper e in
      let new = joins (joined state.nodes edge.upper number (slice_get state.nodes edge.upper)) state.wires edge.upper number e in
      elim wire.connected as (λ b. IsCurrent graph (cond b state (cond (is_up (slice_get state.nodes edge.upper)) (cond (is_up (slice_get state.nodes edge.lower)) new state) state))) [
        | true ↦ current
        | false ↦ elim (is_up (slice_get state.nodes edge.upper)) as (λ b. IsCurrent graph (cond b (cond (is_up (slice_get state.nodes edge.lower)) new state) state)) [
          | false ↦ current
          | true ↦ elim (is_up (slice_get state.nodes edge.lower)) as (λ b. IsCurrent graph (cond b new state)) [ false ↦ current | true ↦ Current-joins state e edge wire is at current ]
        ]
      ]

  connections-current : (nodes : List Node) (k : ℕ) (edges : List Edge) (e f : ℕ) (edge : Edge) (wire : Wire) → f ≡ k + e → slice_get edges e ≡ Some edge
      → slice_get (connections graph nodes k edges) e ≡ Some wire → wire.session ≡ last_session (slice_get nodes edge.upper) (number_of graph.edges edge.upper f)
  connections-current nodes k [] e f edge wire place is at = cc
  connections-current nodes k (first ∷ edges) zero f edge wire place is at =
      let same : first ≡ edge = cc in
      let here : f ≡ k = omega arith in
      let session = last_session (slice_get nodes first.upper) (number_of graph.edges first.upper k) in
      let is_new : connection session ≡ wire = some_same (connection session) wire at in
      rw (← is_new) (rw (← same) (rw here refl))
  connections-current nodes k (first ∷ edges) (suc e) f edge wire place is at = connections-current nodes (k + 1) edges e f edge wire (omega arith) is at

  Current-connections : (nodes : List Node) → IsCurrent graph (record { nodes = nodes; wires = connections graph nodes 0 graph.edges })
  Current-connections nodes e edge wire is at up = connections-current nodes 0 graph.edges e e edge wire (omega arith) is at

  module _ (rules : Rules) where
    pub Current-turn : (e : ℕ) (state : State) → IsCurrent graph state → IsCurrent graph (turn rules graph e state)
    Current-turn e state current =
        let sent = send graph state e in
        let came = arrive rules graph sent e in
        Current-continues graph came (hear rules graph came e)
        (Current-continues graph sent came (Current-continues graph state sent current (Continues-send state e)) (Continues-arrive rules sent e))
        (Continues-hear rules came e)

    Current-turns : (e more : ℕ) (state : State) → IsCurrent graph state → IsCurrent graph (turns rules graph e more state)
    Current-turns e zero state current = current
    Current-turns e (suc more) state current = Current-turns (e + 1) more (turn rules graph e state) (Current-turn e state current)

    Current-rounds : (count : ℕ) (state : State) → IsCurrent graph state → IsCurrent graph (rounds rules graph count state)
    Current-rounds zero state current = current
    Current-rounds (suc count) state current = Current-rounds count (round rules graph state) (Current-turns 0 (length graph.edges) state current)

    Current-inner : (packets : List (List ℕ)) (state : State) (inner : Inner) → IsCurrent graph state → IsCurrent graph (inner_happens rules graph packets state inner)
    Current-inner packets state (InWrite author packet) current =
        Current-continues graph state _ current (Continues-writes rules state author (is_author (slice_get graph.nodes author)) (slice_get state.nodes author) (slice_get packets packet))
    Current-inner packets state (InDown edge) current = Current-continues graph state _ current (Continues-arrive rules state edge)
    Current-inner packets state (InUp edge) current = Current-continues graph state _ current (Continues-hear rules state edge)

    Current-crash_node : (state : State) (n : ℕ) → IsCurrent graph state → IsCurrent graph (crash_node graph state n)
    Current-crash_node state n current = Current-continues graph state _ current (Continues-crash state n)

    Current-crash : (state : State) (n : ℕ) → IsCurrent graph state → IsCurrent graph (crash graph state n)
    Current-crash state n current =
        elim (is_up (slice_get state.nodes n)) as (λ b. IsCurrent graph (cond b (crash_node graph state n) state))
        [ true ↦ Current-crash_node state n current | false ↦ current ]

    Current-cut : (state : State) (e : ℕ) → IsCurrent graph state → IsCurrent graph (cut state e)
    Current-cut state e current = Current-continues graph state _ current (Continues-cut state e (slice_get state.wires e))

    Current-cuts : (e more : ℕ) (state : State) → IsCurrent graph state → IsCurrent graph (cuts e more state)
    Current-cuts e zero state current = current
    Current-cuts e (suc more) state current = Current-cuts (e + 1) more (cut state e) (Current-cut state e current)

    Current-reopens : (n more : ℕ) (state : State) → IsCurrent graph state → IsCurrent graph (reopens n more state)
    Current-reopens n zero state current = current
    Current-reopens n (suc more) state current =
        Current-reopens (n + 1) more (reopen state n) (Current-continues graph state (reopen state n) current (Continues-reopen state n))

    Current-connects : (e more : ℕ) (state : State) → IsCurrent graph state → IsCurrent graph (connects graph e more state)
    Current-connects e zero state current = current
    Current-connects e (suc more) state current =
        Current-connects (e + 1) more (connect graph state e) (Current-connect state e (slice_get graph.edges e) (slice_get state.wires e) refl refl current)

    pub Current-restarted : (state : State) → IsCurrent graph state → IsCurrent graph (restarted graph state)
    Current-restarted state current =
        Current-connects 0 (length graph.edges) (reopens 0 (length graph.nodes) (cuts 0 (length graph.edges) state))
        (Current-reopens 0 (length graph.nodes) (cuts 0 (length graph.edges) state) (Current-cuts 0 (length graph.edges) state current))

    Current-stopped : (packets : List (List ℕ)) (state : State) (kept : Bool) (inner : Inner) (actor : Option ℕ) → IsCurrent graph state
        → IsCurrent graph (stopped rules graph packets state kept inner actor)
    Current-stopped packets state kept inner None current = current
    Current-stopped packets state true inner (Some actor) current = Current-crash_node (inner_happens rules graph packets state inner) actor (Current-inner packets state inner current)
    Current-stopped packets state false inner (Some actor) current = Current-crash_node state actor current

    Current-happens : (packets : List (List ℕ)) (state : State) (event : Event) → IsCurrent graph state → IsCurrent graph (happens rules graph packets state event)
    Current-happens packets state (Write author packet) current = Current-inner packets state (InWrite author packet) current
    Current-happens packets state (Send edge) current = Current-continues graph state _ current (Continues-send state edge)
    Current-happens packets state (Down edge) current = Current-inner packets state (InDown edge) current
    Current-happens packets state (Up edge) current = Current-inner packets state (InUp edge) current
    Current-happens packets state (Cut edge) current = Current-cut state edge current
    Current-happens packets state (Connect edge) current = Current-connect state edge (slice_get graph.edges edge) (slice_get state.wires edge) refl refl current
    Current-happens packets state (Crash node) current = Current-crash state node current
    Current-happens packets state (Reopen node) current = Current-continues graph state _ current (Continues-reopen state node)
    Current-happens packets state (Stop calls fill inner) current =
        Current-stopped packets state (is_kept calls fill) inner (actor_of rules graph packets state inner) current
    Current-happens packets state Drain current =
        Current-rounds (length graph.edges * length (all_written state.nodes)) (restarted graph state) (Current-restarted state current)

    Current-run : (packets : List (List ℕ)) (events : List Event) (state : State) → IsCurrent graph state → IsCurrent graph (run rules graph packets events state)
    Current-run packets [] state current = current
    Current-run packets (event ∷ events) state current =
        Current-run packets events (happens rules graph packets state event) (Current-happens packets state event current)

    pub IsCurrent-after : (packets : List (List ℕ)) (events : List Event) → IsCurrent graph (after rules graph packets events)
    IsCurrent-after packets events = Current-run packets events (beginning graph) (Current-connections (first_nodes graph 0 graph.nodes))
