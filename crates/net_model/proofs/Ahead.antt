-- Past the places that were sent on a connection stands all that is still to be sent.
use Rattle.std.proofs.Common.{◌≡◌, ℕ, zero, suc, ◌+◌, ◌*◌, ◌≤◌, ◌<◌, Bool, true, false, cond, List, [], ◌∷◌, ◌++◌, length, Option, Some, None, ◌⊎◌, inl, inr, refl, sym, ap, ◌∙◌, arith, length-append}
use Rattle.std.proofs.lemmas.Bool.{cases_Bool, ltb-false, ltb-true}
use Rattle.std.proofs.lemmas.Option.{slice_get_within}
use Rattle.std.specs.Prelude.{slice_get, slice_set, nat_lt}
use Rattle.net_model.specs.declared.scenario.Edge.{Edge}
use Rattle.net_model.specs.declared.scenario.Event.{Event}
use Rattle.net_model.specs.declared.scenario.Event.TheVariants.{Write, Send, Down, Up, Cut, Connect, Crash, Reopen, Stop, Drain}
use Rattle.net_model.specs.declared.scenario.Graph.{Graph}
use Rattle.net_model.specs.declared.scenario.Inner.{Inner}
use Rattle.net_model.specs.declared.scenario.Inner.TheVariants.{Write as InWrite, Down as InDown, Up as InUp}
use Rattle.net_model.specs.declared.note.Note.{Note}
use Rattle.net_model.specs.declared.state.Node.{Node}
use Rattle.net_model.specs.declared.state.State.{State}
use Rattle.net_model.specs.declared.state.Verdict.{Verdict}
use Rattle.net_model.specs.declared.state.Wire.{Wire}
use Rattle.net_model.specs.Connections.{connect, connection, connections, crash, crash_node, cut, cut_wire, down_node, reopen, unconnected}
use Rattle.net_model.specs.Flights.{arrive, arrive_first, arrive_over, arrives, hear, hear_first, hear_over, heard, next_over, reply_at, send, send_over, sends, with_answer, with_packet, without_answer, writes}
use Rattle.net_model.specs.Laws.{IsIn}
use Rattle.net_model.specs.Nodes.{is_author, is_up, notes_at, number_of, sessions_of, with_notes, with_wire}
use Rattle.net_model.specs.Notes.{Offer, Placed, first_from, first_to_send, lists, or_later, to_send}
use Rattle.net_model.specs.Rounds.{all_written, connects, cuts, reopens, restarted, round, rounds, turn, turns}
use Rattle.net_model.specs.Rules.{Rules, rules_at}
use Rattle.net_model.specs.Runs.{actor_of, after, beginning, first_nodes, happens, inner_happens, is_kept, run, stopped}
use Rattle.net_model.specs.Shape.{IsInTurn, past}
use Rattle.net_model.specs.Steps.{author_write}
use Rattle.net_model.proofs.Closed.{first_to_send-next, to_send-still}
use Rattle.net_model.proofs.Growth.{notes_at-with_notes}
use Rattle.net_model.proofs.Held.{lists-found, lists-from}
use Rattle.net_model.proofs.Kept.{joined-notes, with_node-notes}
use Rattle.net_model.proofs.Members.{IsIn-append, IsIn-append_left, IsIn-append_right, IsIn-get, get-set}
use Rattle.net_model.proofs.Restart.{connect-case, reopen-notes, reopen-wires}
use Rattle.net_model.proofs.Shape.{cut_round-wire}

some_same : {X : Type 0} (x y : X) → Some x ≡ Some y → x ≡ y
some_same x y h = cc

past-above : (places : List ℕ) (q : ℕ) → IsIn q places → q < past places
past-above [] q h = absurd h
past-above (place ∷ places) q (inl same) =
    elim (nat_lt (past places) (place + 1)) as (λ b. nat_lt (past places) (place + 1) ≡ b → q < cond b (place + 1) (past places)) [
      | true ↦ λ is. omega (arith, same)
      | false ↦ λ is. let above = ltb-false (past places) (place + 1) is in omega (arith, same, above)
    ] refl
past-above (place ∷ places) q (inr h) =
    let later = past-above places q h in
    elim (nat_lt (past places) (place + 1)) as (λ b. nat_lt (past places) (place + 1) ≡ b → q < cond b (place + 1) (past places)) [
      | true ↦ λ is. let below = ltb-true (past places) (place + 1) is in omega (arith, later, below)
      | false ↦ λ is. later
    ] refl

past-found : (places : List ℕ) (k : ℕ) → k < past places → (q : ℕ) × IsIn q places × (k ≤ q)
past-found [] k few = absurd (omega arith)
past-found (place ∷ places) k few =
    elim (nat_lt (past places) (place + 1)) as (λ b. k < cond b (place + 1) (past places) → (q : ℕ) × IsIn q (place ∷ places) × (k ≤ q)) [
      | true ↦ λ below. (place, inl refl, omega (arith, below))
      | false ↦ λ below. let found = past-found places k below in (found.0, inr found.1, found.2)
    ] few

past-least : (places : List ℕ) (most : ℕ) → ((q : ℕ) → IsIn q places → q < most) → past places ≤ most
past-least [] most below = omega arith
past-least (place ∷ places) most below =
    let first = below place (inl refl) in
    let rest = past-least places most (λ q h. below q (inr h)) in
    elim (nat_lt (past places) (place + 1)) as (λ b. cond b (place + 1) (past places) ≤ most) [ true ↦ omega (arith, first) | false ↦ rest ]

-- before the first packet to send each note was sent, or has nothing to send
first_to_send-before : (all : List Note) (number : ℕ) (sent : List ℕ) (place : ℕ) (notes : List Note) (first : Placed)
    → first_to_send all number sent place notes ≡ Some first → (k at : ℕ) (note : Note) → at ≡ place + k → slice_get notes k ≡ Some note → at < first.0
    → (lists sent at ≡ true) ⊎ (to_send all number note ≡ None)
first_to_send-before all number sent place [] first h k at note is here before = cc
first_to_send-before all number sent place (head ∷ notes) first h zero at note is here before =
    let same : head ≡ note = some_same head note here in
    let where' : at ≡ place = omega arith in
    elim (cases_Bool (lists sent place)) [
      | inl listed ↦ inl (rw where' listed)
      | inr fresh ↦
          elim (to_send all number head) as (λ o. to_send all number head ≡ o
          → or_later place o (first_to_send all number sent (place + 1) notes) ≡ Some first → (lists sent at ≡ true) ⊎ (to_send all number note ≡ None)) [
            | None ↦ λ none h'. inr (rw (← same) none)
            | Some found ↦ λ some h'.
                let it : (place, found) ≡ first = some_same (place, found) first h' in
                let there : place ≡ first.0 = ap (λ (p : Placed). p.0) it in absurd (omega (arith, there, where', before))
          ] refl (rw fresh at h)
    ]
first_to_send-before all number sent place (head ∷ notes) first h (suc k) at note is here before =
    elim (cond (lists sent place) None (to_send all number head)) as (λ o.
    or_later place o (first_to_send all number sent (place + 1) notes) ≡ Some first → (lists sent at ≡ true) ⊎ (to_send all number note ≡ None)) [
      | None ↦ λ h'. first_to_send-before all number sent (place + 1) notes first h' k at note (omega arith) here before
      | Some found ↦ λ h'.
          let it : (place, found) ≡ first = some_same (place, found) first h' in
          let there : place ≡ first.0 = ap (λ (p : Placed). p.0) it in absurd (omega (arith, there, is, before))
    ] h

-- what was sent on a connection stands among these notes, and whatever stands before it was sent or has nothing to send
pub record Ahead (notes : List Note) (number : ℕ) (sent : List ℕ) : Type 0 where
  pub within : past sent ≤ length notes
  pub spent : (k : ℕ) (note : Note) → k < past sent → slice_get notes k ≡ Some note → (lists sent k ≡ true) ⊎ (to_send notes number note ≡ None)

Ahead-none : (notes : List Note) (number : ℕ) → Ahead notes number []
Ahead-none notes number = record { within = omega arith; spent = λ k note few at. absurd (omega (arith, few)) }

get-before : (notes more : List Note) (k : ℕ) (note : Note) → k < length notes → slice_get (notes ++ more) k ≡ Some note → slice_get notes k ≡ Some note
get-before [] more k note few at = absurd (omega arith)
get-before (first ∷ notes) more zero note few at = at
get-before (first ∷ notes) more (suc k) note few at = get-before notes more k note (omega arith) at

Ahead-grows : (notes more : List Note) (number : ℕ) (sent : List ℕ) → Ahead notes number sent → Ahead (notes ++ more) number sent
Ahead-grows notes more number sent h = record {
  within = (let few = h.within in let size = length-append notes more in omega (arith, few, size));
  spent = λ k note few at.
      let fewer = h.within in
      let there = get-before notes more k note (omega (arith, few, fewer)) at in
      elim (h.spent k note few there) [
        | inl listed ↦ inl listed
        | inr none ↦ inr (to_send-still notes more number note (IsIn-get notes k note there) none)
      ];
}

lists-more : (places : List ℕ) (place k : ℕ) → lists places k ≡ true → lists (places ++ place ∷ []) k ≡ true
lists-more places place k h = lists-from (places ++ place ∷ []) k (IsIn-append_left k places (place ∷ []) (lists-found places k h))

Ahead-send : (notes : List Note) (number : ℕ) (sent : List ℕ) (first : Placed) → first_to_send notes number sent 0 notes ≡ Some first
    → Ahead notes number sent → Ahead notes number (sent ++ first.0 ∷ [])
Ahead-send notes number sent first is h =
    let next = first_to_send-next notes number sent 0 notes first is in
    let place = next.is_place in
    let few_first = slice_get_within notes next.k next.note next.stands in
    record {
      within = past-least (sent ++ first.0 ∷ []) (length notes) (λ q in'. elim (IsIn-append q sent (first.0 ∷ []) in') [
        | inl old ↦ (let above = past-above sent q old in let few = h.within in omega (arith, above, few))
        | inr now ↦ elim now [ inl same ↦ omega (arith, same, place, few_first) | inr none ↦ absurd none ]
      ]);
      spent = λ k note few at.
          let found = past-found (sent ++ first.0 ∷ []) k few in
          let upto : (k < past sent) ⊎ (k ≤ first.0) = elim (IsIn-append found.0 sent (first.0 ∷ []) found.1) [
            | inl old ↦ (let above = past-above sent found.0 old in let below = found.2 in inl (omega (arith, above, below)))
            | inr now ↦ elim now [ inl same ↦ (let below = found.2 in inr (omega (arith, same, below))) | inr none ↦ absurd none ]
          ] in
          elim upto [
            | inl before ↦ elim (h.spent k note before at) [ inl listed ↦ inl (lists-more sent first.0 k listed) | inr none ↦ inr none ]
            | inr below ↦ elim (cases_Bool (nat_lt k first.0)) [
              | inl less ↦ elim (first_to_send-before notes number sent 0 notes first is k k note (omega arith) at (ltb-true k first.0 less))
                  [ inl listed ↦ inl (lists-more sent first.0 k listed) | inr none ↦ inr none ]
              | inr more ↦
                  let above = ltb-false k first.0 more in
                  let same : k ≡ first.0 = omega (arith, above, below) in
                  inl (lists-from (sent ++ first.0 ∷ []) k (IsIn-append_right k sent (first.0 ∷ []) (inl same)))
            ]
          ];
    }

-- the same note is next by what was sent and by its place
same_first : (all : List Note) (number : ℕ) (sent : List ℕ) (after place : ℕ) (notes : List Note)
    → ((k at : ℕ) (note : Note) → at ≡ place + k → slice_get notes k ≡ Some note
    → cond (lists sent at) None (to_send all number note) ≡ cond (nat_lt at after) None (to_send all number note))
    → first_to_send all number sent place notes ≡ first_from (to_send all number) after place notes
same_first all number sent after place [] same = refl
same_first all number sent after place (note ∷ notes) same =
    let rest = same_first all number sent after (place + 1) notes (λ k at other is here. same (suc k) at other (omega (arith, is)) here) in
    ap (λ (later : Option Placed). or_later place (cond (lists sent place) None (to_send all number note)) later) rest
    ∙ ap (λ (o : Option Offer). or_later place o (first_from (to_send all number) after (place + 1) notes)) (same zero place note (omega arith) refl)

nothing_either : (b c : Bool) (o : Option Offer) → o ≡ None → cond b None o ≡ cond c None o
nothing_either true true o none = refl
nothing_either true false o none = sym none
nothing_either false true o none = none
nothing_either false false o none = refl

Ahead-next : (notes : List Note) (number : ℕ) (sent : List ℕ) → Ahead notes number sent
    → first_to_send notes number sent 0 notes ≡ first_from (to_send notes number) (past sent) 0 notes
Ahead-next notes number sent h =
    same_first notes number sent (past sent) 0 notes (λ k at note is here.
    let place : k ≡ at = omega (arith, is) in
    let stands : slice_get notes at ≡ Some note = ap (slice_get notes) (sym place) ∙ here in
    elim (cases_Bool (nat_lt at (past sent))) [
      | inl before ↦ elim (h.spent at note (ltb-true at (past sent) before) stands) [
        | inl listed ↦ rw (listed, before) refl
        | inr none ↦ nothing_either (lists sent at) (nat_lt at (past sent)) (to_send notes number note) none
      ]
      | inr behind ↦ elim (cases_Bool (lists sent at)) [
        | inl listed ↦
            let above = past-above sent at (lists-found sent at listed) in
            let least = ltb-false at (past sent) behind in absurd (omega (arith, above, least))
        | inr fresh ↦ rw (fresh, behind) refl
      ]
    ])

module _ (graph : Graph) where
  -- so it is on each edge
  abbrev pub AllAhead : State → Type 0
  AllAhead state =
      (e : ℕ) (edge : Edge) (wire : Wire) → slice_get graph.edges e ≡ Some edge → slice_get state.wires e ≡ Some wire
      → Ahead (notes_at state edge.upper) (number_of graph.edges edge.upper e) wire.sent

  ahead_as : (old new : State) (n number : ℕ) (sent : List ℕ) → notes_at new n ≡ notes_at old n → Ahead (notes_at old n) number sent → Ahead (notes_at new n) number sent
  ahead_as old new n number sent same h = rw same h

  AllAhead-notes : (state : State) (n : ℕ) (added : List Note) → AllAhead state → AllAhead (with_notes state n added)
  AllAhead-notes state n added all e edge wire is at =
      elim (notes_at-with_notes state n edge.upper added) [
        | inl same ↦ rw same (all e edge wire is at)
        | inr both ↦ rw both.1 (Ahead-grows (notes_at state edge.upper) added (number_of graph.edges edge.upper e) wire.sent (all e edge wire is at))
      ]

  -- the same notes, and one wire with other places
  AllAhead-wire : (old : State) (nodes : List Node) (e : ℕ) (new : Wire)
      → ((n : ℕ) → notes_at (record { nodes = nodes; wires = slice_set old.wires e new }) n ≡ notes_at old n)
      → ((edge : Edge) → slice_get graph.edges e ≡ Some edge → Ahead (notes_at old edge.upper) (number_of graph.edges edge.upper e) new.sent)
      → AllAhead old → AllAhead (record { nodes = nodes; wires = slice_set old.wires e new })
  AllAhead-wire old nodes e new same made all f edge wire is at =
      let later : State = record { nodes = nodes; wires = slice_set old.wires e new } in
      ahead_as old later edge.upper (number_of graph.edges edge.upper f) wire.sent (same edge.upper) (elim (get-set old.wires e f new) [
        | inl unchanged ↦ all f edge wire is (sym unchanged ∙ at)
        | inr both ↦ rw (← some_same new wire (sym both.1 ∙ at)) (rw both.0 (made edge (rw both.0 at is)))
      ])

  AllAhead-moved : (state : State) (n : ℕ) (added : List Note) (e : ℕ) (old new : Wire) → slice_get state.wires e ≡ Some old → new.sent ≡ old.sent
      → AllAhead state → AllAhead (with_wire (with_notes state n added) e new)
  AllAhead-moved state n added e old new at same all =
      let grown = AllAhead-notes state n added all in
      AllAhead-wire (with_notes state n added) (with_notes state n added).nodes e new (λ m. refl)
      (λ edge is. rw same (grown e edge old is at)) grown

  AllAhead-send : (state : State) (e : ℕ) → AllAhead state → AllAhead (send graph state e)
  AllAhead-send state e all =
      elim (slice_get graph.edges e) as (λ o. slice_get graph.edges e ≡ o → AllAhead (send_over graph state e o (slice_get state.wires e))) [
        | None ↦ λ is. all
        | Some edge ↦ λ is. elim (slice_get state.wires e) as (λ o. slice_get state.wires e ≡ o → AllAhead (send_over graph state e (Some edge) o)) [
          | None ↦ λ at. all
          | Some wire ↦ λ at.
              elim wire.connected as (λ b. AllAhead (cond b (cond (nat_lt wire.unanswered graph.window) (sends state e wire (next_over graph state e edge wire)) state) state)) [
                | false ↦ all
                | true ↦ elim (nat_lt wire.unanswered graph.window) as (λ b. AllAhead (cond b (sends state e wire (next_over graph state e edge wire)) state)) [
                  | false ↦ all
                  | true ↦ elim (next_over graph state e edge wire) as (λ o. next_over graph state e edge wire ≡ o → AllAhead (sends state e wire o)) [
                    | None ↦ λ none. all
                    | Some first ↦ λ found. AllAhead-wire state state.nodes e (with_packet wire first.0 first.1.packet) (λ n. refl)
                        (λ other is'. let same : edge ≡ other = some_same edge other (sym is ∙ is') in rw (← same)
                        (Ahead-send (notes_at state edge.upper) (number_of graph.edges edge.upper e) wire.sent first found (all e edge wire is at))) all
                  ] refl
                ]
              ]
        ] refl
      ] refl

  AllAhead-arrive_first : (rules : Rules) (state : State) (e : ℕ) (edge : Edge) (wire : Wire) (down : List (List ℕ)) (found : Option Node)
      → slice_get state.wires e ≡ Some wire → AllAhead state → AllAhead (arrive_first rules graph state e edge wire down found)
  AllAhead-arrive_first rules state e edge wire [] found at all = all
  AllAhead-arrive_first rules state e edge wire (packet ∷ rest) None at all = all
  AllAhead-arrive_first rules state e edge wire (packet ∷ rest) (Some node) at all =
      let reply = reply_at rules graph edge.lower (is_author (slice_get graph.nodes edge.upper)) (notes_at state edge.lower) packet (slice_get graph.nodes edge.lower) in
      elim reply as (λ o. AllAhead (arrives state e edge wire rest o)) [
        | None ↦ all
        | Some answered ↦ AllAhead-moved state edge.lower answered.added e wire (with_answer wire rest answered.answer) at refl all
      ]

  AllAhead-arrive : (rules : Rules) (state : State) (e : ℕ) → AllAhead state → AllAhead (arrive rules graph state e)
  AllAhead-arrive rules state e all =
      elim (slice_get graph.edges e) as (λ o. AllAhead (arrive_over rules graph state e o (slice_get state.wires e))) [
        | None ↦ all
        | Some edge ↦ elim (slice_get state.wires e) as (λ o. slice_get state.wires e ≡ o → AllAhead (arrive_over rules graph state e (Some edge) o)) [
          | None ↦ λ at. all
          | Some wire ↦ λ at. AllAhead-arrive_first rules state e edge wire wire.down (slice_get state.nodes edge.lower) at all
        ] refl
      ]

  AllAhead-hear_first : (rules : Rules) (state : State) (e : ℕ) (edge : Edge) (wire : Wire) (up : List Verdict)
      → slice_get state.wires e ≡ Some wire → AllAhead state → AllAhead (hear_first rules graph state e edge wire up)
  AllAhead-hear_first rules state e edge wire [] at all = all
  AllAhead-hear_first rules state e edge wire (answer ∷ rest) at all =
      AllAhead-moved state edge.upper
      (heard (rules_at rules edge.upper) (notes_at state edge.upper) (sessions_of (slice_get state.nodes edge.upper)) (number_of graph.edges edge.upper e) wire.session answer (slice_get graph.nodes edge.upper))
      e wire (without_answer wire rest) at refl all

  AllAhead-hear : (rules : Rules) (state : State) (e : ℕ) → AllAhead state → AllAhead (hear rules graph state e)
  AllAhead-hear rules state e all =
      elim (slice_get graph.edges e) as (λ o. AllAhead (hear_over rules graph state e o (slice_get state.wires e))) [
        | None ↦ all
        | Some edge ↦ elim (slice_get state.wires e) as (λ o. slice_get state.wires e ≡ o → AllAhead (hear_over rules graph state e (Some edge) o)) [
          | None ↦ λ at. all
          | Some wire ↦ λ at. AllAhead-hear_first rules state e edge wire wire.up at all
        ] refl
      ]

  AllAhead-writes : (rules : Rules) (state : State) (a : ℕ) (an_author : Bool) (found : Option Node) (packet : Option (List ℕ))
      → AllAhead state → AllAhead (writes rules state a an_author found packet)
  AllAhead-writes rules state a an_author None packet all = all
  AllAhead-writes rules state a an_author (Some node) None all = all
  AllAhead-writes rules state a false (Some node) (Some packet) all = all
  AllAhead-writes rules state a true (Some node) (Some packet) all =
      elim node.up as (λ b. AllAhead (cond b (with_notes state a (author_write (rules_at rules a) (notes_at state a) packet).added) state)) [
        | false ↦ all
        | true ↦ AllAhead-notes state a (author_write (rules_at rules a) (notes_at state a) packet).added all
      ]

  AllAhead-cut : (state : State) (e : ℕ) → AllAhead state → AllAhead (cut state e)
  AllAhead-cut state e all =
      elim (slice_get state.wires e) as (λ o. AllAhead (cut_wire state e o)) [
        | None ↦ all
        | Some wire ↦ elim wire.connected as (λ b. AllAhead (cond b (with_wire state e unconnected) state)) [
          | false ↦ all
          | true ↦ AllAhead-wire state state.nodes e unconnected (λ n. refl) (λ edge is. Ahead-none (notes_at state edge.upper) (number_of graph.edges edge.upper e)) all
        ]
      ]

  AllAhead-connect : (state : State) (e : ℕ) → AllAhead state → AllAhead (connect graph state e)
  AllAhead-connect state e all =
      connect-case graph (λ s. AllAhead s) state e all (λ link session. AllAhead-wire state _ e (connection session)
      (joined-notes state.nodes link.upper (number_of graph.edges link.upper e))
      (λ edge is. Ahead-none (notes_at state edge.upper) (number_of graph.edges edge.upper e)) all)

  AllAhead-crash_node : (state : State) (n : ℕ) → AllAhead state → AllAhead (crash_node graph state n)
  AllAhead-crash_node state n all e edge wire is at =
      let same = with_node-notes down_node (λ node. refl) state.nodes n edge.upper in
      ahead_as state (crash_node graph state n) edge.upper (number_of graph.edges edge.upper e) wire.sent same
      (elim (cut_round-wire graph n graph.edges state.wires e edge wire is at) [
        | inl off ↦ rw off (Ahead-none (notes_at state edge.upper) (number_of graph.edges edge.upper e))
        | inr kept ↦ all e edge wire is kept.0
      ])

  AllAhead-crash : (state : State) (n : ℕ) → AllAhead state → AllAhead (crash graph state n)
  AllAhead-crash state n all =
      elim (is_up (slice_get state.nodes n)) as (λ b. AllAhead (cond b (crash_node graph state n) state))
      [ true ↦ AllAhead-crash_node state n all | false ↦ all ]

  AllAhead-reopen : (state : State) (n : ℕ) → AllAhead state → AllAhead (reopen state n)
  AllAhead-reopen state n all e edge wire is at =
      ahead_as state (reopen state n) edge.upper (number_of graph.edges edge.upper e) wire.sent (reopen-notes state n edge.upper)
      (all e edge wire is (ap (λ (wires : List Wire). slice_get wires e) (sym (reopen-wires state n)) ∙ at))

  AllAhead-cuts : (e more : ℕ) (state : State) → AllAhead state → AllAhead (cuts e more state)
  AllAhead-cuts e zero state all = all
  AllAhead-cuts e (suc more) state all = AllAhead-cuts (e + 1) more (cut state e) (AllAhead-cut state e all)

  AllAhead-reopens : (n more : ℕ) (state : State) → AllAhead state → AllAhead (reopens n more state)
  AllAhead-reopens n zero state all = all
  AllAhead-reopens n (suc more) state all = AllAhead-reopens (n + 1) more (reopen state n) (AllAhead-reopen state n all)

  AllAhead-connects : (e more : ℕ) (state : State) → AllAhead state → AllAhead (connects graph e more state)
  AllAhead-connects e zero state all = all
  AllAhead-connects e (suc more) state all = AllAhead-connects (e + 1) more (connect graph state e) (AllAhead-connect state e all)

  AllAhead-restarted : (state : State) → AllAhead state → AllAhead (restarted graph state)
  AllAhead-restarted state all =
      AllAhead-connects 0 (length graph.edges) (reopens 0 (length graph.nodes) (cuts 0 (length graph.edges) state))
      (AllAhead-reopens 0 (length graph.nodes) (cuts 0 (length graph.edges) state) (AllAhead-cuts 0 (length graph.edges) state all))

  unsent_at_first : (nodes : List Node) (k : ℕ) (edges : List Edge) (e : ℕ) (wire : Wire) → slice_get (connections graph nodes k edges) e ≡ Some wire → wire.sent ≡ []
  unsent_at_first nodes k [] e wire h = cc
  unsent_at_first nodes k (edge ∷ edges) zero wire h = ap (λ (w : Wire). w.sent) (sym (some_same _ wire h))
  unsent_at_first nodes k (edge ∷ edges) (suc e) wire h = unsent_at_first nodes (k + 1) edges e wire h

  AllAhead-beginning : AllAhead (beginning graph)
  AllAhead-beginning e edge wire is at =
      rw (unsent_at_first (first_nodes graph 0 graph.nodes) 0 graph.edges e wire at)
      (Ahead-none (notes_at (beginning graph) edge.upper) (number_of graph.edges edge.upper e))

  module _ (rules : Rules) where
    AllAhead-turn : (e : ℕ) (state : State) → AllAhead state → AllAhead (turn rules graph e state)
    AllAhead-turn e state all =
        AllAhead-hear rules (arrive rules graph (send graph state e) e) e (AllAhead-arrive rules (send graph state e) e (AllAhead-send state e all))

    AllAhead-turns : (e more : ℕ) (state : State) → AllAhead state → AllAhead (turns rules graph e more state)
    AllAhead-turns e zero state all = all
    AllAhead-turns e (suc more) state all = AllAhead-turns (e + 1) more (turn rules graph e state) (AllAhead-turn e state all)

    AllAhead-rounds : (count : ℕ) (state : State) → AllAhead state → AllAhead (rounds rules graph count state)
    AllAhead-rounds zero state all = all
    AllAhead-rounds (suc count) state all = AllAhead-rounds count (round rules graph state) (AllAhead-turns 0 (length graph.edges) state all)

    AllAhead-inner : (packets : List (List ℕ)) (state : State) (inner : Inner) → AllAhead state → AllAhead (inner_happens rules graph packets state inner)
    AllAhead-inner packets state (InWrite author packet) all =
        AllAhead-writes rules state author (is_author (slice_get graph.nodes author)) (slice_get state.nodes author) (slice_get packets packet) all
    AllAhead-inner packets state (InDown edge) all = AllAhead-arrive rules state edge all
    AllAhead-inner packets state (InUp edge) all = AllAhead-hear rules state edge all

    AllAhead-stopped : (packets : List (List ℕ)) (state : State) (kept : Bool) (inner : Inner) (actor : Option ℕ) → AllAhead state
        → AllAhead (stopped rules graph packets state kept inner actor)
    AllAhead-stopped packets state kept inner None all = all
    AllAhead-stopped packets state true inner (Some actor) all = AllAhead-crash_node (inner_happens rules graph packets state inner) actor (AllAhead-inner packets state inner all)
    AllAhead-stopped packets state false inner (Some actor) all = AllAhead-crash_node state actor all

    AllAhead-happens : (packets : List (List ℕ)) (state : State) (event : Event) → AllAhead state → AllAhead (happens rules graph packets state event)
    AllAhead-happens packets state (Write author packet) all = AllAhead-inner packets state (InWrite author packet) all
    AllAhead-happens packets state (Send edge) all = AllAhead-send state edge all
    AllAhead-happens packets state (Down edge) all = AllAhead-arrive rules state edge all
    AllAhead-happens packets state (Up edge) all = AllAhead-hear rules state edge all
    AllAhead-happens packets state (Cut edge) all = AllAhead-cut state edge all
    AllAhead-happens packets state (Connect edge) all = AllAhead-connect state edge all
    AllAhead-happens packets state (Crash node) all = AllAhead-crash state node all
    AllAhead-happens packets state (Reopen node) all = AllAhead-reopen state node all
    AllAhead-happens packets state (Stop calls fill inner) all =
        AllAhead-stopped packets state (is_kept calls fill) inner (actor_of rules graph packets state inner) all
    AllAhead-happens packets state Drain all =
        AllAhead-rounds (length graph.edges * length (all_written state.nodes)) (restarted graph state) (AllAhead-restarted state all)

    AllAhead-run : (packets : List (List ℕ)) (events : List Event) (state : State) → AllAhead state → AllAhead (run rules graph packets events state)
    AllAhead-run packets [] state all = all
    AllAhead-run packets (event ∷ events) state all =
        AllAhead-run packets events (happens rules graph packets state event) (AllAhead-happens packets state event all)

    pub IsInTurn-after : (packets : List (List ℕ)) (events : List Event) → IsInTurn graph (after rules graph packets events)
    IsInTurn-after packets events e edge wire is at =
        Ahead-next (notes_at (after rules graph packets events) edge.upper) (number_of graph.edges edge.upper e) wire.sent
        (AllAhead-run packets events (beginning graph) AllAhead-beginning e edge wire is at)
