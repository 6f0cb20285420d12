-- Between the turns of a drain every edge is at rest, and each turn sends one packet more or changes nothing.
use Rattle.std.proofs.Common.{◌≡◌, ℕ, zero, suc, ◌+◌, ◌*◌, ◌≤◌, ◌<◌, true, List, [], ◌∷◌, ◌++◌, length, Some, None, ◌⊎◌, inl, inr, refl, sym, ap, ◌∙◌, arith, length-append}
use Rattle.std.specs.Prelude.{slice_get}
use Rattle.net_model.specs.declared.scenario.Edge.{Edge}
use Rattle.net_model.specs.declared.scenario.Graph.{Graph}
use Rattle.net_model.specs.declared.note.Note.{Note}
use Rattle.net_model.specs.declared.note.Note.TheVariants.{Wrote, Acked, Refused, Accept, Done, Enter}
use Rattle.net_model.specs.declared.state.Wire.{Wire}
use Rattle.net_model.specs.declared.state.State.{State}
use Rattle.net_model.specs.Draining.{IsAllUp, IsProper, NamesWritten, sendings}
use Rattle.net_model.specs.Flights.{arrive, hear, next_over, send}
use Rattle.net_model.specs.Laws.{HasSource, IsCurrent, IsIn}
use Rattle.net_model.specs.Nodes.{notes_at, number_of}
use Rattle.net_model.specs.Notes.{Offer, Placed, brings, to_send}
use Rattle.net_model.specs.Rounds.{turn, turns}
use Rattle.net_model.specs.Rules.{Rules}
use Rattle.net_model.proofs.Sound.{IsSound}
use Rattle.net_model.proofs.Members.{IsIn-append, IsIn-get, get-append, get-other, get-set, length-slice_set}
use Rattle.net_model.proofs.Held.{lists-from, same_bytes}
use Rattle.net_model.proofs.Growth.{justified}
use Rattle.net_model.proofs.Kept.{IsSound-turn}
use Rattle.net_model.proofs.Sessions.{Current-turn}
use Rattle.net_model.specs.declared.step.Judged.TheVariants.{Good}
use Rattle.net_model.proofs.Counting.{IsDistinct, IsDistinct-add, identifiers_at, pigeonhole, sendings-set, sendings-bound}
use Rattle.net_model.proofs.Closed.{IsSpent, IsSpent-grows, first_to_send-next, to_send-brings, to_send-closed}
use Rattle.net_model.proofs.Turn.{turn-sends, turn-still}

-- connected, with nothing under way, and each place that was sent is spent
pub record IsResting (rules : Rules) (graph : Graph) (state : State) (e : ℕ) (edge : Edge) (wire : Wire) : Type 0 where
  pub connected : wire.connected ≡ true
  pub down : wire.down ≡ []
  pub up : wire.up ≡ []
  pub unanswered : wire.unanswered ≡ 0
  pub distinct : IsDistinct wire.sent
  pub spent : (place : ℕ) → IsIn place wire.sent → IsSpent rules (notes_at state edge.upper) (number_of graph.edges edge.upper e) place

pub record IsCalm (rules : Rules) (graph : Graph) (names : List (List ℕ)) (state : State) : Type 0 where
  pub sound : IsSound rules graph state
  pub named : NamesWritten state names
  pub size : length state.wires ≡ length graph.edges
  pub current : IsCurrent graph state
  pub all_up : IsAllUp state
  pub edges : (e : ℕ) (edge : Edge) (wire : Wire) → slice_get graph.edges e ≡ Some edge → slice_get state.wires e ≡ Some wire
      → IsResting rules graph state e edge wire

-- an edge has nothing left to send
abbrev pub IsStill : Graph → State → ℕ → Type 0
IsStill graph state e =
    (edge : Edge) (wire : Wire) → slice_get graph.edges e ≡ Some edge → slice_get state.wires e ≡ Some wire
    → next_over graph state e edge wire ≡ None

some_same : {X : Type 0} (x y : X) → Some x ≡ Some y → x ≡ y
some_same x y h = cc

-- a packet that a note has to send has its identifier
good_packet : (rules : Rules) (graph : Graph) (state : State) (n number : ℕ) (note : Note) (found : Offer) → IsSound rules graph state → IsIn note (notes_at state n)
    → to_send (notes_at state n) number note ≡ Some found
    → (identifier : List ℕ) × (brings identifier note ≡ true) × (rules.judge found.packet ≡ Good identifier)
good_packet rules graph state n number note held sound stands sends =
    let found = to_send-brings (notes_at state n) number note held sends in (
      found.0,
      found.1,
      elim found.2 [
        | inl wrote ↦ (justified sound n (Wrote found.0 held.packet) (rw wrote at stands)).3.1
        | inr accept ↦ (justified sound n (Accept found.0 accept.0 held.packet) (rw accept.1 at stands)).3.1
      ],
    )

written_by : (rules : Rules) (graph : Graph) (state : State) (n : ℕ) (own identifier packet : List ℕ) → IsSound rules graph state
    → rules.judge packet ≡ Good own → identifier ≡ own → HasSource graph state packet n
    → (author : ℕ) × (written : List ℕ) × IsIn (Wrote identifier written) (notes_at state author)
written_by rules graph state n own identifier packet sound good same source =
    let why = (justified sound source.author (Wrote source.identifier packet) source.wrote).3 in
    let is : source.identifier ≡ identifier = cc (why.1, good, same) in
    (source.author, packet, rw (← is) source.wrote)

-- where a note brings an identifier, an author wrote it
written : (rules : Rules) (graph : Graph) (state : State) (n : ℕ) (note : Note) (identifier : List ℕ) → IsSound rules graph state → IsIn note (notes_at state n)
    → brings identifier note ≡ true → (author : ℕ) × (packet : List ℕ) × IsIn (Wrote identifier packet) (notes_at state author)
written rules graph state n (Wrote own packet) identifier sound stands says = (n, packet, rw (same_bytes identifier own says) stands)
written rules graph state n (Accept own links packet) identifier sound stands says =
    let why = (justified sound n (Accept own links packet) stands).3 in
    written_by rules graph state n own identifier packet sound why.1 (same_bytes identifier own says) why.3
written rules graph state n (Enter own packet) identifier sound stands says =
    let why = (justified sound n (Enter own packet) stands).3 in
    written_by rules graph state n own identifier packet sound why.1 (same_bytes identifier own says) why.2
written rules graph state n (Acked line own) identifier sound stands says = cc
written rules graph state n (Refused line own) identifier sound stands says = cc
written rules graph state n (Done link own) identifier sound stands says = cc

stands_later : (notes later more : List Note) (place k : ℕ) (note : Note) → later ≡ notes ++ more → place ≡ k → slice_get notes k ≡ Some note → slice_get later place ≡ Some note
stands_later notes later more place k note grown same stands = rw (grown, same) (get-append notes more k note stands)

still_here : (graph : Graph) (state : State) (e : ℕ) (edge : Edge) (wire : Wire) → slice_get graph.edges e ≡ Some edge → slice_get state.wires e ≡ Some wire
    → next_over graph state e edge wire ≡ None → IsStill graph state e
still_here graph state e edge wire is at nothing other another is' at' =
    let same_edge : edge ≡ other = some_same edge other (sym is ∙ is') in
    let same_wire : wire ≡ another = some_same wire another (sym at ∙ at') in
    rw (← same_edge) (rw (← same_wire) nothing)

still_at : (graph : Graph) (e more k other : ℕ) (state middle : State) → IsStill graph state e → middle ≡ state
    → ((k e' : ℕ) → e' ≡ (e + 1) + k → k < more → IsStill graph middle e') → other ≡ e + k → k < suc more → IsStill graph state other
still_at graph e more zero other state middle first same rest is few = let here : other ≡ e = omega arith in rw here first
still_at graph e more (suc k) other state middle first same rest is few =
    let there : other ≡ (e + 1) + k = omega arith in let few' : k < more = omega arith in rw (← same) (rest k other there few')

module _ (rules : Rules) (graph : Graph) (proper : IsProper graph) (names : List (List ℕ)) where
  -- an edge carries each identifier once
  few_sent : (state : State) → IsCalm rules graph names state → (e : ℕ) (edge : Edge) (wire : Wire)
      → slice_get graph.edges e ≡ Some edge → slice_get state.wires e ≡ Some wire → length wire.sent ≤ length names
  few_sent state calm e edge wire is at =
      let rest = calm.edges e edge wire is at in
      let notes = notes_at state edge.upper in
      let found = identifiers_at notes (calm.sound.single edge.upper) wire.sent rest.distinct
      (λ place h. let spent = rest.spent place h in (spent.note, spent.identifier, spent.stands, spent.says)) in
      let most = pigeonhole found.0 names found.2 (λ identifier h.
      let here = found.3 identifier h in
      let source = written rules graph state edge.upper here.1 identifier calm.sound (IsIn-get notes here.0 here.1 here.3) here.4 in
      calm.named source.0 identifier source.1 source.2) in
      let count = found.1 in
      omega arith

  pub few_sendings : (state : State) → IsCalm rules graph names state → sendings state.wires ≤ length graph.edges * length names
  few_sendings state calm = sendings-bound graph.edges state.wires (length names) calm.size (few_sent state calm)

  -- what a turn does
  pub record IsTurned (e : ℕ) (state later : State) : Type 0 where
    pub calm : IsCalm rules graph names later
    pub change : (IsStill graph state e × (later ≡ state)) ⊎ (sendings later.wires ≡ sendings state.wires + 1)

  turn-next : (state : State) → IsCalm rules graph names state → (e : ℕ) (edge : Edge) (wire : Wire) (first : Placed)
      → slice_get graph.edges e ≡ Some edge → slice_get state.wires e ≡ Some wire
      → next_over graph state e edge wire ≡ Some first
      → IsTurned e state (turn rules graph e state)
  turn-next state calm e edge wire first is at sends =
      let rest = calm.edges e edge wire is at in
      let number = number_of graph.edges edge.upper e in
      let notes = notes_at state edge.upper in
      let found = first_to_send-next notes number wire.sent 0 notes first sends in
      let good = good_packet rules graph state edge.upper number found.note first.1 calm.sound (IsIn-get notes found.k found.note found.stands) found.sends in
      let few : wire.unanswered < graph.window = rw rest.unanswered proper.window in
      let made = turn-sends rules graph state e edge wire first good.0 proper calm.sound.size (calm.current e edge wire is at rest.connected) is at rest.connected few rest.down rest.up sends good.2 in
      let later = turn rules graph e state in
      let more = made.notes edge.upper in
      let place : first.0 ≡ found.k = let p = found.is_place in omega arith in
      let stands : slice_get (notes_at later edge.upper) first.0 ≡ Some found.note = stands_later notes (notes_at later edge.upper) more.0 first.0 found.k found.note more.1 place found.stands in
      let new_spent : IsSpent rules (notes_at later edge.upper) number first.0 = record {
        note = found.note;
        identifier = good.0;
        stands = stands;
        says = good.1;
        spent = elim made.closes
            [ inl lacked ↦ inl lacked | inr closed ↦ inr (to_send-closed (notes_at later edge.upper) number good.0 found.note good.1 closed) ];
      } in
      let old_spent : (other : ℕ) (another : Edge) (worn : Wire) → IsResting rules graph state other another worn
      → (place' : ℕ) → IsIn place' worn.sent → IsSpent rules (notes_at later another.upper) (number_of graph.edges another.upper other) place' =
      λ other another worn resting place' h. rw (made.notes another.upper).1 (IsSpent-grows rules (notes_at state another.upper) (made.notes another.upper).0
      (number_of graph.edges another.upper other) place' (resting.spent place' h)) in
      let new_resting : IsResting rules graph later e edge made.new = record {
        connected = made.connected ∙ rest.connected;
        down = made.down;
        up = made.up;
        unanswered = (let a = made.unanswered in let b = rest.unanswered in omega arith);
        distinct = rw made.sent (IsDistinct-add wire.sent first.0 rest.distinct (λ h. let listed = lists-from wire.sent first.0 h in let fresh = found.fresh in cc));
        spent = λ place' h. elim (IsIn-append place' wire.sent (first.0 ∷ []) (rw made.sent at h)) [
          | inl before ↦ old_spent e edge wire rest place' before
          | inr now ↦ elim now [ inl same ↦ rw same new_spent | inr none ↦ absurd none ]
        ];
      } in
      record {
        calm = record {
          sound = IsSound-turn rules graph e state calm.sound;
          named = λ n identifier packet h. elim (IsIn-append (Wrote identifier packet) (notes_at state n) (made.notes n).0 (rw (made.notes n).1 at h))
              [ inl before ↦ calm.named n identifier packet before | inr now ↦ absurd ((made.notes n).2 identifier packet now) ];
          size = ap length made.wires ∙ (length-slice_set state.wires e made.new ∙ calm.size);
          current = Current-turn graph rules e state calm.current;
          all_up = made.ups calm.all_up;
          edges = λ other another worn is' at'. elim (get-set state.wires e other made.new) [
            | inl same ↦
                let at_old : slice_get state.wires other ≡ Some worn = sym same ∙ (sym (ap (λ (ws : List Wire). slice_get ws other) made.wires) ∙ at') in
                let resting = calm.edges other another worn is' at_old in
                record {
                  connected = resting.connected;
                  down = resting.down;
                  up = resting.up;
                  unanswered = resting.unanswered;
                  distinct = resting.distinct;
                  spent = old_spent other another worn resting;
                }
            | inr both ↦
                let same_wire : made.new ≡ worn = some_same made.new worn (sym both.1 ∙ (sym (ap (λ (ws : List Wire). slice_get ws other) made.wires) ∙ at')) in
                let same_edge : edge ≡ another = some_same edge another (sym is ∙ (ap (slice_get graph.edges) (sym both.0) ∙ is')) in
                rw both.0 (rw (← same_wire) (rw (← same_edge) new_resting))
          ];
        };
        change = inr (ap sendings made.wires ∙ sendings-set state.wires e wire made.new at
            (ap length made.sent ∙ length-append wire.sent (first.0 ∷ [])));
      }

  turn-nowhere : (e : ℕ) (state : State) → slice_get graph.edges e ≡ None → turn rules graph e state ≡ state
  turn-nowhere e state none =
      let sent : send graph state e ≡ state = rw none refl in
      let came : arrive rules graph state e ≡ state = rw none refl in
      let told : hear rules graph state e ≡ state = rw none refl in
      ap (λ (s : State). hear rules graph (arrive rules graph s e) e) sent ∙ (ap (λ (s : State). hear rules graph s e) came ∙ told)

  turn-same : (e : ℕ) (state : State) → IsCalm rules graph names state → IsStill graph state e → turn rules graph e state ≡ state
      → IsTurned e state (turn rules graph e state)
  turn-same e state calm still same = record { calm = rw same calm; change = inl (still, same) }

  pub turn-calm : (e : ℕ) (state : State) → IsCalm rules graph names state → IsTurned e state (turn rules graph e state)
  turn-calm e state calm =
      elim (slice_get graph.edges e) as (λ o. slice_get graph.edges e ≡ o → IsTurned e state (turn rules graph e state)) [
        | None ↦ λ none. turn-same e state calm (λ edge wire is at. let clash : None ≡ Some edge = sym none ∙ is in cc) (turn-nowhere e state none)
        | Some edge ↦ λ is.
            let there = get-other graph.edges state.wires e edge (sym calm.size) is in
            let wire = there.0 in
            let rest = calm.edges e edge wire is there.1 in
            let few : wire.unanswered < graph.window = rw rest.unanswered proper.window in
            elim (next_over graph state e edge wire) as (λ o.
            next_over graph state e edge wire ≡ o
            → IsTurned e state (turn rules graph e state)) [
              | None ↦ λ nothing. turn-same e state calm (still_here graph state e edge wire is there.1 nothing)
                  (turn-still rules graph state e edge wire is there.1 rest.connected few rest.down rest.up nothing)
              | Some first ↦ λ sends. turn-next state calm e edge wire first is there.1 sends
            ] refl
      ] refl

  -- what turns or rounds do: nothing, where no edge of these has anything to send, or more packets are sent
  pub record HasMoved (from more : ℕ) (state later : State) : Type 0 where
    pub calm : IsCalm rules graph names later
    pub change : (((k e : ℕ) → e ≡ from + k → k < more → IsStill graph state e) × (later ≡ state))
        ⊎ (sendings state.wires + 1 ≤ sendings later.wires)

  moved_more : (e more : ℕ) (state middle later : State) → IsTurned e state middle → HasMoved (e + 1) more middle later → HasMoved e (suc more) state later
  moved_more e more state middle later one rest = record {
    calm = rest.calm;
    change = elim one.change [
      | inl same ↦ elim rest.change [
        | inl both ↦ inl (
          λ k other is few. still_at graph e more k other state middle same.0 same.1 both.0 is few,
          both.1 ∙ same.1,
        )
        | inr grown ↦ inr (rw same.1 at grown)
      ]
      | inr more' ↦ elim rest.change [
        | inl both ↦ inr (rw both.1 (omega (arith, more')))
        | inr grown ↦ inr (omega (arith, more', grown))
      ]
    ];
  }

  pub turns-calm : (e more : ℕ) (state : State) → IsCalm rules graph names state → HasMoved e more state (turns rules graph e more state)
  turns-calm e zero state calm = record { calm = calm; change = inl (λ k other is few. absurd (omega arith), refl) }
  turns-calm e (suc more) state calm =
      let one = turn-calm e state calm in
      moved_more e more state (turn rules graph e state) (turns rules graph (e + 1) more (turn rules graph e state)) one
      (turns-calm (e + 1) more (turn rules graph e state) one.calm)
