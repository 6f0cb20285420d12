-- Each note of a scenario's runs has room.
use Rattle.std.proofs.Common.{◌≡◌, ℕ, zero, suc, ◌+◌, ◌*◌, ◌<◌, ◌≤◌, true, false, cond, List, [], ◌∷◌, ◌++◌, length, Option, Some, None, is_none, inl, inr, refl, sym, ap, ◌∙◌, arith, subst, append_assoc, length-append, mul-le-mul}
use Rattle.std.specs.Prelude.{slice_get, if◌then◌else◌, codes, nat_lt}
use Rattle.std.specs.List.{All}
use Rattle.std.proofs.lemmas.Bool.{cases_lt, lt-ltb}
use Rattle.std.proofs.lemmas.Option.{get_or_from_slice_get, slice_get_within}
use Rattle.net_model.specs.declared.scenario.Event.{Event}
use Rattle.net_model.specs.declared.note.Note.{Note}
use Rattle.net_model.specs.declared.note.Note.TheVariants.{Wrote, Acked, Refused, Accept, Done, Enter}
use Rattle.net_model.specs.declared.state.Node.{Node}
use Rattle.net_model.specs.declared.state.State.{State}
use Rattle.net_model.specs.declared.step.Judged.TheVariants.{Good}
use Rattle.net_model.specs.Draining.{HadRoom}
use Rattle.net_model.specs.Laws.{IsIn, Stands}
use Rattle.net_model.specs.Nodes.{links_of, notes_at, notes_of}
use Rattle.net_model.specs.Notes.{brings, is_open, passing}
use Rattle.net_model.specs.Rules.{NodeRules, Rules, endless, rules_at}
use Rattle.net_model.specs.Runs.{after}
use Rattle.net_model.proofs.Growth.{justified}
use Rattle.net_model.proofs.Held.{same_bytes}
use Rattle.net_model.proofs.Kept.{IsSound-run}
use Rattle.net_model.proofs.Members.{IsIn-append_left, IsIn-append_right, IsIn-place, IsIn-split, not_empty}
use Rattle.net_model.proofs.Sound.{IsSound as IsModelSound}
use Rattle.voe_tree.specs.Contents.{attribute_of}
use Rattle.voe_tree.specs.Identifier.{if_identifier, is_identifier}
use Rattle.voe_values.specs.Identifier.{first_fault}
use Rattle.voe_validity.specs.Judging.{IsJudged}
use Rattle.voe_scenario.specs.Shapes.{config_of, shape}
use Rattle.voe_scenario.specs.Sound.{IsShort, IsSound}
use Rattle.voe_scenario.specs.declared.scenario.Scenario.{Scenario}
use Rattle.voevent_cli.specs.Nets.{AreRightFor, node_count}
use Rattle.voevent_cli.proofs.Counted.{IsOf, answers_after, answers_in, offered_by, offers-brings, of_packets, packets_after, packets_in}
use Rattle.voevent_cli.proofs.Origins.{from_after}
use Rattle.voevent_cli.proofs.Sizes.{AllShort, IsShortNote, few_have_room}

-- none of the first rule of identifiers
short_enough : (text : List ℕ) → is_none (first_fault text) ≡ true → length text ≤ 512
unfolding first_fault
short_enough text is =
    elim (cases_lt 512 (length text)) [
      | inl long ↦
          let over : nat_lt 512 (length text) ≡ true = lt-ltb 512 (length text) long in
          absurd cc
      | inr short ↦ short
    ]

named_short : (identifier : List ℕ) (found : Option (List ℕ)) → Some identifier ≡ if_identifier found → length identifier ≤ 512
named_short identifier None is = cc
named_short identifier (Some text) is =
    elim (is_identifier text) as (λ b. is_identifier text ≡ b → Some identifier ≡ (if b then Some text else None) → length identifier ≤ 512) [
      | true ↦ λ one named. let same : identifier ≡ text = cc in rw same (short_enough text one)
      | false ↦ λ none named. cc
    ] refl is

-- what holds of each holds of this one
of_each : {A : Type 0} (P : A → Type 0) (xs : List A) (x : A) → All P xs → IsIn x xs → P x
of_each P xs x all in' =
    let found = IsIn-place xs x in' in
    subst P (get_or_from_slice_get xs found.0 x x found.1) (all found.0 x (slice_get_within xs found.0 x found.1))

passing_few : (rules : NodeRules) (k count : ℕ) (packet : List ℕ) → length (passing rules k count packet) ≤ count
passing_few rules k zero packet = omega arith
passing_few rules k (suc count) packet =
    let rest = passing_few rules (k + 1) count packet in
    elim (rules.passes k packet) as (λ b. length (cond b (k ∷ passing rules (k + 1) count packet) (passing rules (k + 1) count packet)) ≤ suc count)
    [ true ↦ omega arith | false ↦ omega arith ]

packets-append : (xs ys : List Note) → packets_in (xs ++ ys) ≡ packets_in xs ++ packets_in ys
packets-append [] ys = refl
packets-append (Wrote identifier packet ∷ xs) ys = ap (λ (l : List (List ℕ)). packet ∷ l) (packets-append xs ys)
packets-append (Accept identifier links packet ∷ xs) ys = ap (λ (l : List (List ℕ)). packet ∷ l) (packets-append xs ys)
packets-append (Enter identifier packet ∷ xs) ys = ap (λ (l : List (List ℕ)). packet ∷ l) (packets-append xs ys)
packets-append (Acked line identifier ∷ xs) ys = packets-append xs ys
packets-append (Refused line identifier ∷ xs) ys = packets-append xs ys
packets-append (Done link identifier ∷ xs) ys = packets-append xs ys

answers-append : (xs ys : List Note) → answers_in (xs ++ ys) ≡ answers_in xs ++ answers_in ys
answers-append [] ys = refl
answers-append (Acked line identifier ∷ xs) ys = ap (λ (l : List (ℕ × List ℕ)). (line, identifier) ∷ l) (answers-append xs ys)
answers-append (Refused line identifier ∷ xs) ys = ap (λ (l : List (ℕ × List ℕ)). (line, identifier) ∷ l) (answers-append xs ys)
answers-append (Done link identifier ∷ xs) ys = ap (λ (l : List (ℕ × List ℕ)). (link, identifier) ∷ l) (answers-append xs ys)
answers-append (Wrote identifier packet ∷ xs) ys = answers-append xs ys
answers-append (Accept identifier links packet ∷ xs) ys = answers-append xs ys
answers-append (Enter identifier packet ∷ xs) ys = answers-append xs ys

fewer_packets : (xs ys : List Note) → length (packets_in xs) ≤ length (packets_in (xs ++ ys))
fewer_packets xs ys = rw (packets-append xs ys) (omega (arith, length-append (packets_in xs) (packets_in ys)))

fewer_answers : (xs ys : List Note) → length (answers_in xs) ≤ length (answers_in (xs ++ ys))
fewer_answers xs ys = rw (answers-append xs ys) (omega (arith, length-append (answers_in xs) (answers_in ys)))

-- only a node that is there has notes
there : (nodes : List Node) (n : ℕ) (before : List Note) (note : Note) (rest : List Note) → notes_of (slice_get nodes n) ≡ before ++ note ∷ rest → n < length nodes
there nodes n before note rest is =
    elim (slice_get nodes n) as (λ o. slice_get nodes n ≡ o → notes_of o ≡ before ++ note ∷ rest → n < length nodes) [
      | None ↦ λ none has. absurd (not_empty before note rest has)
      | Some node ↦ λ found has. slice_get_within nodes n node found
    ] refl is

module _ (scenario : Scenario) (rules : Rules) (events : List Event) (sound : IsSound scenario) (right : AreRightFor scenario rules) where
  abbrev final : State
  final = after (endless rules) (shape scenario.graph) scenario.packets events

  model : IsModelSound (endless rules) (shape scenario.graph) final
  model = IsSound-run (endless rules) (shape scenario.graph) scenario.packets events

  module _ (n : ℕ) (lt : n < node_count scenario) where
    from_these : (note : Note) → Stands final n note → IsOf scenario.packets note
    from_these = of_packets (endless rules) (shape scenario.graph) scenario.packets final model (from_after (endless rules) (shape scenario.graph) scenario.packets events) n

    good_short : (packet identifier : List ℕ) → IsIn packet scenario.packets → rules.judge packet ≡ Good identifier → (length identifier ≤ 512) × (length packet ≤ 16383)
    good_short packet identifier in' is =
        let judged : IsJudged packet (Good identifier) = subst (IsJudged packet) is ((right n lt).judge packet in') in
        let short : IsShort packet = of_each IsShort scenario.packets packet sound.so_far.short in' in
        (named_short identifier (attribute_of judged.0 (codes "ivorn")) judged.2.1, omega (arith, short.1))

    brought_short : (note : Note) (identifier : List ℕ) → Stands final n note → brings identifier note ≡ true → length identifier ≤ 512
    brought_short (Wrote own packet) identifier stands is =
        let same = same_bytes identifier own is in
        rw same (good_short packet own (from_these (Wrote own packet) stands) (justified model n (Wrote own packet) stands).3.1).0
    brought_short (Accept own links packet) identifier stands is =
        let same = same_bytes identifier own is in
        rw same (good_short packet own (from_these (Accept own links packet) stands) (justified model n (Accept own links packet) stands).3.1).0
    brought_short (Enter own packet) identifier stands is =
        let same = same_bytes identifier own is in
        rw same (good_short packet own (from_these (Enter own packet) stands) (justified model n (Enter own packet) stands).3.1).0
    brought_short (Acked line own) identifier stands is = cc
    brought_short (Refused line own) identifier stands is = cc
    brought_short (Done link own) identifier stands is = cc

    -- what is open behind some of the notes
    open_short : (before : List Note) (note : Note) (rest : List Note) (number : ℕ) (identifier : List ℕ) → notes_at final n ≡ before ++ note ∷ rest
        → is_open before number identifier ≡ true → length identifier ≤ 512
    open_short before note rest number identifier is due =
        let offer = offered_by before number identifier due in
        brought_short offer.0 identifier (subst (IsIn offer.0) (sym is) (IsIn-append_left offer.0 before (note ∷ rest) offer.1)) (offers-brings number identifier offer.0 offer.2)

    note_short : (before : List Note) (note : Note) (rest : List Note) → notes_at final n ≡ before ++ note ∷ rest → IsShortNote note
    note_short before (Wrote identifier packet) rest is =
        let stands : Stands final n (Wrote identifier packet) = subst (IsIn (Wrote identifier packet)) (sym is) (IsIn-append_right (Wrote identifier packet) before (Wrote identifier packet ∷ rest) (inl refl)) in
        good_short packet identifier (from_these (Wrote identifier packet) stands) (model.notes n before (Wrote identifier packet) rest is).1
    note_short before (Enter identifier packet) rest is =
        let stands : Stands final n (Enter identifier packet) = subst (IsIn (Enter identifier packet)) (sym is) (IsIn-append_right (Enter identifier packet) before (Enter identifier packet ∷ rest) (inl refl)) in
        good_short packet identifier (from_these (Enter identifier packet) stands) (model.notes n before (Enter identifier packet) rest is).1
    note_short before (Accept identifier links packet) rest is =
        let stands : Stands final n (Accept identifier links packet) =
        subst (IsIn (Accept identifier links packet)) (sym is) (IsIn-append_right (Accept identifier links packet) before (Accept identifier links packet ∷ rest) (inl refl)) in
        let why = model.notes n before (Accept identifier links packet) rest is in
        let short = good_short packet identifier (from_these (Accept identifier links packet) stands) why.1 in
        let few = passing_few (rules_at (endless rules) n) 0 (links_of (shape scenario.graph) n) packet in
        let most = sound.so_far.links n in
        (short.0, short.1, rw why.2 (omega (arith, few, most)))
    note_short before (Acked line identifier) rest is = open_short before (Acked line identifier) rest line identifier is (model.notes n before (Acked line identifier) rest is).1
    note_short before (Refused line identifier) rest is = open_short before (Refused line identifier) rest line identifier is (model.notes n before (Refused line identifier) rest is).1
    note_short before (Done link identifier) rest is = open_short before (Done link identifier) rest link identifier is (model.notes n before (Done link identifier) rest is).1

    all_short : (before : List Note) (note : Note) (rest : List Note) → notes_at final n ≡ before ++ note ∷ rest → AllShort before
    all_short before note rest is other in' =
        let parts = IsIn-split other before in' in
        note_short parts.0 other (parts.1 ++ note ∷ rest) (is ∙ (ap (λ (l : List Note). l ++ note ∷ rest) parts.2 ∙ append_assoc parts.0 (other ∷ parts.1) (note ∷ rest)))

    has_room_here : (before : List Note) (note : Note) (rest : List Note) → notes_at final n ≡ before ++ note ∷ rest → rules.has_room n before note ≡ true
    has_room_here before note rest is =
        let graph = shape scenario.graph in
        let packets : length (packets_in (before ++ note ∷ rest)) ≤ length scenario.packets =
        subst (λ (l : List Note). length (packets_in l) ≤ length scenario.packets) is (packets_after (endless rules) graph scenario.packets events n) in
        let answers : length (answers_in (before ++ note ∷ rest)) ≤ links_of graph n * length (packets_in (before ++ note ∷ rest)) =
        subst (λ (l : List Note). length (answers_in l) ≤ links_of graph n * length (packets_in l)) is (answers_after (endless rules) graph scenario.packets events n) in
        let most = sound.so_far.packets in
        let all : length (packets_in (before ++ note ∷ rest)) ≤ 1024 = omega (arith, packets, most) in
        let product : links_of graph n * length (packets_in (before ++ note ∷ rest)) ≤ 64 * 1024 = mul-le-mul (sound.so_far.links n) all in
        let own_packets = fewer_packets before (note ∷ rest) in
        let own_answers = fewer_answers before (note ∷ rest) in
        (right n lt).has_room before note
        ∙ few_have_room (config_of scenario.graph n) before note (sound.config n lt) (all_short before note rest is) (note_short before note rest is)
        (omega (arith, own_packets, all)) (omega (arith, own_answers, answers, product))

  pub had_room : HadRoom rules (shape scenario.graph) scenario.packets events
  had_room n before note rest is =
      let within = there final.nodes n before note rest is in
      has_room_here n (omega (arith, within, model.size)) before note rest is
