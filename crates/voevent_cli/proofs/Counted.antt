-- A node's notes bring distinct packets, and answer distinct lines or links and identifiers.
use Rattle.std.proofs.Common.{◌≡◌, ℕ, zero, suc, ◌+◌, ◌*◌, ◌<◌, ◌≤◌, ◌==◌, ◌&&◌, not, Bool, true, false, List, [], ◌∷◌, ◌++◌, length, map, Some, inl, inr, refl, sym, ap, ◌∙◌, arith, subst, append_assoc, length-append, suc-mul, zero-mul, eq-eqb}
use Rattle.std.proofs.lemmas.Bool.{and_parts, eqb-true}
use Rattle.std.proofs.lemmas.Bool.Decides.{nat_tests}
use Rattle.std.proofs.lemmas.List.{length-map}
use Rattle.std.specs.List.{list_any}
use Rattle.std.specs.Str.{bytes_eq}
use Rattle.net_model.specs.declared.scenario.Event.{Event}
use Rattle.net_model.specs.declared.scenario.Graph.{Graph}
use Rattle.voe_values.specs.declared.kind.NodeKind.TheVariants.{Author, Broker}
use Rattle.net_model.specs.declared.note.Note.{Note}
use Rattle.net_model.specs.declared.note.Note.TheVariants.{Wrote, Acked, Refused, Accept, Done, Enter}
use Rattle.net_model.specs.declared.state.State.{State}
use Rattle.net_model.specs.declared.step.Judged.TheVariants.{Good}
use Rattle.net_model.specs.Laws.{IsA, IsIn, Stands}
use Rattle.net_model.specs.Nodes.{links_of, notes_at}
use Rattle.net_model.specs.Notes.{brings, is_answer, is_open, lists, offers, times_held}
use Rattle.net_model.specs.Rules.{Rules, rules_at}
use Rattle.net_model.specs.Runs.{after}
use Rattle.net_model.proofs.Counting.{IsDistinct, pigeonhole}
use Rattle.net_model.proofs.Growth.{justified}
use Rattle.net_model.proofs.Held.{bytes_eq-same, list_any-found, list_any-from, lists-found, same_bytes}
use Rattle.net_model.proofs.Kept.{IsSound-run}
use Rattle.net_model.proofs.Members.{IsIn-append_left, IsIn-append_right}
use Rattle.net_model.proofs.Places.{passing-place}
use Rattle.net_model.proofs.Settled.{IsOrdered-sound}
use Rattle.net_model.proofs.Sound.{IsSound}
use Rattle.voevent_cli.proofs.Origins.{AllFrom, from_after}

-- the packets that the notes bring
abbrev pub packets_in : List Note → List (List ℕ)
packets_in [] = []
packets_in (Wrote identifier packet ∷ notes) = packet ∷ packets_in notes
packets_in (Accept identifier links packet ∷ notes) = packet ∷ packets_in notes
packets_in (Enter identifier packet ∷ notes) = packet ∷ packets_in notes
packets_in (Acked line identifier ∷ notes) = packets_in notes
packets_in (Refused line identifier ∷ notes) = packets_in notes
packets_in (Done link identifier ∷ notes) = packets_in notes

-- the line or link of each answer, with the identifier that it answers
abbrev pub answers_in : List Note → List (ℕ × List ℕ)
answers_in [] = []
answers_in (Acked line identifier ∷ notes) = (line, identifier) ∷ answers_in notes
answers_in (Refused line identifier ∷ notes) = (line, identifier) ∷ answers_in notes
answers_in (Done link identifier ∷ notes) = (link, identifier) ∷ answers_in notes
answers_in (Wrote identifier packet ∷ notes) = answers_in notes
answers_in (Accept identifier links packet ∷ notes) = answers_in notes
answers_in (Enter identifier packet ∷ notes) = answers_in notes

-- ---- the packets

-- the identifiers that the notes bring
abbrev pub ids_in : List Note → List (List ℕ)
ids_in [] = []
ids_in (Wrote identifier packet ∷ notes) = identifier ∷ ids_in notes
ids_in (Accept identifier links packet ∷ notes) = identifier ∷ ids_in notes
ids_in (Enter identifier packet ∷ notes) = identifier ∷ ids_in notes
ids_in (Acked line identifier ∷ notes) = ids_in notes
ids_in (Refused line identifier ∷ notes) = ids_in notes
ids_in (Done link identifier ∷ notes) = ids_in notes

same_count : (notes : List Note) → length (ids_in notes) ≡ length (packets_in notes)
same_count [] = refl
same_count (Wrote identifier packet ∷ notes) = ap suc (same_count notes)
same_count (Accept identifier links packet ∷ notes) = ap suc (same_count notes)
same_count (Enter identifier packet ∷ notes) = ap suc (same_count notes)
same_count (Acked line identifier ∷ notes) = same_count notes
same_count (Refused line identifier ∷ notes) = same_count notes
same_count (Done link identifier ∷ notes) = same_count notes

-- a packet stands under its own identifier
abbrev IsGood : Rules → Note → Type 0
IsGood rules (Wrote identifier packet) = rules.judge packet ≡ Good identifier
IsGood rules (Accept identifier links packet) = rules.judge packet ≡ Good identifier
IsGood rules (Enter identifier packet) = rules.judge packet ≡ Good identifier
IsGood rules (Acked line identifier) = Unit {0}
IsGood rules (Refused line identifier) = Unit {0}
IsGood rules (Done link identifier) = Unit {0}

abbrev AllGood : Rules → List Note → Type 0
AllGood rules notes = (note : Note) → IsIn note notes → IsGood rules note

-- one of the notes brings the packet
record IsBrought (rules : Rules) (notes : List Note) (packet : List ℕ) : Type 0 where
  note : Note
  identifier : List ℕ
  stands : IsIn note notes
  brought : brings identifier note ≡ true
  good : rules.judge packet ≡ Good identifier

brought_later : (rules : Rules) (first : Note) (notes : List Note) (packet : List ℕ) → IsBrought rules notes packet → IsBrought rules (first ∷ notes) packet
brought_later rules first notes packet found = record { note = found.note; identifier = found.identifier; stands = inr found.stands; brought = found.brought; good = found.good }

brought_first : (rules : Rules) (first : Note) (notes : List Note) (identifier own packet : List ℕ) → packet ≡ own → brings identifier first ≡ true
    → rules.judge own ≡ Good identifier → IsBrought rules (first ∷ notes) packet
brought_first rules first notes identifier own packet same says good = record { note = first; identifier = identifier; stands = inl refl; brought = says; good = rw same good }

brought_by : (rules : Rules) (notes : List Note) (packet : List ℕ) → AllGood rules notes → IsIn packet (packets_in notes) → IsBrought rules notes packet
brought_by rules [] packet good h = absurd h
brought_by rules (Wrote identifier own ∷ notes) packet good (inl same) =
    brought_first rules (Wrote identifier own) notes identifier own packet same (bytes_eq-same identifier) (good (Wrote identifier own) (inl refl))
brought_by rules (Accept identifier links own ∷ notes) packet good (inl same) =
    brought_first rules (Accept identifier links own) notes identifier own packet same (bytes_eq-same identifier) (good (Accept identifier links own) (inl refl))
brought_by rules (Enter identifier own ∷ notes) packet good (inl same) =
    brought_first rules (Enter identifier own) notes identifier own packet same (bytes_eq-same identifier) (good (Enter identifier own) (inl refl))
brought_by rules (Wrote identifier own ∷ notes) packet good (inr h) = brought_later rules _ notes packet (brought_by rules notes packet (λ note in'. good note (inr in')) h)
brought_by rules (Accept identifier links own ∷ notes) packet good (inr h) = brought_later rules _ notes packet (brought_by rules notes packet (λ note in'. good note (inr in')) h)
brought_by rules (Enter identifier own ∷ notes) packet good (inr h) = brought_later rules _ notes packet (brought_by rules notes packet (λ note in'. good note (inr in')) h)
brought_by rules (Acked line own ∷ notes) packet good h = brought_later rules _ notes packet (brought_by rules notes packet (λ note in'. good note (inr in')) h)
brought_by rules (Refused line own ∷ notes) packet good h = brought_later rules _ notes packet (brought_by rules notes packet (λ note in'. good note (inr in')) h)
brought_by rules (Done link own ∷ notes) packet good h = brought_later rules _ notes packet (brought_by rules notes packet (λ note in'. good note (inr in')) h)

held_in : (notes : List Note) (note : Note) (identifier : List ℕ) → IsIn note notes → brings identifier note ≡ true → 1 ≤ times_held notes identifier
held_in [] note identifier h is = absurd h
held_in (first ∷ notes) note identifier (inl same) is = let here : brings identifier first ≡ true = rw same at is in rw here (omega arith)
held_in (first ∷ notes) note identifier (inr later) is = let rest = held_in notes note identifier later is in omega arith

-- a note's packet is not brought once more
brought_once : (rules : Rules) (note : Note) (notes : List Note) (identifier packet : List ℕ) → brings identifier note ≡ true → rules.judge packet ≡ Good identifier
    → times_held (note ∷ notes) identifier ≤ 1 → AllGood rules notes → IsIn packet (packets_in notes) → ⊥
brought_once rules note notes identifier packet says is single good h =
    let found = brought_by rules notes packet good h in
    let clash : Good found.identifier ≡ Good identifier = sym found.good ∙ is in
    let same : found.identifier ≡ identifier = cc in
    let once : 1 ≤ times_held notes identifier = subst (λ i. 1 ≤ times_held notes i) same (held_in notes found.note found.identifier found.stands found.brought) in
    let twice : 1 + times_held notes identifier ≤ 1 = rw says at single in
    omega arith

distinct_packets : (rules : Rules) (notes : List Note) → ((identifier : List ℕ) → times_held notes identifier ≤ 1) → AllGood rules notes → IsDistinct (packets_in notes)
distinct_packets rules [] single good = tt
distinct_packets rules (Wrote identifier packet ∷ notes) single good = (
  brought_once rules (Wrote identifier packet) notes identifier packet (bytes_eq-same identifier) (good _ (inl refl)) (single identifier) (λ note in'. good note (inr in')),
  distinct_packets rules notes (λ other. let most = single other in omega arith) (λ note in'. good note (inr in')),
)
distinct_packets rules (Accept identifier links packet ∷ notes) single good = (
  brought_once rules (Accept identifier links packet) notes identifier packet (bytes_eq-same identifier) (good _ (inl refl)) (single identifier) (λ note in'. good note (inr in')),
  distinct_packets rules notes (λ other. let most = single other in omega arith) (λ note in'. good note (inr in')),
)
distinct_packets rules (Enter identifier packet ∷ notes) single good = (
  brought_once rules (Enter identifier packet) notes identifier packet (bytes_eq-same identifier) (good _ (inl refl)) (single identifier) (λ note in'. good note (inr in')),
  distinct_packets rules notes (λ other. let most = single other in omega arith) (λ note in'. good note (inr in')),
)
distinct_packets rules (Acked line own ∷ notes) single good = distinct_packets rules notes (λ other. let most = single other in omega arith) (λ note in'. good note (inr in'))
distinct_packets rules (Refused line own ∷ notes) single good = distinct_packets rules notes (λ other. let most = single other in omega arith) (λ note in'. good note (inr in'))
distinct_packets rules (Done link own ∷ notes) single good = distinct_packets rules notes (λ other. let most = single other in omega arith) (λ note in'. good note (inr in'))

-- the packet of a note is one of these
abbrev pub IsOf : List (List ℕ) → Note → Type 0
IsOf packets (Wrote identifier packet) = IsIn packet packets
IsOf packets (Accept identifier links packet) = IsIn packet packets
IsOf packets (Enter identifier packet) = IsIn packet packets
IsOf packets (Acked line identifier) = Unit {0}
IsOf packets (Refused line identifier) = Unit {0}
IsOf packets (Done link identifier) = Unit {0}

among : (packets : List (List ℕ)) (notes : List Note) → ((note : Note) → IsIn note notes → IsOf packets note) → (packet : List ℕ) → IsIn packet (packets_in notes) → IsIn packet packets
among packets [] of packet h = absurd h
among packets (Wrote identifier own ∷ notes) of packet (inl same) = rw same (of (Wrote identifier own) (inl refl))
among packets (Accept identifier links own ∷ notes) of packet (inl same) = rw same (of (Accept identifier links own) (inl refl))
among packets (Enter identifier own ∷ notes) of packet (inl same) = rw same (of (Enter identifier own) (inl refl))
among packets (Wrote identifier own ∷ notes) of packet (inr h) = among packets notes (λ note in'. of note (inr in')) packet h
among packets (Accept identifier links own ∷ notes) of packet (inr h) = among packets notes (λ note in'. of note (inr in')) packet h
among packets (Enter identifier own ∷ notes) of packet (inr h) = among packets notes (λ note in'. of note (inr in')) packet h
among packets (Acked line own ∷ notes) of packet h = among packets notes (λ note in'. of note (inr in')) packet h
among packets (Refused line own ∷ notes) of packet h = among packets notes (λ note in'. of note (inr in')) packet h
among packets (Done link own ∷ notes) of packet h = among packets notes (λ note in'. of note (inr in')) packet h

-- ---- the answers

own_answer : (l : ℕ) (i : List ℕ) → ((l == l) && bytes_eq i i) ≡ true
own_answer l i = rw (eq-eqb l l refl, bytes_eq-same i) refl

abbrev Key : Type 0
Key = ℕ × List ℕ

-- the note that gives a key
record IsKeyed (notes : List Note) (l : ℕ) (i : List ℕ) : Type 0 where
  before : List Note
  note : Note
  after : List Note
  is : notes ≡ before ++ note ∷ after
  says : is_answer l i note ≡ true

keyed_later : (first : Note) (notes : List Note) (l : ℕ) (i : List ℕ) → IsKeyed notes l i → IsKeyed (first ∷ notes) l i
keyed_later first notes l i found = record { before = first ∷ found.before; note = found.note; after = found.after; is = ap (λ (xs : List Note). first ∷ xs) found.is; says = found.says }

keyed_first : (first : Note) (notes : List Note) (l line : ℕ) (i own : List ℕ) → ◌≡◌ {A = Key} (l, i) (line, own) → is_answer line own first ≡ true → IsKeyed (first ∷ notes) l i
keyed_first first notes l line i own same says =
    let a : l ≡ line = ap (λ (p : Key). p.0) same in
    let b : i ≡ own = ap (λ (p : Key). p.1) same in
    record { before = []; note = first; after = notes; is = refl; says = rw (a, b) says }

keyed : (notes : List Note) (l : ℕ) (i : List ℕ) → IsIn (l, i) (answers_in notes) → IsKeyed notes l i
keyed [] l i h = absurd h
keyed (Acked line own ∷ notes) l i (inl same) = keyed_first (Acked line own) notes l line i own same (own_answer line own)
keyed (Refused line own ∷ notes) l i (inl same) = keyed_first (Refused line own) notes l line i own same (own_answer line own)
keyed (Done link own ∷ notes) l i (inl same) = keyed_first (Done link own) notes l link i own same (own_answer link own)
keyed (Acked line own ∷ notes) l i (inr h) = keyed_later (Acked line own) notes l i (keyed notes l i h)
keyed (Refused line own ∷ notes) l i (inr h) = keyed_later (Refused line own) notes l i (keyed notes l i h)
keyed (Done link own ∷ notes) l i (inr h) = keyed_later (Done link own) notes l i (keyed notes l i h)
keyed (Wrote identifier packet ∷ notes) l i h = keyed_later (Wrote identifier packet) notes l i (keyed notes l i h)
keyed (Accept identifier links packet ∷ notes) l i h = keyed_later (Accept identifier links packet) notes l i (keyed notes l i h)
keyed (Enter identifier packet ∷ notes) l i h = keyed_later (Enter identifier packet) notes l i (keyed notes l i h)

-- each answer stands behind what it answers, and nothing between answers that
abbrev AreOpened : List Note → Type 0
AreOpened notes = (before : List Note) (answer : Note) (rest : List Note) (l : ℕ) (i : List ℕ) → notes ≡ before ++ answer ∷ rest
    → is_answer l i answer ≡ true → is_open before l i ≡ true

not_both : (a b : Bool) → b ≡ true → (a && not b) ≡ true → ⊥
not_both true true is both = cc
not_both false true is both = cc
not_both a false is both = cc

closed : (notes : List Note) (note : Note) (l : ℕ) (i : List ℕ) → IsIn note notes → is_answer l i note ≡ true → is_open notes l i ≡ true → ⊥
unfolding is_open
closed notes note l i stands says open' =
    not_both (list_any (offers l i) notes) (list_any (is_answer l i) notes) (list_any-from (is_answer l i) notes note stands says) open'

-- an answer is not given once more
answered_once : (done : List Note) (first : Note) (notes : List Note) (l : ℕ) (i : List ℕ) → AreOpened (done ++ first ∷ notes) → is_answer l i first ≡ true
    → IsIn (l, i) (answers_in notes) → ⊥
answered_once done first notes l i opened says h =
    let found = keyed notes l i h in
    let is : done ++ first ∷ notes ≡ (done ++ first ∷ found.before) ++ found.note ∷ found.after =
    ap (λ (xs : List Note). done ++ first ∷ xs) found.is ∙ sym (append_assoc done (first ∷ found.before) (found.note ∷ found.after)) in
    closed (done ++ first ∷ found.before) first l i (IsIn-append_right first done (first ∷ found.before) (inl refl)) says
    (opened (done ++ first ∷ found.before) found.note found.after l i is found.says)

opened_later : (done : List Note) (first : Note) (notes : List Note) → AreOpened (done ++ first ∷ notes) → AreOpened ((done ++ first ∷ []) ++ notes)
opened_later done first notes opened before answer rest l i is says =
    opened before answer rest l i (sym (append_assoc done (first ∷ []) notes) ∙ is) says

distinct_answers : (done notes : List Note) → AreOpened (done ++ notes) → IsDistinct (answers_in notes)
distinct_answers done [] opened = tt
distinct_answers done (Acked line own ∷ notes) opened =
    (answered_once done (Acked line own) notes line own opened (own_answer line own), distinct_answers (done ++ Acked line own ∷ []) notes (opened_later done (Acked line own) notes opened))
distinct_answers done (Refused line own ∷ notes) opened =
    (answered_once done (Refused line own) notes line own opened (own_answer line own), distinct_answers (done ++ Refused line own ∷ []) notes (opened_later done (Refused line own) notes opened))
distinct_answers done (Done link own ∷ notes) opened =
    (answered_once done (Done link own) notes link own opened (own_answer link own), distinct_answers (done ++ Done link own ∷ []) notes (opened_later done (Done link own) notes opened))
distinct_answers done (Wrote identifier packet ∷ notes) opened = distinct_answers (done ++ Wrote identifier packet ∷ []) notes (opened_later done (Wrote identifier packet) notes opened)
distinct_answers done (Accept identifier links packet ∷ notes) opened = distinct_answers (done ++ Accept identifier links packet ∷ []) notes (opened_later done (Accept identifier links packet) notes opened)
distinct_answers done (Enter identifier packet ∷ notes) opened = distinct_answers (done ++ Enter identifier packet ∷ []) notes (opened_later done (Enter identifier packet) notes opened)

-- each number below a bound with each of the names
abbrev pairs_of : ℕ → List (List ℕ) → List Key
pairs_of zero names = []
pairs_of (suc k) names = map (λ name. (k, name)) names ++ pairs_of k names

in_map : (k : ℕ) (names : List (List ℕ)) (i : List ℕ) → IsIn i names → IsIn {X = Key} (k, i) (map (λ name. (k, name)) names)
in_map k [] i h = absurd h
in_map k (name ∷ names) i (inl same) = inl (ap (λ x. (k, x)) same)
in_map k (name ∷ names) i (inr h) = inr (in_map k names i h)

in_pairs : (k : ℕ) (names : List (List ℕ)) (l : ℕ) (i : List ℕ) → l < k → IsIn i names → IsIn (l, i) (pairs_of k names)
in_pairs zero names l i few h = absurd (omega arith)
in_pairs (suc k) names l i few h =
    elim (l == k) as (λ b. (l == k) ≡ b → IsIn (l, i) (pairs_of (suc k) names)) [
      | true ↦ λ is. let same : l ≡ k = eqb-true l k is in
          rw same (IsIn-append_left (k, i) (map (λ name. (k, name)) names) (pairs_of k names) (in_map k names i h))
      | false ↦ λ isnt. let fewer : l < k = grind (arith, nat_tests) in
          IsIn-append_right (l, i) (map (λ name. (k, name)) names) (pairs_of k names) (in_pairs k names l i fewer h)
    ] refl

length_pairs : (k : ℕ) (names : List (List ℕ)) → length (pairs_of k names) ≡ k * length names
length_pairs zero names = rw (zero-mul (length names)) refl
length_pairs (suc k) names =
    let rest = length_pairs k names in
    rw (suc-mul k (length names)) (omega (arith, rest, length-append (map (λ name. (k, name)) names) (pairs_of k names), length-map {B = Key} names (λ name. (k, name))))

in_ids : (notes : List Note) (note : Note) (i : List ℕ) → IsIn note notes → brings i note ≡ true → IsIn i (ids_in notes)
in_ids [] note i h is = absurd h
in_ids (Wrote own packet ∷ notes) note i (inl same) is = let here : bytes_eq i own ≡ true = rw same at is in inl (same_bytes i own here)
in_ids (Accept own links packet ∷ notes) note i (inl same) is = let here : bytes_eq i own ≡ true = rw same at is in inl (same_bytes i own here)
in_ids (Enter own packet ∷ notes) note i (inl same) is = let here : bytes_eq i own ≡ true = rw same at is in inl (same_bytes i own here)
in_ids (Acked line own ∷ notes) note i (inl same) is = let wrong : false ≡ true = rw same at is in cc
in_ids (Refused line own ∷ notes) note i (inl same) is = let wrong : false ≡ true = rw same at is in cc
in_ids (Done link own ∷ notes) note i (inl same) is = let wrong : false ≡ true = rw same at is in cc
in_ids (Wrote own packet ∷ notes) note i (inr h) is = inr (in_ids notes note i h is)
in_ids (Accept own links packet ∷ notes) note i (inr h) is = inr (in_ids notes note i h is)
in_ids (Enter own packet ∷ notes) note i (inr h) is = inr (in_ids notes note i h is)
in_ids (Acked line own ∷ notes) note i (inr h) is = in_ids notes note i h is
in_ids (Refused line own ∷ notes) note i (inr h) is = in_ids notes note i h is
in_ids (Done link own ∷ notes) note i (inr h) is = in_ids notes note i h is

-- what is open is offered by a note
pub offered_by : (notes : List Note) (l : ℕ) (i : List ℕ) → is_open notes l i ≡ true → (note : Note) × IsIn note notes × (offers l i note ≡ true)
unfolding is_open
offered_by notes l i open' =
    list_any-found (offers l i) notes (and_parts (list_any (offers l i) notes) (not (list_any (is_answer l i) notes)) open').0

pub offers-brings : (l : ℕ) (i : List ℕ) (note : Note) → offers l i note ≡ true → brings i note ≡ true
offers-brings l i (Wrote own packet) is = is
offers-brings l i (Accept own links packet) is = (and_parts (bytes_eq i own) (lists links l) is).0
offers-brings l i (Enter own packet) is = cc
offers-brings l i (Acked line own) is = cc
offers-brings l i (Refused line own) is = cc
offers-brings l i (Done link own) is = cc

module _ (rules : Rules) (graph : Graph) (packets : List (List ℕ)) (state : State) (sound : IsSound rules graph state) (from : AllFrom graph packets state) (n : ℕ) where
  good_of : (note : Note) → Stands state n note → IsGood rules note
  good_of (Wrote identifier packet) stands = (justified sound n (Wrote identifier packet) stands).3.1
  good_of (Accept identifier links packet) stands = (justified sound n (Accept identifier links packet) stands).3.1
  good_of (Enter identifier packet) stands = (justified sound n (Enter identifier packet) stands).3.1
  good_of (Acked line identifier) stands = tt
  good_of (Refused line identifier) stands = tt
  good_of (Done link identifier) stands = tt

  pub of_packets : (note : Note) → Stands state n note → IsOf packets note
  of_packets (Wrote identifier packet) stands = from n (Wrote identifier packet) stands
  of_packets (Accept identifier links packet) stands =
      let source = (justified sound n (Accept identifier links packet) stands).3.3 in from source.author (Wrote source.identifier packet) source.wrote
  of_packets (Enter identifier packet) stands =
      let source = (justified sound n (Enter identifier packet) stands).3.2 in from source.author (Wrote source.identifier packet) source.wrote
  of_packets (Acked line identifier) stands = tt
  of_packets (Refused line identifier) stands = tt
  of_packets (Done link identifier) stands = tt

  few_packets : length (packets_in (notes_at state n)) ≤ length packets
  few_packets =
      pigeonhole (packets_in (notes_at state n)) packets (distinct_packets rules (notes_at state n) (sound.single n) good_of) (among packets (notes_at state n) of_packets)

  opened : AreOpened (notes_at state n)
  opened before answer rest l i is says = IsOrdered-sound rules graph state sound n l i before answer rest is says

  -- a broker offers an identifier on one of its links
  offered_few : IsA graph n Broker → (l : ℕ) (i : List ℕ) (note : Note) → Stands state n note → offers l i note ≡ true → l < links_of graph n
  offered_few broker l i (Wrote own packet) stands says =
      let author = (justified sound n (Wrote own packet) stands).3.0 in
      let clash : Some Author ≡ Some Broker = sym author ∙ broker in cc
  offered_few broker l i (Accept own links packet) stands says =
      let why = (justified sound n (Accept own links packet) stands).3 in
      let listed : IsIn l links = lists-found links l (and_parts (bytes_eq i own) (lists links l) says).1 in
      let found = passing-place (rules_at rules n) 0 (links_of graph n) packet l (subst (IsIn l) why.2 listed) in
      let place = found.1 in let few = found.2 in omega arith
  offered_few broker l i (Enter own packet) stands says = cc
  offered_few broker l i (Acked line own) stands says = cc
  offered_few broker l i (Refused line own) stands says = cc
  offered_few broker l i (Done link own) stands says = cc

  key_few : (before : List Note) (note : Note) (rest : List Note) (l : ℕ) (i : List ℕ) → notes_at state n ≡ before ++ note ∷ rest → is_answer l i note ≡ true → l < links_of graph n
  key_few before (Acked line own) rest l i is says =
      let same : line ≡ l = eqb-true line l (and_parts (line == l) (bytes_eq i own) says).0 in
      rw (← same) (from n (Acked line own) (rw is (IsIn-append_right (Acked line own) before (Acked line own ∷ rest) (inl refl))))
  key_few before (Refused line own) rest l i is says =
      let same : line ≡ l = eqb-true line l (and_parts (line == l) (bytes_eq i own) says).0 in
      rw (← same) (from n (Refused line own) (rw is (IsIn-append_right (Refused line own) before (Refused line own ∷ rest) (inl refl))))
  key_few before (Done link own) rest l i is says =
      let broker = (sound.notes n before (Done link own) rest is).0 in
      let found = offered_by before l i (opened before (Done link own) rest l i is says) in
      offered_few broker l i found.0 (rw is (IsIn-append_left found.0 before (Done link own ∷ rest) found.1)) found.2
  key_few before (Wrote own packet) rest l i is says = cc
  key_few before (Accept own links packet) rest l i is says = cc
  key_few before (Enter own packet) rest l i is says = cc

  key_among : (key : Key) → IsIn key (answers_in (notes_at state n)) → IsIn key (pairs_of (links_of graph n) (ids_in (notes_at state n)))
  key_among (l, i) h =
      let found = keyed (notes_at state n) l i h in
      let offer = offered_by found.before l i (opened found.before found.note found.after l i found.is found.says) in
      let stands : IsIn offer.0 (notes_at state n) = subst (IsIn offer.0) (sym found.is) (IsIn-append_left offer.0 found.before (found.note ∷ found.after) offer.1) in
      in_pairs (links_of graph n) (ids_in (notes_at state n)) l i (key_few found.before found.note found.after l i found.is found.says)
      (in_ids (notes_at state n) offer.0 i stands (offers-brings l i offer.0 offer.2))

  few_answers : length (answers_in (notes_at state n)) ≤ links_of graph n * length (packets_in (notes_at state n))
  few_answers =
      rw (← same_count (notes_at state n))
      (rw (← length_pairs (links_of graph n) (ids_in (notes_at state n)))
      (pigeonhole (answers_in (notes_at state n)) (pairs_of (links_of graph n) (ids_in (notes_at state n))) (distinct_answers [] (notes_at state n) opened) key_among))

pub packets_after : (rules : Rules) (graph : Graph) (packets : List (List ℕ)) (events : List Event) (n : ℕ)
    → length (packets_in (notes_at (after rules graph packets events) n)) ≤ length packets
packets_after rules graph packets events n =
    few_packets rules graph packets (after rules graph packets events) (IsSound-run rules graph packets events) (from_after rules graph packets events) n

pub answers_after : (rules : Rules) (graph : Graph) (packets : List (List ℕ)) (events : List Event) (n : ℕ)
    → length (answers_in (notes_at (after rules graph packets events) n)) ≤ links_of graph n * length (packets_in (notes_at (after rules graph packets events) n))
answers_after rules graph packets events n =
    few_answers rules graph packets (after rules graph packets events) (IsSound-run rules graph packets events) (from_after rules graph packets events) n
