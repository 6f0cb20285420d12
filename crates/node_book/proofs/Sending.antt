-- What is sent over an edge, by the places of what is open on it.
use Rattle.std.proofs.Common.{◌≡◌, ℕ, zero, suc, ◌+◌, ◌<◌, ◌≤◌, Bool, true, false, ◌&&◌, ◌||◌, cond, eqb, List, [], ◌∷◌, ◌++◌, length, Option, Some, None, is_some, refl, sym, ap, ◌∙◌, arith}
use Rattle.std.specs.Prelude.{slice_get, nat_lt, nat_le}
use Rattle.std.specs.List.{find, list_any}
use Rattle.std.specs.Str.{bytes_eq}
use Rattle.std.proofs.lemmas.Bool.{and_parts, ltb-true, ltb-false, le-leb, lt-leb, eqb-true, eq-eqb}
use Rattle.std.proofs.lemmas.List.Recursion.{is_count_by}
use Rattle.net_model.specs.declared.note.Note.{Note}
use Rattle.net_model.specs.declared.note.Note.TheVariants.{Wrote, Acked, Refused, Accept, Done, Enter}
use Rattle.net_model.specs.Notes.{Offer, Placed, brings, lists, offers, is_open, offer, to_send, or_later, first_from}
use Rattle.voe_values.specs.declared.kind.NodeKind.TheVariants.{Author, Broker, Subscriber}
use Rattle.node_notes.specs.declared.config.Config.{Config}
use Rattle.node_notes.specs.Forms.{are_rising, is_author, is_broker, is_identifier, is_packet, keeps_form, may_follow}
use Rattle.node_notes.specs.Held.{identifier_in, packet_in}
use Rattle.node_notes.specs.Open.{count_open, place_of}
use Rattle.node_notes.specs.Tells.{AreInOrder}
use Rattle.node_book.specs.Index.{hands, is_open_note, open_from, open_places, IsRisingFrom}
use Rattle.node_book.proofs.NextOpen.{open_rising}
use Rattle.node_book.proofs.OpenPlaces.{brought_once, offered_brings, same_bytes}

-- what a note sends, by whether it is open
sends : (all : List Note) (number : ℕ) (n : Note) → to_send all number n ≡ cond (is_open_note all number n) (Some (offer (identifier_in n) (packet_in n))) None
sends all number (Wrote own packet) = refl
sends all number (Accept own links packet) = refl
sends all number (Enter own packet) = refl
sends all number (Acked line own) = refl
sends all number (Refused line own) = refl
sends all number (Done link own) = refl

-- ---- the first place at or past another

skipped : (c : Bool) (place : ℕ) (x : Offer) (later : Option Placed) → or_later place (cond c None (cond false (Some x) None)) later ≡ later
skipped true place x later = refl
skipped false place x later = refl

step : (after place : ℕ) (b : Bool) (x : Offer) (rest : List ℕ) (later : Option Placed) → find (λ k. nat_le after k) rest ≡ place_of later
    → find (λ k. nat_le after k) (cond b (place ∷ rest) rest) ≡ place_of (or_later place (cond (nat_lt place after) None (cond b (Some x) None)) later)
step after place false x rest later same = same ∙ sym (ap place_of (skipped (nat_lt place after) place x later))
step after place true x rest later same = by (nat_lt place after) refl
  where
    by : (c : Bool) → nat_lt place after ≡ c → cond (nat_le after place) (Some place) (find (λ k. nat_le after k) rest) ≡ place_of (or_later place (cond (nat_lt place after) None (Some x)) later)
    by true is =
        let low = ltb-true place after is in
        ap (λ (b : Bool). cond b (Some place) (find (λ k. nat_le after k) rest)) (lt-leb after place low) ∙ same ∙ sym (ap (λ (b : Bool). place_of (or_later place (cond b None (Some x)) later)) is)
    by false is =
        let high = ltb-false place after is in
        ap (λ (b : Bool). cond b (Some place) (find (λ k. nat_le after k) rest)) (le-leb after place high) ∙ sym (ap (λ (b : Bool). place_of (or_later place (cond b None (Some x)) later)) is)

next_from : (all : List Note) (number after place : ℕ) (rest : List Note) → find (λ k. nat_le after k) (open_from all number place rest) ≡ place_of (first_from (to_send all number) after place rest)
next_from all number after place [] = refl
next_from all number after place (n ∷ rest) =
    step after place (is_open_note all number n) (offer (identifier_in n) (packet_in n)) (open_from all number (place + 1) rest) (first_from (to_send all number) after (place + 1) rest) (next_from all number after (place + 1) rest)
    ∙ ap (λ (o : Option Offer). place_of (or_later place (cond (nat_lt place after) None o) (first_from (to_send all number) after (place + 1) rest))) (sym (sends all number n))

pub next_is : (notes : List Note) (number after : ℕ) → find (λ k. nat_le after k) (open_places notes number) ≡ place_of (first_from (to_send notes number) after 0 notes)
unfolding open_places
next_is notes number after = next_from notes number after 0 notes

-- ---- how many there are

abbrev tally : List Note → ℕ → List Note → ℕ
tally all number [] = 0
tally all number (n ∷ rest) = cond (is_some (to_send all number n)) (1 + tally all number rest) (tally all number rest)

some_cond : (b : Bool) (x : Offer) → is_some (cond b (Some x) None) ≡ b
some_cond true x = refl
some_cond false x = refl

longer : (b : Bool) (place n : ℕ) (rest : List ℕ) → length rest ≡ n → length (cond b (place ∷ rest) rest) ≡ cond b (1 + n) n
longer true place n rest is = omega (arith, is)
longer false place n rest is = is

count_from : (all : List Note) (number place : ℕ) (rest : List Note) → length (open_from all number place rest) ≡ tally all number rest
count_from all number place [] = refl
count_from all number place (n ∷ rest) =
    longer (is_open_note all number n) place (tally all number rest) (open_from all number (place + 1) rest) (count_from all number (place + 1) rest)
    ∙ ap (λ (b : Bool). cond b (1 + tally all number rest) (tally all number rest)) (sym (ap (λ (o : Option Offer). is_some o) (sends all number n) ∙ some_cond (is_open_note all number n) (offer (identifier_in n) (packet_in n))))

pub count_is : (notes : List Note) (number : ℕ) → length (open_places notes number) ≡ count_open notes number
unfolding open_places count_open
count_is notes number = count_from notes number 0 notes ∙ is_count_by (tally notes number) (λ note. is_some (to_send notes number note)) refl (λ x xs. refl) notes

-- ---- an edge that a broker has not

lists_none : (from below number : ℕ) (links : List ℕ) → below ≤ number → are_rising from below links ≡ true → lists links number ≡ false
unfolding are_rising lists
lists_none from below number [] le is = refl
lists_none from below number (x ∷ links) le is =
    let a = and_parts (nat_le from x && nat_lt x below) (are_rising (x + 1) below links) is in
    let b = and_parts (nat_le from x) (nat_lt x below) a.0 in
    let high = ltb-true x below b.1 in
    ap (λ (c : Bool). c || lists links number) (apart x number (λ same. omega (arith, high, le, same))) ∙ lists_none (x + 1) below number links le a.1
  where
    apart : (x y : ℕ) → (x ≡ y → ⊥) → eqb x y ≡ false
    apart x y differs = by (eqb x y) refl
      where
        by : (c : Bool) → eqb x y ≡ c → eqb x y ≡ false
        by false e = e
        by true e = absurd (differs (eqb-true x y e))

hands_none : (config : Config) (number : ℕ) (n : Note) → is_broker config.kind ≡ true → length config.links ≤ number → keeps_form config n ≡ true → hands number n ≡ false
unfolding keeps_form
hands_none config number (Wrote own packet) broker le keeps =
    let a = and_parts (is_author config.kind && is_identifier own) (is_packet packet) keeps in
    let b = and_parts (is_author config.kind) (is_identifier own) a.0 in
    let clash = both_kinds config.kind b.0 broker in
    absurd clash
  where
    both_kinds : (kind : _) → is_author kind ≡ true → is_broker kind ≡ true → ⊥
    both_kinds Author author broker = cc
    both_kinds Broker author broker = cc
    both_kinds Subscriber author broker = cc
hands_none config number (Accept own links packet) broker le keeps =
    let a = and_parts (is_broker config.kind && is_identifier own && is_packet packet) (are_rising 0 (length config.links) links) keeps in
    lists_none 0 (length config.links) number links le a.1
hands_none config number (Enter own packet) broker le keeps = refl
hands_none config number (Acked line own) broker le keeps = refl
hands_none config number (Refused line own) broker le keeps = refl
hands_none config number (Done link own) broker le keeps = refl

quiet_from : (config : Config) (all : List Note) (number place : ℕ) (before rest : List Note) → is_broker config.kind ≡ true → length config.links ≤ number → AreInOrder config before rest → open_from all number place rest ≡ []
quiet_from config all number place before [] broker le order = refl
quiet_from config all number place before (n ∷ rest) broker le order =
    let keeps = (and_parts (keeps_form config n) (may_follow before n) order.0).0 in
    let shut : is_open_note all number n ≡ false = ap (λ (b : Bool). b && is_open all number (identifier_in n)) (hands_none config number n broker le keeps) in
    let others = quiet_from config all number (place + 1) (before ++ n ∷ []) rest broker le order.1 in
    ap (λ (b : Bool). cond b (place ∷ open_from all number (place + 1) rest) (open_from all number (place + 1) rest)) shut ∙ others

pub quiet_edge : (config : Config) (notes : List Note) (number : ℕ) → is_broker config.kind ≡ true → length config.links ≤ number → AreInOrder config [] notes → open_places notes number ≡ []
unfolding open_places
quiet_edge config notes number broker le order = quiet_from config notes number 0 [] notes broker le order

-- ---- whether one is open, by its place

high_step : (p from y x : ℕ) (ys : List ℕ) (b : Bool) → nat_le p y ≡ b → from ≤ y → (find (λ k. nat_le p k) ys ≡ Some x → y + 1 ≤ x) → find (λ k. nat_le p k) (y ∷ ys) ≡ Some x → from ≤ x
high_step p from y x ys true e low later is =
    let found = sym (ap (λ (b : Bool). cond b (Some y) (find (λ k. nat_le p k) ys)) e) ∙ is in
    let same : y ≡ x = cc in
    omega (arith, low, same)
high_step p from y x ys false e low later is =
    let found = sym (ap (λ (b : Bool). cond b (Some y) (find (λ k. nat_le p k) ys)) e) ∙ is in
    let high = later found in
    omega (arith, low, high)

find_high : (p from : ℕ) (xs : List ℕ) (x : ℕ) → IsRisingFrom from xs → find (λ k. nat_le p k) xs ≡ Some x → from ≤ x
find_high p from [] x rising is = absurd (cc is)
find_high p from (y ∷ ys) x rising is = high_step p from y x ys (nat_le p y) refl rising.0 (find_high p (y + 1) ys x rising.1) is

passed_by : (p place : ℕ) (b : Bool) (rest : List ℕ) → place < p → find (λ k. nat_le p k) (cond b (place ∷ rest) rest) ≡ find (λ k. nat_le p k) rest
passed_by p place true rest lt = ap (λ (b : Bool). cond b (Some place) (find (λ k. nat_le p k) rest)) (lt-leb p place lt)
passed_by p place false rest lt = refl

open_at : (all : List Note) (number place k p : ℕ) (rest : List Note) (b : Note) → p ≡ place + k → slice_get rest k ≡ Some b → is_open_note all number b ≡ true → find (λ x. nat_le p x) (open_from all number place rest) ≡ Some p
open_at all number place k p [] b at is one = absurd (cc is)
open_at all number place zero p (n ∷ rest) b at is one =
    let same : n ≡ b = cc in
    let here : place ≡ p = omega (arith, at) in
    let le : p ≤ place = omega (arith, at) in
    ap (λ (c : Bool). find (λ x. nat_le p x) (cond c (place ∷ open_from all number (place + 1) rest) (open_from all number (place + 1) rest))) (ap (is_open_note all number) same ∙ one)
    ∙ ap (λ (c : Bool). cond c (Some place) (find (λ x. nat_le p x) (open_from all number (place + 1) rest))) (le-leb p place le) ∙ ap (λ (x : ℕ). Some x) here
open_at all number place (suc k) p (n ∷ rest) b at is one =
    passed_by p place (is_open_note all number n) (open_from all number (place + 1) rest) (omega (arith, at)) ∙ open_at all number (place + 1) k p rest b (omega (arith, at)) is one

shut_at : (all : List Note) (number place k p : ℕ) (rest : List Note) (b : Note) → p ≡ place + k → slice_get rest k ≡ Some b → is_open_note all number b ≡ false → find (λ x. nat_le p x) (open_from all number place rest) ≡ Some p → ⊥
shut_at all number place k p [] b at is none found = cc
shut_at all number place zero p (n ∷ rest) b at is none found =
    let same : n ≡ b = cc in
    let skip = ap (λ (c : Bool). find (λ x. nat_le p x) (cond c (place ∷ open_from all number (place + 1) rest) (open_from all number (place + 1) rest))) (ap (is_open_note all number) same ∙ none) in
    let high = find_high p (place + 1) (open_from all number (place + 1) rest) p (open_rising all number (place + 1) rest) (sym skip ∙ found) in
    omega (arith, at, high)
shut_at all number place (suc k) p (n ∷ rest) b at is none found =
    shut_at all number (place + 1) k p rest b (omega (arith, at)) is none (sym (passed_by p place (is_open_note all number n) (open_from all number (place + 1) rest) (omega (arith, at))) ∙ found)

abbrev IsAt : (Note → Bool) → List Note → Type 0
IsAt f notes = (k : ℕ) × (m : Note) × (slice_get notes k ≡ Some m) × (f m ≡ true)

any_step : (f : Note → Bool) (n : Note) (notes : List Note) (b : Bool) → f n ≡ b → (list_any f notes ≡ true → IsAt f notes) → list_any f (n ∷ notes) ≡ true → IsAt f (n ∷ notes)
any_step f n notes true e later is = (0, n, refl, e)
any_step f n notes false e later is =
    let there = later (sym (ap (λ (b : Bool). b || list_any f notes) e) ∙ is) in
    (suc there.0, there.1, there.2, there.3)

any_at : (f : Note → Bool) (notes : List Note) → list_any f notes ≡ true → IsAt f notes
any_at f [] is = absurd (cc is)
any_at f (n ∷ notes) is = any_step f n notes (f n) refl (any_at f notes) is

offers_hands : (number : ℕ) (i : List ℕ) (m : Note) → offers number i m ≡ true → (hands number m ≡ true) × (i ≡ identifier_in m)
offers_hands number i (Wrote own packet) is = (refl, same_bytes i own is)
offers_hands number i (Accept own links packet) is =
    let a = and_parts (bytes_eq i own) (lists links number) is in
    (a.1, same_bytes i own a.0)
offers_hands number i (Enter own packet) is = absurd (cc is)
offers_hands number i (Acked line own) is = absurd (cc is)
offers_hands number i (Refused line own) is = absurd (cc is)
offers_hands number i (Done link own) is = absurd (cc is)

brings_named : (i : List ℕ) (m : Note) → brings i m ≡ true → i ≡ identifier_in m
brings_named i (Wrote own packet) is = same_bytes i own is
brings_named i (Accept own links packet) is = same_bytes i own is
brings_named i (Enter own packet) is = same_bytes i own is
brings_named i (Acked line own) is = absurd (cc is)
brings_named i (Refused line own) is = absurd (cc is)
brings_named i (Done link own) is = absurd (cc is)

handed_over : (config : Config) (notes : List Note) (number : ℕ) (i : List ℕ) (p : ℕ) (b : Note) → AreInOrder config [] notes → slice_get notes p ≡ Some b → brings i b ≡ true → is_open notes number i ≡ true → hands number b ≡ true
unfolding is_open
handed_over config notes number i p b order at_p says one =
    let offered = (and_parts (list_any (offers number i) notes) _ one).0 in
    let found = any_at (offers number i) notes offered in
    let place = brought_once config [] notes i order found.0 p found.1 b found.2 at_p (offered_brings number i found.1 found.3) says in
    let both : Some found.1 ≡ Some b = sym found.2 ∙ ap (slice_get notes) place ∙ at_p in
    let same : found.1 ≡ b = cc in
    ap (hands number) (sym same) ∙ (offers_hands number i found.1 found.3).0

-- an identifier is open where the note that brings it is
open_by_note : (config : Config) (notes : List Note) (number : ℕ) (i : List ℕ) (p : ℕ) (b : Note) → AreInOrder config [] notes → slice_get notes p ≡ Some b → brings i b ≡ true → is_open_note notes number b ≡ is_open notes number i
open_by_note config notes number i p b order at_p says = by (is_open notes number i) refl
  where
    named : i ≡ identifier_in b
    named = brings_named i b says

    neither : (x y : Bool) → y ≡ false → (x && y) ≡ false
    neither true y is = is
    neither false y is = refl

    by : (c : Bool) → is_open notes number i ≡ c → (hands number b && is_open notes number (identifier_in b)) ≡ is_open notes number i
    by true e = ap (λ (x : Bool). x && is_open notes number (identifier_in b)) (handed_over config notes number i p b order at_p says e) ∙ ap (is_open notes number) (sym named)
    by false e = neither (hands number b) (is_open notes number (identifier_in b)) (ap (is_open notes number) (sym named) ∙ e) ∙ sym e

pub open_found : (config : Config) (notes : List Note) (number : ℕ) (i : List ℕ) (p : ℕ) (b : Note) → AreInOrder config [] notes → slice_get notes p ≡ Some b → brings i b ≡ true
    → find (λ x. nat_le p x) (open_places notes number) ≡ Some p → is_open notes number i ≡ true
unfolding open_places
open_found config notes number i p b order at_p says found = by (is_open_note notes number b) refl
  where
    by : (c : Bool) → is_open_note notes number b ≡ c → is_open notes number i ≡ true
    by true e = sym (open_by_note config notes number i p b order at_p says) ∙ e
    by false e = absurd (shut_at notes number 0 p p notes b (omega arith) at_p e found)

pub open_missed : (config : Config) (notes : List Note) (number : ℕ) (i : List ℕ) (p : ℕ) (b : Note) → AreInOrder config [] notes → slice_get notes p ≡ Some b → brings i b ≡ true
    → (find (λ x. nat_le p x) (open_places notes number) ≡ Some p → ⊥) → is_open notes number i ≡ false
unfolding open_places
open_missed config notes number i p b order at_p says missed = by (is_open_note notes number b) refl
  where
    by : (c : Bool) → is_open_note notes number b ≡ c → is_open notes number i ≡ false
    by true e = absurd (missed (open_at notes number 0 p p notes b (omega arith) at_p e))
    by false e = sym (open_by_note config notes number i p b order at_p says) ∙ e

pub open_decided : (config : Config) (notes : List Note) (number : ℕ) (i : List ℕ) (p : ℕ) (b : Note) (found : ℕ) → AreInOrder config [] notes → slice_get notes p ≡ Some b → brings i b ≡ true
    → find (λ x. nat_le p x) (open_places notes number) ≡ Some found → eqb found p ≡ is_open notes number i
open_decided config notes number i p b found order at_p says is = by (eqb found p) refl
  where
    by : (c : Bool) → eqb found p ≡ c → eqb found p ≡ is_open notes number i
    by true e =
        let same : found ≡ p = eqb-true found p e in
        e ∙ sym (open_found config notes number i p b order at_p says (is ∙ ap (λ (x : ℕ). Some x) same))
    by false e = e ∙ sym (open_missed config notes number i p b order at_p says (λ here.
        let both : Some found ≡ Some p = sym is ∙ here in
        let same : found ≡ p = cc in
        let clash = sym e ∙ eq-eqb found p same in
        cc))

pub open_nowhere : (config : Config) (notes : List Note) (number : ℕ) (i : List ℕ) (p : ℕ) (b : Note) → AreInOrder config [] notes → slice_get notes p ≡ Some b → brings i b ≡ true
    → find (λ x. nat_le p x) (open_places notes number) ≡ None → is_open notes number i ≡ false
open_nowhere config notes number i p b order at_p says is = open_missed config notes number i p b order at_p says (λ here. let both : None ≡ Some p = sym is ∙ here in cc)
