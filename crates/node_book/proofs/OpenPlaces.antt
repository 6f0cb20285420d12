-- The places of what is open, before and after a record is added.
use Rattle.std.proofs.Common.{◌≡◌, ℕ, zero, suc, ◌+◌, Bool, true, false, ◌&&◌, ◌||◌, not, cond, eqb, List, [], ◌∷◌, ◌++◌, length, filter, Some, refl, sym, ap, subst, ◌∙◌, append_assoc, arith}
use Rattle.std.specs.Prelude.{slice_get}
use Rattle.std.specs.List.{list_any}
use Rattle.std.specs.Str.{bytes_eq}
use Rattle.std.proofs.lemmas.Bool.{and_parts, eqb-true, eq-eqb}
use Rattle.std.proofs.lemmas.List.{append-nil}
use Rattle.std.proofs.lemmas.List.Folds.{list_any-append}
use Rattle.std.proofs.lemmas.Slice.Eq.{bytes_eq-Decides}
use Rattle.node_notes.specs.declared.config.Config.{Config}
use Rattle.net_model.specs.declared.note.Note.{Note}
use Rattle.net_model.specs.declared.note.Note.TheVariants.{Wrote, Acked, Refused, Accept, Done, Enter}
use Rattle.net_model.specs.Notes.{brings, knows, lists, offers, is_answer, is_open}
use Rattle.node_notes.specs.Forms.{keeps_form, may_follow, is_next}
use Rattle.node_notes.specs.Tells.{AreInOrder}
use Rattle.node_notes.specs.Held.{is_bringing}
use Rattle.node_notes.specs.Held.{identifier_in}
use Rattle.node_book.specs.Index.{hands, is_open_note, open_from, open_places, Answers}

-- the note answers this identifier on this edge, and says nothing else of it
abbrev pub AnswersOnly : ℕ → List ℕ → Note → Type 0
AnswersOnly number i n = (j : List ℕ) → (offers number j n ≡ false) × (is_answer number j n ≡ bytes_eq j i)

pub same_bytes : (xs ys : List ℕ) → bytes_eq xs ys ≡ true → xs ≡ ys
same_bytes xs ys h = (bytes_eq-Decides xs ys).0 h

bytes_same : (xs : List ℕ) → bytes_eq xs xs ≡ true
bytes_same xs = (bytes_eq-Decides xs xs).1 refl

-- ---- the list of places

open_same : (old new : List Note) (number place : ℕ) (rest : List Note) → ((k : ℕ) (m : Note) → slice_get rest k ≡ Some m → is_open_note new number m ≡ is_open_note old number m)
    → open_from new number place rest ≡ open_from old number place rest
open_same old new number place [] same = refl
open_same old new number place (m ∷ rest) same =
    let here = same 0 m refl in
    let others = open_same old new number (place + 1) rest (λ k n is. same (suc k) n is) in
    λ i. cond (here i) (place ∷ others i) (others i)

filtered_cond : (keep : ℕ → Bool) (b : Bool) (place : ℕ) (rest : List ℕ) → cond (b && keep place) (place ∷ filter keep rest) (filter keep rest) ≡ filter keep (cond b (place ∷ rest) rest)
filtered_cond keep true place rest = refl
filtered_cond keep false place rest = refl

open_filtered : (old new : List Note) (number : ℕ) (keep : ℕ → Bool) (place : ℕ) (rest : List Note)
    → ((k : ℕ) (m : Note) → slice_get rest k ≡ Some m → is_open_note new number m ≡ (is_open_note old number m && keep (place + k)))
    → open_from new number place rest ≡ filter keep (open_from old number place rest)
open_filtered old new number keep place [] same = refl
open_filtered old new number keep place (m ∷ rest) same =
    let at : place + 0 ≡ place = omega arith in
    let here = same 0 m refl ∙ ap (λ (k : ℕ). is_open_note old number m && keep k) at in
    let others = open_filtered old new number keep (place + 1) rest (λ k n is. let next : place + suc k ≡ (place + 1) + k = omega arith in same (suc k) n is ∙ ap (λ (j : ℕ). is_open_note old number n && keep j) next) in
    (λ i. cond (here i) (place ∷ others i) (others i)) ∙ filtered_cond keep (is_open_note old number m) place (open_from old number (place + 1) rest)

cond_append : (b : Bool) (place : ℕ) (xs ys : List ℕ) → cond b (place ∷ (xs ++ ys)) (xs ++ ys) ≡ cond b (place ∷ xs) xs ++ ys
cond_append true place xs ys = refl
cond_append false place xs ys = refl

open_push : (all : List Note) (number place : ℕ) (notes : List Note) (n : Note)
    → open_from all number place (notes ++ n ∷ []) ≡ open_from all number place notes ++ cond (is_open_note all number n) ((place + length notes) ∷ []) []
open_push all number place [] n = let at : place ≡ place + 0 = omega arith in ap (λ (k : ℕ). cond (is_open_note all number n) (k ∷ []) []) at
open_push all number place (m ∷ notes) n =
    let next : (place + 1) + length notes ≡ place + suc (length notes) = omega arith in
    let others = open_push all number (place + 1) notes n ∙ ap (λ (k : ℕ). open_from all number (place + 1) notes ++ cond (is_open_note all number n) (k ∷ []) []) next in
    (λ i. cond (is_open_note all number m) (place ∷ others i) (others i)) ∙ cond_append (is_open_note all number m) place (open_from all number (place + 1) notes) _

-- ---- one record more

open_parts : (a b c d : Bool) → c ≡ false → ((a || c) && not (b || d)) ≡ ((a && not b) && not d)
open_parts true true c d is = refl
open_parts true false c true is = refl
open_parts true false c false is = refl
open_parts false true c d is = ap (λ (x : Bool). x && false) is
open_parts false false c d is = ap (λ (x : Bool). x && not d) is

or_false : (b : Bool) → (b || false) ≡ b
or_false true = refl
or_false false = refl

and_true : (b : Bool) → (b && true) ≡ b
and_true true = refl
and_true false = refl

-- a record that offers nothing here may close what it answers
is_open_more : (notes : List Note) (n : Note) (number : ℕ) (j : List ℕ) → offers number j n ≡ false → is_open (notes ++ n ∷ []) number j ≡ (is_open notes number j && not (is_answer number j n))
unfolding is_open
is_open_more notes n number j none =
    let offered = list_any-append (offers number j) notes (n ∷ []) in
    let answered = list_any-append (is_answer number j) notes (n ∷ []) in
    (λ i. offered i && not (answered i))
    ∙ ap (λ (x : Bool). (list_any (offers number j) notes || (offers number j n || false)) && not (list_any (is_answer number j) notes || x)) (or_false (is_answer number j n))
    ∙ open_parts (list_any (offers number j) notes) (list_any (is_answer number j) notes) (offers number j n || false) (is_answer number j n) (or_false (offers number j n) ∙ none)

knows_at : (notes : List Note) (k : ℕ) (m : Note) (j : List ℕ) → slice_get notes k ≡ Some m → brings j m ≡ true → knows notes j ≡ true
knows_at [] k m j is says = absurd (cc is)
knows_at (n ∷ notes) zero m j is says =
    let same : n ≡ m = cc in
    ap (λ (b : Bool). b || knows notes j) (ap (brings j) same ∙ says)
knows_at (n ∷ notes) (suc k) m j is says = ap (λ (b : Bool). brings j n || b) (knows_at notes k m j is says) ∙ or_true (brings j n)
  where
    or_true : (b : Bool) → (b || true) ≡ true
    or_true true = refl
    or_true false = refl

-- what hands its identifier on brings it
brings_own : (number : ℕ) (m : Note) → hands number m ≡ true → brings (identifier_in m) m ≡ true
brings_own number (Wrote own packet) is = bytes_same own
brings_own number (Accept own links packet) is = bytes_same own
brings_own number (Enter own packet) is = absurd (cc is)
brings_own number (Acked line own) is = absurd (cc is)
brings_own number (Refused line own) is = absurd (cc is)
brings_own number (Done link own) is = absurd (cc is)

-- a record that says nothing of what is known here leaves what is open
pub open_unmoved : (notes : List Note) (n : Note) (number : ℕ) → ((j : List ℕ) → knows notes j ≡ true → (offers number j n ≡ false) × (is_answer number j n ≡ false))
    → open_places (notes ++ n ∷ []) number ≡ open_places notes number ++ cond (is_open_note (notes ++ n ∷ []) number n) (length notes ∷ []) []
unfolding open_places
open_unmoved notes n number silent =
    let at : 0 + length notes ≡ length notes = omega arith in
    open_push (notes ++ n ∷ []) number 0 notes n
    ∙ ap (λ (l : List ℕ). l ++ cond (is_open_note (notes ++ n ∷ []) number n) ((0 + length notes) ∷ []) []) (open_same notes (notes ++ n ∷ []) number 0 notes same)
    ∙ ap (λ (k : ℕ). open_from notes number 0 notes ++ cond (is_open_note (notes ++ n ∷ []) number n) (k ∷ []) []) at
  where
    by_hand : (m : Note) (b : Bool) → hands number m ≡ b → (k : ℕ) → slice_get notes k ≡ Some m → (b && is_open (notes ++ n ∷ []) number (identifier_in m)) ≡ (b && is_open notes number (identifier_in m))
    by_hand m false is k found = refl
    by_hand m true is k found =
        let j = identifier_in m in
        let quiet = silent j (knows_at notes k m j found (brings_own number m is)) in
        is_open_more notes n number j quiet.0 ∙ ap (λ (b : Bool). is_open notes number j && not b) quiet.1 ∙ and_true (is_open notes number j)

    same : (k : ℕ) (m : Note) → slice_get notes k ≡ Some m → is_open_note (notes ++ n ∷ []) number m ≡ is_open_note notes number m
    same k m found = by_hand m (hands number m) refl k found

-- ---- an identifier is brought once

later_not : (config : Config) (before notes : List Note) (i : List ℕ) → AreInOrder config before notes → knows before i ≡ true → (k : ℕ) (n : Note) → slice_get notes k ≡ Some n → brings i n ≡ false
later_not config before [] i order known k n is = absurd (cc is)
later_not config before (m ∷ notes) i order known zero n is =
    let same : m ≡ n = cc in
    ap (brings i) (sym same) ∙ new m (and_parts (keeps_form config m) (may_follow before m) order.0).1
  where
    by_bytes : (own : List ℕ) (b : Bool) → bytes_eq i own ≡ b → not (knows before own) ≡ true → b ≡ false
    by_bytes own false is free = refl
    by_bytes own true is free =
        let clash = sym free ∙ ap (λ (x : List ℕ). not (knows before x)) (sym (same_bytes i own is)) ∙ ap not known in
        absurd (cc clash)

    new : (m : Note) → may_follow before m ≡ true → brings i m ≡ false
    new (Wrote own packet) free = by_bytes own (bytes_eq i own) refl free
    new (Accept own links packet) free = by_bytes own (bytes_eq i own) refl free
    new (Enter own packet) free = by_bytes own (bytes_eq i own) refl free
    new (Acked line own) free = refl
    new (Refused line own) free = refl
    new (Done link own) free = refl
later_not config before (m ∷ notes) i order known (suc k) n is =
    later_not config (before ++ m ∷ []) notes i order.1 (list_any-append (brings i) before (m ∷ []) ∙ ap (λ (b : Bool). b || knows (m ∷ []) i) known) k n is

knows_last : (before : List Note) (m : Note) (i : List ℕ) → brings i m ≡ true → knows (before ++ m ∷ []) i ≡ true
knows_last before m i says = list_any-append (brings i) before (m ∷ []) ∙ ap (λ (b : Bool). knows before i || (b || false)) says ∙ or_true (knows before i)
  where
    or_true : (b : Bool) → (b || true) ≡ true
    or_true true = refl
    or_true false = refl

pub brought_once : (config : Config) (before notes : List Note) (i : List ℕ) → AreInOrder config before notes → (j k : ℕ) (m n : Note)
    → slice_get notes j ≡ Some m → slice_get notes k ≡ Some n → brings i m ≡ true → brings i n ≡ true → j ≡ k
brought_once config before [] i order j k m n at_j at_k one two = absurd (cc at_j)
brought_once config before (h ∷ notes) i order zero zero m n at_j at_k one two = refl
brought_once config before (h ∷ notes) i order zero (suc k) m n at_j at_k one two =
    let same : h ≡ m = cc in
    let clash = sym two ∙ later_not config (before ++ h ∷ []) notes i order.1 (knows_last before h i (ap (brings i) same ∙ one)) k n at_k in
    absurd (cc clash)
brought_once config before (h ∷ notes) i order (suc j) zero m n at_j at_k one two =
    let same : h ≡ n = cc in
    let clash = sym one ∙ later_not config (before ++ h ∷ []) notes i order.1 (knows_last before h i (ap (brings i) same ∙ two)) j m at_j in
    absurd (cc clash)
brought_once config before (h ∷ notes) i order (suc j) (suc k) m n at_j at_k one two = ap suc (brought_once config (before ++ h ∷ []) notes i order.1 j k m n at_j at_k one two)

-- ---- an answer closes one place

-- the place of the one record that brings an identifier
same_place : (config : Config) (notes : List Note) (i : List ℕ) (p : ℕ) (b : Note) → AreInOrder config [] notes → slice_get notes p ≡ Some b → brings i b ≡ true
    → (number k : ℕ) (m : Note) → slice_get notes k ≡ Some m → hands number m ≡ true → (c : Bool) → bytes_eq (identifier_in m) i ≡ c → c ≡ eqb k p
same_place config notes i p b order at_p says number k m at_k hands_on true is =
    let own = identifier_in m in
    let j : i ≡ own = sym (same_bytes own i is) in
    let one = ap (λ (x : List ℕ). brings x m) j ∙ brings_own number m hands_on in
    let same = brought_once config [] notes i order k p m b at_k at_p one says in
    sym (ap (λ (x : ℕ). eqb x p) same ∙ eq-eqb p p refl)
same_place config notes i p b order at_p says number k m at_k hands_on false is = by (eqb k p) refl
  where
    own_is : (m : Note) → hands number m ≡ true → brings i m ≡ true → i ≡ identifier_in m
    own_is (Wrote own packet) hand one = same_bytes i own one
    own_is (Accept own links packet) hand one = same_bytes i own one
    own_is (Enter own packet) hand one = absurd (cc hand)
    own_is (Acked line own) hand one = absurd (cc hand)
    own_is (Refused line own) hand one = absurd (cc hand)
    own_is (Done link own) hand one = absurd (cc hand)

    by : (d : Bool) → eqb k p ≡ d → false ≡ eqb k p
    by false e = sym e
    by true e =
        let same : k ≡ p = eqb-true k p e in
        let both : Some b ≡ Some m = sym at_p ∙ ap (slice_get notes) (sym same) ∙ at_k in
        let there : b ≡ m = cc in
        let own = own_is m hands_on (ap (brings i) (sym there) ∙ says) in
        let clash = sym is ∙ ap (λ (x : List ℕ). bytes_eq x i) (sym own) ∙ bytes_same i in
        absurd (cc clash)

-- what an answer on this edge leaves open
pub open_answered : (config : Config) (notes : List Note) (n : Note) (number : ℕ) (i : List ℕ) (p : ℕ) (b : Note) → AreInOrder config [] notes → slice_get notes p ≡ Some b → brings i b ≡ true
    → AnswersOnly number i n → hands number n ≡ false → open_places (notes ++ n ∷ []) number ≡ filter (λ k. not (eqb k p)) (open_places notes number)
unfolding open_places
open_answered config notes n number i p b order at_p says answers quiet =
    let shut : is_open_note (notes ++ n ∷ []) number n ≡ false = ap (λ (x : Bool). x && is_open (notes ++ n ∷ []) number (identifier_in n)) quiet in
    open_push (notes ++ n ∷ []) number 0 notes n
    ∙ ap (λ (x : Bool). open_from (notes ++ n ∷ []) number 0 notes ++ cond x ((0 + length notes) ∷ []) []) shut
    ∙ append-nil (open_from (notes ++ n ∷ []) number 0 notes)
    ∙ open_filtered notes (notes ++ n ∷ []) number (λ k. not (eqb k p)) 0 notes same
  where
    by_hand : (m : Note) (h : Bool) → hands number m ≡ h → (k : ℕ) → slice_get notes k ≡ Some m
        → (h && is_open (notes ++ n ∷ []) number (identifier_in m)) ≡ (h && is_open notes number (identifier_in m) && not (eqb (0 + k) p))
    by_hand m false is k found = refl
    by_hand m true is k found =
        let j = identifier_in m in
        let at : 0 + k ≡ k = omega arith in
        let place = same_place config notes i p b order at_p says number k m found is (bytes_eq j i) refl in
        is_open_more notes n number j (answers j).0 ∙ ap (λ (x : Bool). is_open notes number j && not x) ((answers j).1 ∙ place ∙ ap (λ (x : ℕ). eqb x p) (sym at))

    same : (k : ℕ) (m : Note) → slice_get notes k ≡ Some m → is_open_note (notes ++ n ∷ []) number m ≡ (is_open_note notes number m && not (eqb (0 + k) p))
    same k m found = by_hand m (hands number m) refl k found

-- ---- a record that brings an identifier

or_true : (b : Bool) → (b || true) ≡ true
or_true true = refl
or_true false = refl

pub offered_brings : (number : ℕ) (i : List ℕ) (m : Note) → offers number i m ≡ true → brings i m ≡ true
offered_brings number i (Wrote own packet) one = one
offered_brings number i (Accept own links packet) one = (and_parts (bytes_eq i own) (lists links number) one).0
offered_brings number i (Enter own packet) one = absurd (cc one)
offered_brings number i (Acked line own) one = absurd (cc one)
offered_brings number i (Refused line own) one = absurd (cc one)
offered_brings number i (Done link own) one = absurd (cc one)

offered_known : (before : List Note) (number : ℕ) (i : List ℕ) → list_any (offers number i) before ≡ true → knows before i ≡ true
offered_known [] number i is = absurd (cc is)
offered_known (m ∷ before) number i is = by (offers number i m) refl (λ rest. offered_known before number i rest)
  where
    by : (b : Bool) → offers number i m ≡ b → (list_any (offers number i) before ≡ true → knows before i ≡ true) → (brings i m || knows before i) ≡ true
    by true e others = ap (λ (x : Bool). x || knows before i) (offered_brings number i m e)
    by false e others =
        let rest : list_any (offers number i) before ≡ true = sym (ap (λ (x : Bool). x || list_any (offers number i) before) e) ∙ is in
        ap (λ (x : Bool). brings i m || x) (others rest) ∙ or_true (brings i m)

open_known : (before : List Note) (number : ℕ) (i : List ℕ) → is_open before number i ≡ true → knows before i ≡ true
unfolding is_open
open_known before number i is = offered_known before number i (and_parts (list_any (offers number i) before) _ is).0

answer_known : (before : List Note) (m : Note) (number : ℕ) (i : List ℕ) → is_answer number i m ≡ true → may_follow before m ≡ true → knows before i ≡ true
answer_known before (Wrote own packet) number i is follows = absurd (cc is)
answer_known before (Accept own links packet) number i is follows = absurd (cc is)
answer_known before (Enter own packet) number i is follows = absurd (cc is)
answer_known before (Acked line own) number i is follows = ap (knows before) (same_bytes i own (and_parts (eqb line number) (bytes_eq i own) is).1) ∙ open_known before line own follows
answer_known before (Refused line own) number i is follows = ap (knows before) (same_bytes i own (and_parts (eqb line number) (bytes_eq i own) is).1) ∙ open_known before line own follows
answer_known before (Done link own) number i is follows = ap (knows before) (same_bytes i own (and_parts (eqb link number) (bytes_eq i own) is).1) ∙ open_known before link own follows

no_answers : (config : Config) (before notes : List Note) (number : ℕ) (i : List ℕ) → AreInOrder config before notes → knows (before ++ notes) i ≡ false → list_any (is_answer number i) notes ≡ false
no_answers config before [] number i order new = refl
no_answers config before (m ∷ notes) number i order new =
    let rest = no_answers config (before ++ m ∷ []) notes number i order.1 (ap (λ (l : List Note). knows l i) (append_assoc before (m ∷ []) notes) ∙ new) in
    ap (λ (x : Bool). x || list_any (is_answer number i) notes) (by (is_answer number i m) refl) ∙ rest
  where
    by : (b : Bool) → is_answer number i m ≡ b → is_answer number i m ≡ false
    by false e = e
    by true e =
        let known = answer_known before m number i e (and_parts (keeps_form config m) (may_follow before m) order.0).1 in
        let clash = sym new ∙ list_any-append (brings i) before (m ∷ notes) ∙ ap (λ (x : Bool). x || knows (m ∷ notes) i) known in
        absurd (cc clash)

unknown_own : (notes : List Note) (own j : List ℕ) → not (knows notes own) ≡ true → knows notes j ≡ true → (b : Bool) → bytes_eq j own ≡ b → b ≡ false
unknown_own notes own j new known false is = refl
unknown_own notes own j new known true is =
    let clash = sym new ∙ ap (λ (x : List ℕ). not (knows notes x)) (sym (same_bytes j own is)) ∙ ap not known in
    absurd (cc clash)

silent : (notes : List Note) (n : Note) (number : ℕ) → may_follow notes n ≡ true → is_bringing n ≡ true → (j : List ℕ) → knows notes j ≡ true → (offers number j n ≡ false) × (is_answer number j n ≡ false)
silent notes (Wrote own packet) number new says j known = (unknown_own notes own j new known (bytes_eq j own) refl, refl)
silent notes (Accept own links packet) number new says j known = (ap (λ (x : Bool). x && lists links number) (unknown_own notes own j new known (bytes_eq j own) refl), refl)
silent notes (Enter own packet) number new says j known = (refl, refl)
silent notes (Acked line own) number new says j known = absurd (cc says)
silent notes (Refused line own) number new says j known = absurd (cc says)
silent notes (Done link own) number new says j known = absurd (cc says)

not_true : (b : Bool) → not b ≡ true → b ≡ false
not_true true is = absurd (cc is)
not_true false is = refl

fresh_open : (notes : List Note) (n : Note) (number : ℕ) (own : List ℕ) → list_any (is_answer number own) notes ≡ false → offers number own n ≡ true → is_answer number own n ≡ false → is_open (notes ++ n ∷ []) number own ≡ true
unfolding is_open
fresh_open notes n number own none offered quiet =
    let offers_is : list_any (offers number own) (notes ++ n ∷ []) ≡ true = list_any-append (offers number own) notes (n ∷ []) ∙ ap (λ (x : Bool). list_any (offers number own) notes || (x || false)) offered ∙ or_true (list_any (offers number own) notes) in
    let answers_is : list_any (is_answer number own) (notes ++ n ∷ []) ≡ false = list_any-append (is_answer number own) notes (n ∷ []) ∙ (λ i. none i || (quiet i || false)) in
    λ i. offers_is i && not (answers_is i)

fresh : (config : Config) (notes : List Note) (n : Note) (number : ℕ) → AreInOrder config [] notes → may_follow notes n ≡ true → is_bringing n ≡ true → is_open_note (notes ++ n ∷ []) number n ≡ hands number n
fresh config notes (Wrote own packet) number order new says =
    fresh_open notes (Wrote own packet) number own (no_answers config [] notes number own order (not_true (knows notes own) new)) (bytes_same own) refl
fresh config notes (Accept own links packet) number order new says = by (lists links number) refl
  where
    by : (b : Bool) → lists links number ≡ b → (b && is_open (notes ++ Accept own links packet ∷ []) number own) ≡ b
    by false e = refl
    by true e =
        fresh_open notes (Accept own links packet) number own (no_answers config [] notes number own order (not_true (knows notes own) new)) ((λ i. bytes_same own i && e i)) refl
fresh config notes (Enter own packet) number order new says = refl
fresh config notes (Acked line own) number order new says = absurd (cc says)
fresh config notes (Refused line own) number order new says = absurd (cc says)
fresh config notes (Done link own) number order new says = absurd (cc says)

-- a record that brings an identifier opens its place on each edge that it is handed to
pub open_brought : (config : Config) (notes : List Note) (n : Note) (number : ℕ) → AreInOrder config [] notes → is_next config notes n ≡ true → is_bringing n ≡ true
    → open_places (notes ++ n ∷ []) number ≡ open_places notes number ++ cond (hands number n) (length notes ∷ []) []
open_brought config notes n number order next says =
    let new = (and_parts (keeps_form config n) (may_follow notes n) next).1 in
    open_unmoved notes n number (silent notes n number new says) ∙ ap (λ (x : Bool). open_places notes number ++ cond x (length notes ∷ []) []) (fresh config notes n number order new says)

-- ---- an answer

answer_of : (line number : ℕ) (own i j : List ℕ) → line ≡ number → own ≡ i → (eqb line number && bytes_eq j own) ≡ bytes_eq j i
answer_of line number own i j same one = ap (λ (b : Bool). b && bytes_eq j own) (eq-eqb line number same) ∙ ap (bytes_eq j) one

answers_only : (number : ℕ) (i : List ℕ) (n : Note) → Answers number i n → AnswersOnly number i n
answers_only number i (Wrote own packet) is j = absurd is
answers_only number i (Accept own links packet) is j = absurd is
answers_only number i (Enter own packet) is j = absurd is
answers_only number i (Acked line own) is j = (refl, answer_of line number own i j is.0 is.1)
answers_only number i (Refused line own) is j = (refl, answer_of line number own i j is.0 is.1)
answers_only number i (Done link own) is j = (refl, answer_of link number own i j is.0 is.1)

hands_nothing : (number : ℕ) (i : List ℕ) (n : Note) → Answers number i n → (k : ℕ) → hands k n ≡ false
hands_nothing number i (Wrote own packet) is k = absurd is
hands_nothing number i (Accept own links packet) is k = absurd is
hands_nothing number i (Enter own packet) is k = refl
hands_nothing number i (Acked line own) is k = refl
hands_nothing number i (Refused line own) is k = refl
hands_nothing number i (Done link own) is k = refl

pub brings_nothing : (number : ℕ) (i : List ℕ) (n : Note) → Answers number i n → is_bringing n ≡ false
brings_nothing number i (Wrote own packet) is = absurd is
brings_nothing number i (Accept own links packet) is = absurd is
brings_nothing number i (Enter own packet) is = absurd is
brings_nothing number i (Acked line own) is = refl
brings_nothing number i (Refused line own) is = refl
brings_nothing number i (Done link own) is = refl

elsewhere_of : (line number k : ℕ) (own j : List ℕ) → line ≡ number → eqb k number ≡ false → (eqb line k && bytes_eq j own) ≡ false
elsewhere_of line number k own j same apart = by (eqb line k) refl
  where
    by : (b : Bool) → eqb line k ≡ b → (eqb line k && bytes_eq j own) ≡ false
    by false e = ap (λ (b : Bool). b && bytes_eq j own) e
    by true e =
        let back : k ≡ number = sym (eqb-true line k e) ∙ same in
        let clash = sym apart ∙ eq-eqb k number back in
        absurd (cc clash)

silent_elsewhere : (number : ℕ) (i : List ℕ) (n : Note) → Answers number i n → (k : ℕ) → eqb k number ≡ false → (j : List ℕ) → (offers k j n ≡ false) × (is_answer k j n ≡ false)
silent_elsewhere number i (Wrote own packet) is k apart j = absurd is
silent_elsewhere number i (Accept own links packet) is k apart j = absurd is
silent_elsewhere number i (Enter own packet) is k apart j = absurd is
silent_elsewhere number i (Acked line own) is k apart j = (refl, elsewhere_of line number k own j is.0 apart)
silent_elsewhere number i (Refused line own) is k apart j = (refl, elsewhere_of line number k own j is.0 apart)
silent_elsewhere number i (Done link own) is k apart j = (refl, elsewhere_of link number k own j is.0 apart)

-- an answer closes the place of what it answers on its edge, and nothing else
pub open_closed : (config : Config) (notes : List Note) (n : Note) (number : ℕ) (i : List ℕ) (p : ℕ) (b : Note) → AreInOrder config [] notes → slice_get notes p ≡ Some b → brings i b ≡ true → Answers number i n
    → (k : ℕ) → cond (eqb k number) (filter (λ at. not (eqb at p)) (open_places notes k)) (open_places notes k) ≡ open_places (notes ++ n ∷ []) k
open_closed config notes n number i p b order at_p says answers k = by (eqb k number) refl
  where
    by : (c : Bool) → eqb k number ≡ c → cond c (filter (λ at. not (eqb at p)) (open_places notes k)) (open_places notes k) ≡ open_places (notes ++ n ∷ []) k
    by true e =
        let same : number ≡ k = sym (eqb-true k number e) in
        let here = subst (λ (x : ℕ). Answers x i n) same answers in
        sym (open_answered config notes n k i p b order at_p says (answers_only k i n here) (hands_nothing number i n answers k))
    by false e =
        let law = open_unmoved notes n k (λ j known. silent_elsewhere number i n answers k e j) in
        let shut : is_open_note (notes ++ n ∷ []) k n ≡ false = ap (λ (x : Bool). x && is_open (notes ++ n ∷ []) k (identifier_in n)) (hands_nothing number i n answers k) in
        sym (law ∙ ap (λ (x : Bool). open_places notes k ++ cond x (length notes ∷ []) []) shut ∙ append-nil (open_places notes k))

-- what is answered is known
answered_known : (notes : List Note) (n : Note) (number : ℕ) (i : List ℕ) → may_follow notes n ≡ true → Answers number i n → knows notes i ≡ true
answered_known notes (Wrote own packet) number i follows is = absurd is
answered_known notes (Accept own links packet) number i follows is = absurd is
answered_known notes (Enter own packet) number i follows is = absurd is
answered_known notes (Acked line own) number i follows is = ap (knows notes) (sym is.1) ∙ open_known notes line own follows
answered_known notes (Refused line own) number i follows is = ap (knows notes) (sym is.1) ∙ open_known notes line own follows
answered_known notes (Done link own) number i follows is = ap (knows notes) (sym is.1) ∙ open_known notes link own follows

pub answer_is_known : (config : Config) (notes : List Note) (n : Note) (number : ℕ) (i : List ℕ) → is_next config notes n ≡ true → Answers number i n → knows notes i ≡ true
answer_is_known config notes n number i next is = answered_known notes n number i (and_parts (keeps_form config n) (may_follow notes n) next).1 is

pub not_open_unknown : (notes : List Note) (number : ℕ) (i : List ℕ) → knows notes i ≡ false → is_open notes number i ≡ false
not_open_unknown notes number i none = by (is_open notes number i) refl
  where
    by : (b : Bool) → is_open notes number i ≡ b → is_open notes number i ≡ false
    by false e = e
    by true e =
        let clash = sym none ∙ open_known notes number i e in
        absurd (cc clash)
