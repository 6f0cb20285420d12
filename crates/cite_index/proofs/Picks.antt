-- The names that have a mark, and their order.
use Rattle.std.proofs.Common.{◌≡◌, ◌∙◌, ap, sym, refl, subst, inl, inr, ◌⊎◌, ℕ, zero, suc, ◌+◌, ◌<◌, ◌≤◌, Bool, true, false, cond, List, [], ◌∷◌, ◌++◌, length, get_or, take, drop, Some, None, Contains, All, count_by, arith}
use Rattle.std.specs.List.{slice_get, filter, list_any}
use Rattle.std.specs.Str.{bytes_eq}
use Rattle.std.specs.Ordering.{nat_cmp, is_lt, is_eq, ordering_reverse}
use Rattle.std.specs.Cmp.{IsTotalOrder}
use Rattle.std.specs.Cmp.Lexicographic.{slice_cmp}
use Rattle.std.specs.List.Sorted.{IsPermutation, IsSorted}
use Rattle.std.specs.declared.cmp.Ordering.{Ordering}
use Rattle.std.specs.declared.cmp.Ordering.TheVariants.{Less, Equal, Greater}
use Rattle.std.proofs.lemmas.Cmp.{nat_list_cmp_total}
use Rattle.std.proofs.lemmas.Map.Text.{is_eq-slice_cmp}
use Rattle.std.proofs.lemmas.List.Recursion.{is_count_by}
use Rattle.std.proofs.lemmas.List.{take_more}
use Rattle.std.proofs.lemmas.List.MinMax.{ranks_by}
use Rattle.std.proofs.lemmas.List.Sorted.{sorted_far, sum_by-IsPermutation}
use Rattle.std.proofs.lemmas.Option.{slice_get_within, slice_get-get_or, same_Some}
use Rattle.cite_index.specs.Names.{AreDistinct, is_in}
use Rattle.cite_index.specs.Threads.{Ascends, picked}
use Rattle.cite_index.proofs.Naming.{at_of_in, both_truths, bytes_same, bytes_self, in_of_at, none_is_some, or_right, same_bytes, true_or_false}

-- ---- what is picked

pub picked_append : (xs ys : List (List ℕ)) (ms ns : List Bool) → length ms ≡ length xs → picked (xs ++ ys) (ms ++ ns) ≡ picked xs ms ++ picked ys ns
picked_append [] ys [] ns e = refl
picked_append [] ys (m ∷ ms) ns e = absurd (omega arith)
picked_append (x ∷ xs) ys [] ns e = absurd (omega arith)
picked_append (x ∷ xs) ys (true ∷ ms) ns e = ap (λ (l : List (List ℕ)). x ∷ l) (picked_append xs ys ms ns (omega arith))
picked_append (x ∷ xs) ys (false ∷ ms) ns e = picked_append xs ys ms ns (omega arith)

one_picked : (x : List ℕ) (m : Bool) → picked (x ∷ []) (m ∷ []) ≡ cond m (x ∷ []) []
one_picked x m = refl

same_take : (n : ℕ) (ms : List Bool) (xs : List (List ℕ)) → length ms ≡ length xs → length (take n ms) ≡ length (take n xs)
same_take zero ms xs e = refl
same_take (suc n) [] [] e = refl
same_take (suc n) [] (x ∷ xs) e = absurd (omega arith)
same_take (suc n) (m ∷ ms) [] e = absurd (omega arith)
same_take (suc n) (m ∷ ms) (x ∷ xs) e = ap suc (same_take n ms xs (omega arith))

pub picked_more : (xs : List (List ℕ)) (ms : List Bool) (at : ℕ) (d : List ℕ) → length ms ≡ length xs → at < length xs → picked (take (at + 1) xs) (take (at + 1) ms) ≡ picked (take at xs) (take at ms) ++ cond (get_or ms at false) (get_or xs at d ∷ []) []
picked_more xs ms at d e h =
    let one : take (at + 1) xs ≡ take at xs ++ get_or xs at d ∷ [] = take_more xs at d h in
    let h' : at < length ms = omega arith in
    let two : take (at + 1) ms ≡ take at ms ++ get_or ms at false ∷ [] = take_more ms at false h' in
    let same : length (take at ms) ≡ length (take at xs) = same_take at ms xs e in
    rw (one, two) (picked_append (take at xs) (get_or xs at d ∷ []) (take at ms) (get_or ms at false ∷ []) same)

pub picked_parts : (n : ℕ) (xs : List (List ℕ)) (ms : List Bool) → length ms ≡ length xs → picked (take n xs) (take n ms) ++ picked (drop n xs) (drop n ms) ≡ picked xs ms
picked_parts zero xs ms e = refl
picked_parts (suc n) [] [] e = refl
picked_parts (suc n) [] (m ∷ ms) e = absurd (omega arith)
picked_parts (suc n) (x ∷ xs) [] e = absurd (omega arith)
picked_parts (suc n) (x ∷ xs) (true ∷ ms) e = ap (λ (l : List (List ℕ)). x ∷ l) (picked_parts n xs ms (omega arith))
picked_parts (suc n) (x ∷ xs) (false ∷ ms) e = picked_parts n xs ms (omega arith)

pub pick : (xs : List (List ℕ)) (ms : List Bool) (k : ℕ) (x : List ℕ) → slice_get xs k ≡ Some x → get_or ms k false ≡ true → is_in (picked xs ms) x ≡ true
pick [] ms k x at on = absurd (none_is_some x at)
pick (y ∷ ys) [] k x at on = let n : false ≡ true = on in absurd (cc n)
pick (y ∷ ys) (true ∷ ms) zero x at on = in_of_at (y ∷ picked ys ms) 0 x at
pick (y ∷ ys) (false ∷ ms) zero x at on = let n : false ≡ true = on in absurd (cc n)
pick (y ∷ ys) (true ∷ ms) (suc k) x at on = or_right (bytes_eq y x) (is_in (picked ys ms) x) (pick ys ms k x at on)
pick (y ∷ ys) (false ∷ ms) (suc k) x at on = pick ys ms k x at on

pub pick_of : (xs : List (List ℕ)) (ms : List Bool) (j : ℕ) (x : List ℕ) → slice_get (picked xs ms) j ≡ Some x → (k : ℕ) × (slice_get xs k ≡ Some x) × (get_or ms k false ≡ true)
pick_of [] ms j x at = absurd (none_is_some x at)
pick_of (y ∷ ys) [] j x at = absurd (none_is_some x at)
pick_of (y ∷ ys) (true ∷ ms) zero x at = (0, at, refl)
pick_of (y ∷ ys) (true ∷ ms) (suc j) x at = let r = pick_of ys ms j x at in (suc r.0, r.1, r.2)
pick_of (y ∷ ys) (false ∷ ms) j x at = let r = pick_of ys ms j x at in (suc r.0, r.1, r.2)

pub picked_filter : (p : List ℕ → Bool) (xs : List (List ℕ)) (ms : List Bool) → length ms ≡ length xs → ((k : ℕ) (x : List ℕ) → slice_get xs k ≡ Some x → p x ≡ get_or ms k false) → picked xs ms ≡ filter p xs
picked_filter p [] ms e same = refl
picked_filter p (x ∷ xs) [] e same = absurd (omega arith)
picked_filter p (x ∷ xs) (m ∷ ms) e same =
    let here : p x ≡ m = same 0 x refl in
    let rest : picked xs ms ≡ filter p xs = picked_filter p xs ms (omega arith) (λ k y at. same (suc k) y at) in
    ap (λ (b : Bool). cond b (x ∷ picked xs ms) (picked xs ms)) (sym here) ∙ ap (λ (l : List (List ℕ)). cond (p x) (x ∷ l) l) rest

-- ---- each once

pub tail_distinct : (x : List ℕ) (xs : List (List ℕ)) → AreDistinct (x ∷ xs) → AreDistinct xs
tail_distinct x xs h n m y e f = let s : suc n ≡ suc m = h (suc n) (suc m) y e f in omega arith

pub drop_distinct : (k : ℕ) (xs : List (List ℕ)) → AreDistinct xs → AreDistinct (drop k xs)
drop_distinct zero xs h = h
drop_distinct (suc k) [] h = h
drop_distinct (suc k) (x ∷ xs) h = drop_distinct k xs (tail_distinct x xs h)

abbrev once : List ℕ → List (List ℕ) → ℕ
once x [] = 0
once x (y ∷ ys) = cond (bytes_eq x y) (1 + once x ys) (once x ys)

once_is : (x : List ℕ) (xs : List (List ℕ)) → once x xs ≡ count_by (bytes_eq x) xs
once_is x xs = is_count_by (once x) (bytes_eq x) refl (λ y ys. refl) xs

once_yes : (x y : List ℕ) (ys : List (List ℕ)) → bytes_eq x y ≡ true → once x (y ∷ ys) ≡ 1 + once x ys
once_yes x y ys e = ap (λ (b : Bool). cond b (1 + once x ys) (once x ys)) e

once_no : (x y : List ℕ) (ys : List (List ℕ)) → bytes_eq x y ≡ false → once x (y ∷ ys) ≡ once x ys
once_no x y ys e = ap (λ (b : Bool). cond b (1 + once x ys) (once x ys)) e

none_once : (xs : List (List ℕ)) (ms : List Bool) (x : List ℕ) → ((k : ℕ) → slice_get xs k ≡ Some x → ⊥) → once x (picked xs ms) ≡ 0
none_once [] ms x none = refl
none_once (y ∷ ys) [] x none = refl
none_once (y ∷ ys) (false ∷ ms) x none = none_once ys ms x (λ k e. none (suc k) e)
none_once (y ∷ ys) (true ∷ ms) x none =
    let rest : once x (picked ys ms) ≡ 0 = none_once ys ms x (λ k e. none (suc k) e) in
    elim (true_or_false (bytes_eq x y)) as (λ v. once x (y ∷ picked ys ms) ≡ 0) [
      | inl h ↦ absurd (none 0 (ap (λ (l : List ℕ). Some l) (sym (same_bytes x y h))))
      | inr h ↦ once_no x y (picked ys ms) h ∙ rest
    ]

pub at_most_once : (xs : List (List ℕ)) (ms : List Bool) → AreDistinct xs → (x : List ℕ) → once x (picked xs ms) ≤ 1
at_most_once [] ms h x = omega arith
at_most_once (y ∷ ys) [] h x = omega arith
at_most_once (y ∷ ys) (false ∷ ms) h x = at_most_once ys ms (tail_distinct y ys h) x
at_most_once (y ∷ ys) (true ∷ ms) h x =
    elim (true_or_false (bytes_eq x y)) as (λ v. once x (y ∷ picked ys ms) ≤ 1) [
      | inl e ↦
          let rest : once x (picked ys ms) ≡ 0 = none_once ys ms x (λ k at. let s : suc k ≡ 0 = h (suc k) 0 x at (ap (λ (l : List ℕ). Some l) (sym (same_bytes x y e))) in omega arith) in
          let here : once x (y ∷ picked ys ms) ≡ 1 + once x (picked ys ms) = once_yes x y (picked ys ms) e in
          omega (arith, rest, here)
      | inr e ↦
          let rest : once x (picked ys ms) ≤ 1 = at_most_once ys ms (tail_distinct y ys h) x in
          let here : once x (y ∷ picked ys ms) ≡ once x (picked ys ms) = once_no x y (picked ys ms) e in
          omega (arith, rest, here)
    ]

pub still_once : (xs ys : List (List ℕ)) → IsPermutation xs ys → ((x : List ℕ) → once x xs ≤ 1) → (x : List ℕ) → once x ys ≤ 1
still_once xs ys p h x =
    let same : count_by (bytes_eq x) ys ≡ count_by (bytes_eq x) xs = sum_by-IsPermutation (λ (y : List ℕ). cond (bytes_eq x y) 1 0) xs ys p in
    let equal : once x xs ≡ once x ys = once_is x xs ∙ (sym same ∙ sym (once_is x ys)) in
    subst (λ (n : ℕ). n ≤ 1) equal (h x)

-- ---- in byte order

once_more : (x y : List ℕ) (xs : List (List ℕ)) → once x xs ≤ once x (y ∷ xs)
once_more x y xs = elim (true_or_false (bytes_eq x y)) as (λ v. once x xs ≤ once x (y ∷ xs)) [
  | inl e ↦ let more : once x (y ∷ xs) ≡ 1 + once x xs = once_yes x y xs e in omega (arith, more)
  | inr e ↦ let same : once x (y ∷ xs) ≡ once x xs = once_no x y xs e in omega (arith, same)
]

some_once : (x : List ℕ) (xs : List (List ℕ)) (k : ℕ) → slice_get xs k ≡ Some x → 1 ≤ once x xs
some_once x [] k at = absurd (none_is_some x at)
some_once x (y ∷ ys) zero at =
    let e : bytes_eq x y ≡ true = bytes_same x y (sym (same_Some y x at)) in
    let here : once x (y ∷ ys) ≡ 1 + once x ys = once_yes x y ys e in
    omega (arith, here)
some_once x (y ∷ ys) (suc k) at = let rest : 1 ≤ once x ys = some_once x ys k at in let more : once x ys ≤ once x (y ∷ ys) = once_more x y ys in omega (arith, rest, more)

turned : (a b : Ordering) → a ≡ ordering_reverse b → is_lt b ≡ false → (is_eq a ≡ true → ⊥) → a ≡ Less
turned a Less e h k = let n : true ≡ false = h in absurd (cc n)
turned a Equal e h k = absurd (k (ap is_eq e))
turned a Greater e h k = e

twice : (x : List ℕ) (xs : List (List ℕ)) (k : ℕ) (y : List ℕ) → slice_get xs k ≡ Some y → x ≡ y → once x (x ∷ xs) ≤ 1 → ⊥
twice x xs k y at e one =
    let some : 1 ≤ once x xs = some_once x xs k (at ∙ ap (λ (l : List ℕ). Some l) (sym e)) in
    let here : once x (x ∷ xs) ≡ 1 + once x xs = once_yes x x xs (bytes_self x) in
    omega (arith, some, here)

-- what stands behind the first of a sorted list is above it
above : (x : List ℕ) (xs : List (List ℕ)) → IsSorted (slice_cmp nat_cmp) (x ∷ xs) → ((y : List ℕ) → once y (x ∷ xs) ≤ 1) → All (λ y. slice_cmp nat_cmp x y ≡ Less) xs
above x xs up one k d in' =
    let y : List ℕ = get_or xs k d in
    let far : is_lt (slice_cmp nat_cmp y x) ≡ false = sorted_far (λ (a b : List ℕ). is_lt (slice_cmp nat_cmp a b)) (ranks_by nat_list_cmp_total (λ (a : List ℕ). a)) (x ∷ xs) up 0 (suc k) d (omega arith) (omega arith) in
    turned (slice_cmp nat_cmp x y) (slice_cmp nat_cmp y x) (nat_list_cmp_total.antisymm x y) far (λ e. twice x xs k y (slice_get-get_or xs k d in') (same_bytes x y (sym (is_eq-slice_cmp x y) ∙ e)) (one x))

sorted_tail : (x : List ℕ) (xs : List (List ℕ)) → IsSorted (slice_cmp nat_cmp) (x ∷ xs) → IsSorted (slice_cmp nat_cmp) xs
sorted_tail x xs up k d low high =
    let e : suc k + 1 ≡ suc (k + 1) = omega arith in
    subst (λ (j : ℕ). is_lt (slice_cmp nat_cmp (get_or (x ∷ xs) j d) (get_or xs k d)) ≡ false) e (up (suc k) d (omega arith) (omega arith))

pub ascends : (xs : List (List ℕ)) → IsSorted (slice_cmp nat_cmp) xs → ((x : List ℕ) → once x xs ≤ 1) → Ascends xs
ascends [] up one = tt
ascends (x ∷ xs) up one = (above x xs up one, ascends xs (sorted_tail x xs up) (λ y. let more : once y xs ≤ once y (x ∷ xs) = once_more y x xs in let all : once y (x ∷ xs) ≤ 1 = one y in omega (arith, more, all)))
