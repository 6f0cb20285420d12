-- A thread as it is listed.
use Rattle.std.proofs.Common.{◌≡◌, ◌∙◌, ap, sym, refl, subst, inl, inr, ◌⊎◌, ℕ, zero, suc, ◌+◌, ◌-◌, ◌<◌, ◌≤◌, Bool, true, false, List, [], ◌∷◌, ◌++◌, length, get_or, take, drop, Some, Contains, All, arith, take_all, length-drop}
use Rattle.std.specs.Prelude.{◌↔◌, IfOk, Result, Ok, Err}
use Rattle.std.specs.List.{slice_get, filter}
use Rattle.std.specs.List.Sorted.{IsPermutation}
use Rattle.std.proofs.lemmas.Option.{slice_get_within, slice_get-get_or}
use Rattle.std.proofs.lemmas.List.Elements.{Contains-get_or}
use Rattle.std.proofs.lemmas.List.Sorted.{IsPermutation-append_right, IsPermutation-sym, Contains-permutation}
use Rattle.cite_index.specs.declared.triple.Triple.{Triple}
use Rattle.cite_index.specs.Names.{AreDistinct, is_in}
use Rattle.cite_index.specs.Reach.{IsConnected, IsMarked}
use Rattle.cite_index.specs.Threads.{AreEdges, Ascends, InThread, IsFront, IsListed, ListsThread, firsts, known, picked}
use Rattle.cite_index.proofs.Naming.{at_front, at_of_contains, at_of_in, both_truths, contains_of_at, in_firsts, in_of_at, true_or_false}
use Rattle.cite_index.proofs.Picks.{pick, pick_of, picked_filter, picked_parts}
use Rattle.cite_index.proofs.Bridges.{in_thread, thread_at}

-- all that a thread's listing rests on
pub record IsFound (added : List (List ℕ)) (cites : List Triple) (i : List ℕ) (names : List (List ℕ)) (edges : List (ℕ × ℕ)) (marks : List Bool) (start : ℕ) : Type 0 where
  pub front : IsFront (firsts added) names
  pub distinct : AreDistinct names
  pub edges_are : AreEdges names cites edges
  pub start_is : slice_get names start ≡ Some i
  pub marked : (m : ℕ) → IsMarked marks m ↔ IsConnected edges start m
  pub same : length marks ≡ length names

take_at : {X : Type 0} (n : ℕ) (xs : List X) (k : ℕ) (x : X) → slice_get (take n xs) k ≡ Some x → slice_get xs k ≡ Some x
take_at zero xs k x e = absurd (cc e)
take_at (suc n) [] k x e = e
take_at (suc n) (y ∷ xs) zero x e = e
take_at (suc n) (y ∷ xs) (suc k) x e = take_at n xs k x e

take_mark : (n : ℕ) (xs : List Bool) (k : ℕ) → k < n → get_or (take n xs) k false ≡ get_or xs k false
take_mark zero xs k h = absurd (omega arith)
take_mark (suc n) [] k h = refl
take_mark (suc n) (y ∷ xs) zero h = refl
take_mark (suc n) (y ∷ xs) (suc k) h = take_mark n xs k (omega arith)

drop_at : {X : Type 0} (n : ℕ) (xs : List X) (k : ℕ) (x : X) → slice_get (drop n xs) k ≡ Some x → slice_get xs (n + k) ≡ Some x
drop_at zero xs k x e = let s : 0 + k ≡ k = omega arith in subst (λ (j : ℕ). slice_get xs j ≡ Some x) (sym s) e
drop_at (suc n) [] k x e = e
drop_at (suc n) (y ∷ xs) k x e = let s : suc n + k ≡ suc (n + k) = omega arith in subst (λ (j : ℕ). slice_get (y ∷ xs) j ≡ Some x) (sym s) (drop_at n xs k x e)

take_front : (xs ys : List (List ℕ)) → take (length xs) (xs ++ ys) ≡ xs
take_front [] ys = refl
take_front (x ∷ xs) ys = ap (λ (l : List (List ℕ)). x ∷ l) (take_front xs ys)

-- what is listed is what is picked
listed_moves : (names : List (List ℕ)) (marks : List Bool) (count : ℕ) (listed : List (List ℕ)) → length marks ≡ length names → IsListed names marks count listed → IsPermutation (picked names marks) listed
listed_moves names marks count listed same (others, is, moved, up) =
    let first : List (List ℕ) = picked (take count names) (take count marks) in
    let rest : List (List ℕ) = picked (drop count names) (drop count marks) in
    let P : List (List ℕ) → Type 0 = λ l. IsPermutation l listed in
    let Q : List (List ℕ) → Type 0 = λ l. IsPermutation (first ++ rest) l in
    subst P (picked_parts count names marks same) (subst Q (sym is) (IsPermutation-append_right first rest others moved))

listed_in : (names : List (List ℕ)) (marks : List Bool) (listed : List (List ℕ)) → IsPermutation (picked names marks) listed → (k : ℕ) (x : List ℕ) → slice_get names k ≡ Some x → get_or marks k false ≡ true → Contains listed x
listed_in names marks listed moved k x at on =
    let r = at_of_in (picked names marks) x (pick names marks k x at on) in
    Contains-permutation (picked names marks) listed x moved (contains_of_at (picked names marks) r.0 x r.1)

in_listed : (names : List (List ℕ)) (marks : List Bool) (listed : List (List ℕ)) → IsPermutation (picked names marks) listed → (x : List ℕ) → Contains listed x → (k : ℕ) × (slice_get names k ≡ Some x) × (get_or marks k false ≡ true)
in_listed names marks listed moved x has =
    let r = at_of_contains (picked names marks) x (Contains-permutation listed (picked names marks) x (IsPermutation-sym (picked names marks) listed moved) has) in
    pick_of names marks r.0 x r.1

marked_at : (marks : List Bool) (edges : List (ℕ × ℕ)) (start : ℕ) → ((m : ℕ) → IsMarked marks m ↔ IsConnected edges start m) → (m : ℕ) → IsConnected edges start m → get_or marks m false ≡ true
marked_at marks edges start h m c = (h m).1 c

whole_of : (added : List (List ℕ)) (cites : List Triple) (i : List ℕ) (names : List (List ℕ)) (edges : List (ℕ × ℕ)) (marks : List Bool) (start : ℕ) (listed : List (List ℕ)) → IsFound added cites i names edges marks start → IsPermutation (picked names marks) listed → (x : List ℕ) → Contains listed x ↔ InThread cites i x
whole_of added cites i names edges marks start listed found moved x = (there, back)
  where
    there : Contains listed x → InThread cites i x
    there has =
        let r = in_listed names marks listed moved x has in
        in_thread names cites edges found.edges_are start r.0 i x found.start_is r.1 ((found.marked r.0).0 r.2)

    back : InThread cites i x → Contains listed x
    back h =
        let r = thread_at names cites edges found.distinct found.edges_are start i x found.start_is h in
        listed_in names marks listed moved r.0 x r.1 ((found.marked r.0).1 r.2)

-- the mark of a name tells whether it is listed
told : (names : List (List ℕ)) (marks : List Bool) (listed : List (List ℕ)) → AreDistinct names → IsPermutation (picked names marks) listed → (k : ℕ) (x : List ℕ) → slice_get names k ≡ Some x → is_in listed x ≡ get_or marks k false
told names marks listed distinct moved k x at = both_truths (is_in listed x) (get_or marks k false) there back
  where
    there : is_in listed x ≡ true → get_or marks k false ≡ true
    there h =
        let l = at_of_in listed x h in
        let r = in_listed names marks listed moved x (contains_of_at listed l.0 x l.1) in
        subst (λ (j : ℕ). get_or marks j false ≡ true) (distinct r.0 k x r.1 at) r.2

    back : get_or marks k false ≡ true → is_in listed x ≡ true
    back on = let l = at_of_contains listed x (listed_in names marks listed moved k x at on) in in_of_at listed l.0 x l.1

same_take : (n : ℕ) (marks : List Bool) (names : List (List ℕ)) → length marks ≡ length names → length (take n marks) ≡ length (take n names)
same_take zero ms xs e = refl
same_take (suc n) [] [] e = refl
same_take (suc n) [] (x ∷ xs) e = absurd (omega arith)
same_take (suc n) (m ∷ ms) [] e = absurd (omega arith)
same_take (suc n) (m ∷ ms) (x ∷ xs) e = ap suc (same_take n ms xs (omega arith))

take_within : {X : Type 0} (n : ℕ) (xs : List X) (k : ℕ) (x : X) → slice_get (take n xs) k ≡ Some x → k < n
take_within zero xs k x e = absurd (cc e)
take_within (suc n) [] k x e = absurd (cc e)
take_within (suc n) (y ∷ xs) zero x e = omega arith
take_within (suc n) (y ∷ xs) (suc k) x e = let h : k < n = take_within n xs k x e in omega arith

first_part : (names : List (List ℕ)) (marks : List Bool) (count : ℕ) (listed : List (List ℕ)) → AreDistinct names → length marks ≡ length names → IsPermutation (picked names marks) listed → picked (take count names) (take count marks) ≡ filter (is_in listed) (take count names)
first_part names marks count listed distinct same moved =
    picked_filter (is_in listed) (take count names) (take count marks) (same_take count marks names same)
    (λ k x at. told names marks listed distinct moved k x (take_at count names k x at) ∙ sym (take_mark count marks k (take_within count names k x at)))

-- an added identifier stands among the first
among_first : (added : List (List ℕ)) (names : List (List ℕ)) (x : List ℕ) → IsFront (firsts added) names → is_in added x ≡ true → (k : ℕ) × (k < length (firsts added)) × (slice_get names k ≡ Some x)
among_first added names x (more, is) h =
    let r = at_of_in (firsts added) x (in_firsts added x ∙ h) in
    (r.0, slice_get_within (firsts added) r.0 x r.1, subst (λ (l : List (List ℕ)). slice_get l r.0 ≡ Some x) (sym is) (at_front (firsts added) more r.0 x r.1))

new_ones : (added : List (List ℕ)) (names : List (List ℕ)) (marks : List Bool) (others : List (List ℕ)) → AreDistinct names → IsFront (firsts added) names → IsPermutation (picked (drop (length (firsts added)) names) (drop (length (firsts added)) marks)) others → All (λ x. is_in added x ≡ false) others
new_ones added names marks others distinct front moved j d in' =
    let count : ℕ = length (firsts added) in
    let rest : List (List ℕ) = picked (drop count names) (drop count marks) in
    let x : List ℕ = get_or others j d in
    let has : Contains rest x = Contains-permutation others rest x (IsPermutation-sym rest others moved) (Contains-get_or others j d in') in
    let l = at_of_contains rest x has in
    let r = pick_of (drop count names) (drop count marks) l.0 x l.1 in
    let at : slice_get names (count + r.0) ≡ Some x = drop_at count names r.0 x r.1 in
    elim (true_or_false (is_in added x)) as (λ v. is_in added x ≡ false) [
      | inl h ↦
          let f = among_first added names x front h in
          let s : f.0 ≡ count + r.0 = distinct f.0 (count + r.0) x f.2 at in
          let low : f.0 < count = f.1 in
          absurd (omega arith)
      | inr h ↦ h
    ]

pub lists_thread : (added : List (List ℕ)) (cites : List Triple) (i : List ℕ) (names : List (List ℕ)) (edges : List (ℕ × ℕ)) (marks : List Bool) (start : ℕ) (listed : List (List ℕ)) → IsFound added cites i names edges marks start → IsListed names marks (length (firsts added)) listed → ListsThread (known added cites) i listed
lists_thread added cites i names edges marks start listed found (others, is, moved, up) =
    let count : ℕ = length (firsts added) in
    let all : IsPermutation (picked names marks) listed = listed_moves names marks count listed found.same (others, is, moved, up) in
    let firsts_are : take count names ≡ firsts added = ap (λ (l : List (List ℕ)). take count l) found.front.1 ∙ take_front (firsts added) found.front.0 in
    let one : picked (take count names) (take count marks) ≡ filter (is_in listed) (firsts added) = first_part names marks count listed found.distinct found.same all ∙ ap (λ (l : List (List ℕ)). filter (is_in listed) l) firsts_are in
    (whole_of added cites i names edges marks start listed found all, (others, is ∙ ap (λ (l : List (List ℕ)). l ++ others) one, up, new_ones added names marks others found.distinct found.front moved))

pub all_listed : {E : Type 0} (r : Result (List (List ℕ)) E) (added : List (List ℕ)) (cites : List Triple) (i : List ℕ) (names : List (List ℕ)) (edges : List (ℕ × ℕ)) (marks : List Bool) (start : ℕ) (shown : List (List ℕ)) (bits : List Bool) (count : ℕ) → IsFound added cites i names edges marks start → shown ≡ names → bits ≡ marks → count ≡ length (firsts added) → IfOk r (λ l. IsListed shown bits count l) → IfOk r (λ l. ListsThread (known added cites) i l)
all_listed (Ok l) added cites i names edges marks start shown bits count found e f g h =
    let one : IsListed names bits count l = subst (λ (s : List (List ℕ)). IsListed s bits count l) e h in
    let two : IsListed names marks count l = subst (λ (s : List Bool). IsListed names s count l) f one in
    lists_thread added cites i names edges marks start l found (subst (λ (k : ℕ). IsListed names marks k l) g two)
all_listed (Err x) added cites i names edges marks start shown bits count found e f g h = h

-- what `[n..]` reads
pub rest_whole : {X : Type 0} (n : ℕ) (xs : List X) → take (length xs - n) (drop n xs) ≡ drop n xs
rest_whole n xs = take_all (length xs - n) (drop n xs) (omega (arith, length-drop n xs))
