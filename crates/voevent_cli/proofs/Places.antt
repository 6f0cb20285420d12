-- Lists by their places.
use Rattle.std.proofs.Common.{◌≡◌, ℕ, zero, suc, ◌<◌, List, [], ◌∷◌, length, slice_get, Some, None, refl, sym, subst, inl, inr, arith}
use Rattle.std.specs.List.{All}
use Rattle.net_model.specs.Laws.{IsIn}

none_is_not_some : {X : Type 0} {x : X} → None ≡ Some x → ⊥
none_is_not_some e = cc

pub get_within : {X : Type 0} (xs : List X) (k : ℕ) (x : X) → slice_get xs k ≡ Some x → k < length xs
get_within [] k x e = absurd (none_is_not_some e)
get_within (y ∷ ys) zero x e = omega arith
get_within (y ∷ ys) (suc k) x e = let rest = get_within ys k x e in omega arith

pub get_there : {X : Type 0} (xs : List X) (k : ℕ) → k < length xs → (x : X) × (slice_get xs k ≡ Some x)
get_there [] k lt = absurd (omega arith)
get_there (y ∷ ys) zero lt = (y, refl)
get_there (y ∷ ys) (suc k) lt = get_there ys k (omega arith)

pub same_lists : {X : Type 0} (xs ys : List X) → length xs ≡ length ys → ((k : ℕ) → k < length xs → slice_get xs k ≡ slice_get ys k) → xs ≡ ys
same_lists [] [] count each = refl
same_lists [] (y ∷ ys) count each = absurd (omega arith)
same_lists (x ∷ xs) [] count each = absurd (omega arith)
same_lists (x ∷ xs) (y ∷ ys) count each =
    let first : Some x ≡ Some y = each 0 (omega arith) in
    let others : xs ≡ ys = same_lists xs ys (omega arith) (λ k lt. each (suc k) (omega arith)) in
    cc

-- what holds of each item holds of one of them
pub each_in : {X : Type 0} (P : X → Type 0) (xs : List X) (x : X) → All P xs → IsIn x xs → P x
each_in P [] x all is = absurd is
each_in P (y ∷ ys) x all (inl same) = subst P (sym same) (all 0 y (omega arith))
each_in P (y ∷ ys) x all (inr later) = each_in P ys x (λ k d lt. all (suc k) d (omega arith)) later
