-- Going over positions, one at a time.
use Rattle.std.proofs.Common.{◌≡◌, ◌<◌, ◌≤◌, ◌+◌, ◌⊎◌, ◌↔◌, inl, inr, ℕ, zero, suc, List, [], ◌∷◌, Some, length, sym, subst, arith}
use Rattle.std.specs.List.{slice_get}
use Rattle.path_filter.proofs.Marks.{MarkedBelow}
use Rattle.path_filter.specs.Plan.{StageIsSmall, StagesAreSmall}
use Rattle.path_filter.specs.declared.plan.Stage.{Stage}
use Rattle.path_filter.proofs.SearchSteps.{below-more}
use Rattle.path_filter.proofs.PlaceLaws.{same_some}

pub small_at : (plan : List Stage) (i : ℕ) (x : Stage) → StagesAreSmall plan → slice_get plan i ≡ Some x → StageIsSmall x
small_at [] i x small at = absurd (let bad : ⊥ = cc in bad)
small_at (y ∷ plan) zero x small at = let same : y ≡ x = cc in subst StageIsSmall same small.0
small_at (y ∷ plan) (suc i) x small at = small_at plan i x small.1 at

pub within : {X : Type 0} (xs : List X) (i : ℕ) (x : X) → slice_get xs i ≡ Some x → i < length xs
within [] i x at = absurd (let bad : ⊥ = cc in bad)
within (y ∷ xs) zero x at = omega arith
within (y ∷ xs) (suc i) x at = omega (arith, within xs i x at)

pub none_marked : (plan : List Stage) (Asked Before : ℕ → Type 0) (Good : ℕ → Stage → Type 0) → MarkedBelow 0 plan Asked Before Before Good
none_marked plan Asked Before Good = record {
  seen = λ k x lt. absurd (omega (arith, lt));
  unseen = λ k le. ((λ h. h), (λ h. h));
}

pub one_marked : (plan : List Stage) (Asked Before Old New : ℕ → Type 0) (Good : ℕ → Stage → Type 0) (i : ℕ) (y : Stage)
    → slice_get plan i ≡ Some y → ((k : ℕ) → New k ↔ (Old k ⊎ ((k ≡ i) × Asked i × Good i y)))
    → MarkedBelow i plan Asked Before Old Good → MarkedBelow (i + 1) plan Asked Before New Good
one_marked plan Asked Before Old New Good i y at new old = record {
  seen = λ k x lt there asked. elim (below-more k i lt) [
    | inl same ↦
        (let here = subst (λ n. slice_get plan n ≡ Some x) same there in
        let is : y ≡ x = same_some (slice_get plan i) y x at here in (
          (λ h. elim ((new k).0 h) [
            | inl was ↦ inl ((old.unseen k (omega (arith, same))).0 was)
            | inr good ↦ inr (subst (λ z. Good k z) is (subst (λ n. Good n y) (sym same) good.2))
          ]),
          (λ h. elim h [
            | inl was ↦ (new k).1 (inl ((old.unseen k (omega (arith, same))).1 was))
            | inr good ↦ (new k).1 (inr (same, subst Asked same asked, subst (λ n. Good n y) same (subst (λ z. Good k z) (sym is) good)))
          ]),
        ))
    | inr less ↦ (
      (λ h. elim ((new k).0 h) [
        | inl was ↦ (old.seen k x less there asked).0 was
        | inr good ↦ absurd (omega (arith, less, good.0))
      ]),
      (λ h. (new k).1 (inl ((old.seen k x less there asked).1 h))),
    )
  ];
  unseen = λ k le. (
    (λ h. elim ((new k).0 h) [ inl was ↦ (old.unseen k (omega (arith, le))).0 was | inr good ↦ absurd (omega (arith, le, good.0)) ]),
    (λ h. (new k).1 (inl ((old.unseen k (omega (arith, le))).1 h))),
  );
}

pub less-or-not : (a b : ℕ) → (a < b) ⊎ (b ≤ a)
less-or-not a b = grind arith

-- What is asked before the next position is not behind the one before it.
pub skipped : (Asked : ℕ → Type 0) (n m : ℕ) → ((k : ℕ) → n + 1 ≤ k → k < m → Asked k → ⊥) → (k : ℕ) → k < m → Asked k → k < n + 1
skipped Asked n m skips k lt asked = elim (less-or-not k (n + 1)) [ inl less ↦ less | inr not ↦ absurd (skips k not lt asked) ]

-- Positions that are not asked are skipped.
pub skip_marked : (plan : List Stage) (Asked Before Now : ℕ → Type 0) (Good : ℕ → Stage → Type 0) (n m : ℕ) → n ≤ m → ((k : ℕ) → n ≤ k → k < m → Asked k → ⊥)
    → MarkedBelow n plan Asked Before Now Good → MarkedBelow m plan Asked Before Now Good
skip_marked plan Asked Before Now Good n m le skips marked = record {
  seen = λ k x lt there asked. elim (less-or-not k n) [ inl less ↦ marked.seen k x less there asked | inr not ↦ absurd (skips k not lt asked) ];
  unseen = λ k ge. marked.unseen k (omega (arith, le, ge));
}

pub all_marked : (plan : List Stage) (Asked Before Now : ℕ → Type 0) (Good : ℕ → Stage → Type 0) (n : ℕ) → length plan ≤ n → MarkedBelow n plan Asked Before Now Good
    → (i : ℕ) (x : Stage) → slice_get plan i ≡ Some x → Asked i → Now i ↔ (Before i ⊎ Good i x)
all_marked plan Asked Before Now Good n le marked i x at asked = marked.seen i x (omega (arith, within plan i x at)) at asked
