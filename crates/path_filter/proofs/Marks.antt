-- Positions that were gone over up to a place, in order.
use Rattle.std.specs.Prelude.{◌≡◌, ◌<◌, ◌≤◌, ◌⊎◌, ◌↔◌, ℕ, List, Some, slice_get}
use Rattle.path_filter.specs.declared.plan.Stage.{Stage}

-- Those below `n` are in the set where they were before, or are asked and good; those from `n` on where they were before.
pub record MarkedBelow (n : ℕ) (plan : List Stage) (Asked Before Now : ℕ → Type 0) (Good : ℕ → Stage → Type 0) : Type 0 where
  pub seen : (k : ℕ) (x : Stage) → k < n → slice_get plan k ≡ Some x → Asked k → Now k ↔ (Before k ⊎ Good k x)
  pub unseen : (k : ℕ) → n ≤ k → Now k ↔ Before k
