-- A position is in a set or not.
use Rattle.std.proofs.Common.{◌≡◌, ◌⊎◌, ℕ, arith}
use Rattle.path_filter.specs.Positions.{Has}
use Rattle.path_filter.specs.declared.positions.Positions.{Positions}

is_or_not : (a b : ℕ) → (a ≡ b) ⊎ (a ≡ b → ⊥)
is_or_not a b = grind arith

pub has_or_not : (p : Positions) (i : ℕ) → Has p i ⊎ (Has p i → ⊥)
unfolding Has
has_or_not p i = is_or_not _ 1
