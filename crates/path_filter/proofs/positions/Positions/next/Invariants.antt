use Rattle.std.proofs.Common.{◌≤◌, ◌<◌, ◌-◌, ℕ}
use Rattle.path_filter.specs.Positions.{Has}
use Rattle.path_filter.proofs.positions.Positions.next.Given as goal

abbrev pub decreases-loop-at : goal.decreases-loop-at
decreases-loop-at l = l.end - l.at

abbrev pub invariant-loop-at : goal.invariant-loop-at
invariant-loop-at l = (l.from ≤ l.at) × ((i : ℕ) → l.from ≤ i → i < l.at → Has l.self i → ⊥)
