use Rattle.std.proofs.Common.{◌≡◌, ◌<◌, ℕ, Some, ◌-◌, length}
use Rattle.std.specs.List.{slice_get}
use Rattle.path_filter.specs.Plan.{Asks}
use Rattle.path_filter.specs.Positions.{Has}
use Rattle.path_filter.specs.declared.plan.Stage.{Stage}
use Rattle.path_filter.proofs.passes.asked_of_child.Given as goal

abbrev pub invariant-loop-i : goal.invariant-loop-i
invariant-loop-i l = (k : ℕ) (x : Stage) → k < l.i → slice_get l.plan k ≡ Some x → Has l.asked k → (Has l.found k → ⊥) → Asks (Has l.below) l.child k x

abbrev pub decreases-loop-i : goal.decreases-loop-i
decreases-loop-i l = length l.plan - l.i
