use Rattle.std.proofs.Common.{◌<◌, ℕ, ◌-◌, length}
use Rattle.path_filter.specs.Positions.{Has}
use Rattle.path_filter.proofs.passes.is_done.Given as goal

abbrev pub invariant-loop-i : goal.invariant-loop-i
invariant-loop-i l = (k : ℕ) → k < l.i → Has l.asked k → Has l.found k

abbrev pub decreases-loop-i : goal.decreases-loop-i
decreases-loop-i l = length l.plan - l.i
