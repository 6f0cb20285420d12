use Rattle.std.proofs.Common.{◌-◌, length}
use Rattle.path_filter.proofs.Marks.{MarkedBelow}
use Rattle.path_filter.specs.Plan.{Owns}
use Rattle.path_filter.specs.Positions.{Has}
use Rattle.path_filter.proofs.passes.own.Given as goal

abbrev pub invariant-loop-i : goal.invariant-loop-i
invariant-loop-i l = MarkedBelow l.i l.plan (Has l.asked) (Has l.initial.found) (Has l.found) (λ _ x. Owns l.at x)

abbrev pub decreases-loop-i : goal.decreases-loop-i
decreases-loop-i l = length l.plan - l.i
