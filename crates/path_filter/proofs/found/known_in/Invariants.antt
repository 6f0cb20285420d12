use Rattle.path_filter.proofs.Known.{KnownBelow}
use Rattle.path_filter.specs.Plan.{newest}
use Rattle.path_filter.specs.Positions.{Has}
use Rattle.path_filter.proofs.found.known_in.Given as goal

abbrev pub invariant-loop-i : goal.invariant-loop-i
invariant-loop-i l = KnownBelow l.i (Has l.known) (newest l.plan) l.root
