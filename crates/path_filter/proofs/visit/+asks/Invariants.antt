use Rattle.std.proofs.Common.{map}
use Rattle.path_filter.specs.Plan.{check_of, checks_of}
use Rattle.path_filter.proofs.visit.+asks.Given as goal
use Rattle.path_filter.proofs.Measures.{size_of_check, size_of_checks}

abbrev pub decreases-ask_check : goal.decreases-ask_check
decreases-ask_check l = size_of_check (check_of l.check.now)

abbrev pub decreases-ask_checks : goal.decreases-ask_checks
decreases-ask_checks l = size_of_checks (checks_of (map check_of l.checks.now))
