-- Every fault but want of memory says that nothing reads.
use Rattle.std.proofs.Common.{refl}
use Rattle.voe_scenario.proofs.filter_line.line_fault.Goals as goal

pub returns-in_default : goal.returns-in_default
returns-in_default c = λ text nothing. (refl, nothing c.in_default.not-NoMemory)
