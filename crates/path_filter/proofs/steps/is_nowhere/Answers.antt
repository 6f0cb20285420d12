use Rattle.std.proofs.Common.{arith}
use Rattle.path_filter.proofs.PositionLaws.{fewer}
use Rattle.path_filter.proofs.steps.is_nowhere.Goals as goal

pub next-requires : goal.next-requires
next-requires c = omega (arith, fewer c.args.steps.now, c.requires.small)
