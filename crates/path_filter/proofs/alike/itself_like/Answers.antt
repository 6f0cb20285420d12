use Rattle.std.proofs.Common.{arith}
use Rattle.path_filter.proofs.PositionLaws.{fewer}
use Rattle.path_filter.proofs.alike.itself_like.Goals as goal

pub has-requires : goal.has-requires
has-requires c = omega (arith, fewer c.args.steps.now, c.requires.small)
