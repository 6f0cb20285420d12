use mathlib.Core.Logic.{∥∥₁_map}
use Rattle.broker_run.proofs.job.Post.follow.Goals as goal

pub of-requires : goal.of-requires
of-requires g c = λ some. ∥∥₁_map c.args.fresh.unused (λ u. c.heed-ended.ensures u some)
