use mathlib.Core.Logic.{∥∥₁_map}
use Rattle.broker_run.proofs.job.Post.serve.Goals as goal

pub of-requires : goal.of-requires
of-requires g c = λ some. ∥∥₁_map c.args.fresh.unused (λ u. c.meet-ended.ensures u some)
