use Rattle.std.proofs.Common.{◌∙◌, ap}
use Rattle.path_filter.specs.Plan.{newest}
use Rattle.path_filter.proofs.GrowLaws.{newest_push}
use Rattle.path_filter.proofs.lay_out.push.Goals as goal

pub returns : goal.returns
returns c = (c.len-position.ensures, ap newest c.in_ok-push.ensures.ok ∙ newest_push c.args.plan.now c.args.stage)
