use Rattle.std.proofs.Common.{ap}
use Rattle.path_filter.specs.Plan.{newest}
use Rattle.path_filter.proofs.GrowLaws.{plan_or_none}
use Rattle.path_filter.proofs.lay_out.lay_out.Goals as goal

pub returns : goal.returns
returns c =
    plan_or_none c.in_ok-_position._position (newest c.new-plan.result) (newest c.plan_path.new.plan) _ c.args.path.now c.requires.absolute
    (ap newest c.new-plan.ensures) c.in_ok-_position.ensures.grows c.requires.small c.in_ok-_position.ensures.means
