use Rattle.std.proofs.Common.{subst, sym}
use Rattle.filter_text.specs.Filter.{arrived, step, child, element, any, more, no_more}
use Rattle.path_filter.specs.Plan.{newest}
use Rattle.path_filter.specs.Planned.{Means}
use Rattle.path_filter.specs.declared.plan.Sought.TheVariants as sought
use Rattle.path_filter.proofs.CheckViews.{anywhere-out}
use Rattle.path_filter.proofs.GrowLaws.{pushed, pushed_document, pushed_grows}
use Rattle.path_filter.proofs.OnceLaws.{grows_none, once_means}
use Rattle.path_filter.proofs.lay_out.plan_once.Goals as goal

pub returns-clause-grows : goal.returns-clause-grows
returns-clause-grows c =
    let old = newest c.args.plan.now in
    pushed_grows old c.args.plan.now c.push.new.plan c.in_ok-position.position c.in_ok-stage.stage 0 c.in_ok-position.ensures (c.in_ok-stage.ensures.refers old c.requires.refers) (grows_none old c.requires.made)

pub returns-clause-means : goal.returns-clause-means
returns-clause-means c = λ condition same means.
    let new = newest c.push.new.plan in
    let i = c.in_ok-position.position in
    subst (λ k. Means new k condition) (sym (anywhere-out i))
    (once_means new i condition same
    (pushed c.args.plan.now c.push.new.plan i c.in_ok-stage.stage (step child element any (more condition no_more) arrived) sought.Anything c.in_ok-position.ensures (c.in_ok-stage.ensures.stands (newest c.args.plan.now) condition means))
    (pushed_document c.args.plan.now c.push.new.plan i c.in_ok-stage.stage c.in_ok-position.ensures c.in_ok-stage.ensures.document))
