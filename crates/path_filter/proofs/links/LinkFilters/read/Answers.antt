use Rattle.std.proofs.Common.{List, take, ◌+◌, sym, subst}
use Rattle.path_filter.specs.Sets.{Filters}
use Rattle.path_filter.specs.Links.{AreOf}
use Rattle.path_filter.proofs.LinkBits.{read_more}
use Rattle.path_filter.proofs.links.LinkFilters.read.Goals as goal

pub loop-link-preserved : goal.loop-link-preserved
loop-link-preserved c =
    subst (λ (sets : List Filters). AreOf sets (take (c.loop-link.link-index + 1) c.args.links.now)) (sym c.in_default.ensures.ok)
    (read_more c.loop-link.sets c.args.links.now c.loop-link.link-index c.in_ok-set.set c.link-item.result c.loop-link-test.true c.link-item.is c.loop-link.invariant c.in_ok-set.ensures.read)
