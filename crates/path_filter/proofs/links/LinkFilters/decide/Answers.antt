use Rattle.std.proofs.Common.{Bool, List, take, ◌+◌, sym, subst}
use Rattle.path_filter.specs.Links.{AreDecided}
use Rattle.path_filter.proofs.LinkBits.{decided_more}
use Rattle.path_filter.proofs.links.LinkFilters.decide.Goals as goal

pub loop-set-preserved : goal.loop-set-preserved
loop-set-preserved c =
    subst (λ (bits : List Bool). AreDecided bits (take (c.loop-set.set-index + 1) c.as_slice-set-items.result.now) c.args.tree.now.root) (sym c.in_default.ensures.ok)
    (decided_more c.loop-set.bits c.as_slice-set-items.result.now c.loop-set.set-index c.passes.result c.set-item.result c.args.tree.now.root c.loop-set-test.true c.set-item.is c.loop-set.invariant c.passes.ensures)
