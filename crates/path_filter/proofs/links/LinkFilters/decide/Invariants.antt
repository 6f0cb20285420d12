use Rattle.std.proofs.Common.{take}
use Rattle.path_filter.specs.Links.{AreDecided}
use Rattle.path_filter.proofs.links.LinkFilters.decide.Given as goal

abbrev pub invariant-loop-set : goal.invariant-loop-set
invariant-loop-set l = AreDecided l.bits (take l.set-index l.set-items) l.tree.root
