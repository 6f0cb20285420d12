use Rattle.std.proofs.Common.{take}
use Rattle.path_filter.specs.Links.{AreOf}
use Rattle.path_filter.proofs.links.LinkFilters.read.Given as goal

abbrev pub invariant-loop-link : goal.invariant-loop-link
invariant-loop-link l = AreOf l.sets (take l.link-index l.links)
