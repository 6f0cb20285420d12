use Rattle.std.proofs.Common.{take}
use Rattle.path_filter.specs.Sets.{AreRead}
use Rattle.path_filter.proofs.filter_set.FilterSet.of.Given as goal

abbrev pub invariant-loop-at : goal.invariant-loop-at
invariant-loop-at l = AreRead l.filters.items (take l.at l.texts)
