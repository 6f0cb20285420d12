use Rattle.std.proofs.Common.{take}
use Rattle.path_filter.specs.Sets.{AreReadLeniently}
use Rattle.path_filter.proofs.filter_set.FilterSet.lenient.Given as goal

abbrev pub invariant-loop-text : goal.invariant-loop-text
invariant-loop-text l = AreReadLeniently l.filters.items (take l.text-index l.text-items)
