use Rattle.std.proofs.Common.{◌≡◌, take}
use Rattle.path_filter.proofs.filter_set.FilterSet.copy.Given as goal

abbrev pub invariant-loop-filter : goal.invariant-loop-filter
invariant-loop-filter l = l.filters.items ≡ take l.filter-index l.filter-items
