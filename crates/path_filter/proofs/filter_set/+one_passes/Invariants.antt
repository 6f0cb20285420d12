use Rattle.std.proofs.Common.{length}
use Rattle.path_filter.proofs.filter_set.+one_passes.Given as goal

abbrev pub decreases-one_passes : goal.decreases-one_passes
decreases-one_passes l = length l.filters.now
