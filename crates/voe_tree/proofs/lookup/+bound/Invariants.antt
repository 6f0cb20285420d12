use Rattle.std.proofs.Common.{length}
use Rattle.voe_tree.proofs.lookup.+bound.Given as goal

abbrev pub decreases-bound : goal.decreases-bound
decreases-bound l = length l.bindings.now
