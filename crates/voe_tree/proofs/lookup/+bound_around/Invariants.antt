use Rattle.std.proofs.Common.{length}
use Rattle.voe_tree.proofs.lookup.+bound_around.Given as goal

abbrev pub decreases-bound_around : goal.decreases-bound_around
decreases-bound_around l = length l.levels.now
