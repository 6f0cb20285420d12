use Rattle.std.proofs.Common.{length}
use Rattle.voe_tree.proofs.names.+repeats_spelled.Given as goal

abbrev pub decreases-repeats_spelled : goal.decreases-repeats_spelled
decreases-repeats_spelled l = length l.given.now
