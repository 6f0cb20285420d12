use Rattle.std.proofs.Common.{length}
use Rattle.voe_tree.proofs.names.+repeats_named.Given as goal

abbrev pub decreases-repeats_named : goal.decreases-repeats_named
decreases-repeats_named l = length l.attributes.now
