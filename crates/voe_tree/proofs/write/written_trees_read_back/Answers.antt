use Rattle.voe_tree.proofs.WrittenDocument.{canonical-spells}
use Rattle.voe_tree.proofs.write.written_trees_read_back.Goals as goal

pub returns : goal.returns
returns c = canonical-spells
