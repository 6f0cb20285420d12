use Rattle.voe_tree.proofs.PrefixedDocument.{prefixed-spells}
use Rattle.voe_tree.proofs.laws.prefixed_trees_read_back.Goals as goal

pub returns : goal.returns
returns c = prefixed-spells
