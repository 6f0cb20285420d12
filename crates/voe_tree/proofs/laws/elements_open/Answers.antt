use Rattle.voe_tree.proofs.Contained.{string_of_children}
use Rattle.voe_tree.proofs.WrittenTree.{tokens_of-layer}
use Rattle.voe_tree.proofs.WrittenNodes.{depth_out, keeps_out}
use Rattle.voe_tree.proofs.laws.elements_open.Goals as goal

pub returns-clause-tokens : goal.returns-clause-tokens
returns-clause-tokens c = tokens_of-layer

pub returns-clause-kept : goal.returns-clause-kept
returns-clause-kept c = keeps_out

pub returns-clause-depth : goal.returns-clause-depth
returns-clause-depth c = depth_out

pub returns-clause-string : goal.returns-clause-string
returns-clause-string c = string_of_children
