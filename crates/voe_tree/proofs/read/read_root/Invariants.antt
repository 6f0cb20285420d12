use Rattle.std.proofs.Common.{drop}
use Rattle.xml_lexer.specs.View.{token_views}
use Rattle.voe_tree.specs.View.{state_of}
use Rattle.voe_tree.proofs.ReadLaws.{HasRead}
use Rattle.voe_tree.proofs.read.read_root.Given as goal

abbrev pub invariant-loop-at : goal.invariant-loop-at
invariant-loop-at l = HasRead (token_views l.tokens) (token_views (drop l.at l.tokens)) l.at (state_of l.nesting)
