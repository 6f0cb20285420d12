use Rattle.std.proofs.Common.{◌≡◌, drop}
use Rattle.std.specs.Prelude.{find}
use Rattle.voe_tree.specs.Contents.{child_of, is_called, elements_in}
use Rattle.voe_tree.proofs.element.Element.child.Given as goal

abbrev pub invariant-loop-node : goal.invariant-loop-node
invariant-loop-node l = find (is_called l.local) (elements_in (drop l.node-index l.node-items)) ≡ child_of l.self l.local
