use Rattle.std.proofs.Common.{◌≡◌, ◌++◌, drop, map}
use Rattle.std.specs.List.{concat}
use Rattle.voe_tree.specs.Contents.{string_of, string_in}
use Rattle.voe_tree.proofs.element.Element.+append_string.Given as goal

abbrev pub invariant-loop-node : goal.invariant-loop-node
invariant-loop-node l = l.text ++ concat (map string_in (drop l.node-index l.node-items)) ≡ l.initial.text ++ string_of l.self
