use Rattle.std.proofs.Common.{◌≡◌, ◌++◌, drop}
use Rattle.xml_lexer.specs.View.{all_spelled}
use Rattle.voe_tree.specs.Names.{named_attributes}
use Rattle.voe_tree.specs.Reader.{bindings_at}
use Rattle.voe_tree.specs.View.{bindings_of, stack_of}
use Rattle.voe_tree.proofs.nesting.Nesting.attributes.Given as goal

abbrev pub invariant-loop-attribute : goal.invariant-loop-attribute
invariant-loop-attribute l =
    l.made ++ named_attributes (bindings_of l.own ++ bindings_at (stack_of l.self)) (all_spelled (drop l.attribute-index l.given))
    ≡ named_attributes (bindings_of l.own ++ bindings_at (stack_of l.self)) (all_spelled l.given)
