use Rattle.std.proofs.Common.{◌≡◌, ◌++◌, drop}
use Rattle.xml_lexer.specs.View.{all_spelled}
use Rattle.voe_tree.specs.Names.{Bindings, declare}
use Rattle.voe_tree.specs.View.{bindings_of}
use Rattle.voe_tree.proofs.start.declarations.Given as goal

abbrev pub invariant-loop-attribute : goal.invariant-loop-attribute
invariant-loop-attribute l = (outer : Bindings) →
    declare (all_spelled (drop l.attribute-index l.given)) (bindings_of l.made.items ++ outer) ≡ declare (all_spelled l.given) outer
