use Rattle.std.proofs.Common.{◌≡◌, drop}
use Rattle.std.specs.Prelude.{find, option_map}
use Rattle.voe_tree.specs.Contents.{attribute_of, is_plain}
use Rattle.voe_tree.specs.declared.element.Attribute.{Attribute}
use Rattle.voe_tree.proofs.element.Element.attribute.Given as goal

abbrev pub invariant-loop-attribute : goal.invariant-loop-attribute
invariant-loop-attribute l =
    option_map (λ (a : Attribute). a.value) (find (is_plain l.local) (drop l.attribute-index l.attribute-items)) ≡ attribute_of l.self l.local
