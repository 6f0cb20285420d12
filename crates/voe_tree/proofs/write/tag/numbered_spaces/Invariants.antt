use Rattle.std.proofs.Common.{◌≡◌, drop}
use Rattle.voe_tree.specs.Canonical.{add_spaces, numbered_spaces}
use Rattle.voe_tree.specs.Writing.{texts}
use Rattle.voe_tree.proofs.write.tag.numbered_spaces.Given as goal

abbrev pub invariant-loop-attribute : goal.invariant-loop-attribute
invariant-loop-attribute l = add_spaces (texts l.spaces.items) (drop l.attribute-index l.attributes) ≡ numbered_spaces l.attributes
