-- A node is an element or a text.
use Rattle.std.proofs.Common.{◌≡◌, inl, inr}
use Rattle.std.specs.Prelude.{◌⊎◌}
use Rattle.xml_lexer.specs.Characters.{Text}
use Rattle.voe_tree.specs.declared.element.Element.{Element}
use Rattle.voe_tree.specs.declared.element.Node.{Node}
use Rattle.voe_tree.specs.declared.element.Node.TheOpen.{Node-F}
use Rattle.voe_tree.specs.declared.element.Node.TheFolds.{ind-Node}
use Rattle.voe_tree.specs.declared.element.Node.TheViews.{roll-Node}
use Rattle.voe_tree.specs.declared.element.Node.TheVariants as tree

abbrev pub IsEither : Node → Type 0
IsEither n = ((e : Element) × (n ≡ tree.Element e)) ⊎ ((t : Text) × (n ≡ tree.Text t))

layer_cases : (x : Node-F Node Element) → IsEither (roll-Node x)
layer_cases (Node-F.Element e) = inl (e, tree.rolls-Element e)
layer_cases (Node-F.Text t) = inr (t, tree.rolls-Text t)

pub node_cases : (n : Node) → IsEither n
node_cases n = ind-Node IsEither (λ e. Unit {0}) (λ x y is. layer_cases x) (λ x y is. tt) n
