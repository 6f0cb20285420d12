-- The texts of an element, from those of its children.
use Rattle.std.proofs.Common.{◌≡◌, map, sym, ◌∙◌, ap, Some, None}
use Rattle.std.specs.List.{concat}
use Rattle.xml_lexer.specs.Characters.{Text}
use Rattle.voe_tree.specs.Contents.{string_of, string_in, node_text, element_text, layer_element, layer_text, element_in, text_in}
use Rattle.voe_tree.specs.declared.element.Element.{Element, fold_out-Element}
use Rattle.voe_tree.specs.declared.element.Node.{out-Node}
use Rattle.voe_tree.specs.declared.element.Node.TheViews.{out-roll-Node}
use Rattle.voe_tree.specs.declared.element.Node.TheOpen.{Node-F}
use Rattle.voe_tree.specs.declared.element.Node.TheFolds.{fold-roll-Node}
use Rattle.voe_tree.specs.declared.element.Node.TheVariants as tree

pub string_of_children : (e : Element) → string_of e ≡ concat (map string_in e.children)
string_of_children e = fold_out-Element Text Text node_text element_text e

pub string_in-element : (e : Element) → string_in (tree.Element e) ≡ string_of e
string_in-element e = ap string_in (sym (tree.rolls-Element e)) ∙ fold-roll-Node Text Text node_text element_text (Node-F.Element e)

pub string_in-text : (t : Text) → string_in (tree.Text t) ≡ t
string_in-text t = ap string_in (sym (tree.rolls-Text t)) ∙ fold-roll-Node Text Text node_text element_text (Node-F.Text t)

-- ---- what a node is

pub element_in-element : (e : Element) → element_in (tree.Element e) ≡ Some e
element_in-element e = ap layer_element (ap out-Node (sym (tree.rolls-Element e)) ∙ out-roll-Node (Node-F.Element e))

pub element_in-text : (t : Text) → element_in (tree.Text t) ≡ None
element_in-text t = ap layer_element (ap out-Node (sym (tree.rolls-Text t)) ∙ out-roll-Node (Node-F.Text t))

pub text_in-text : (t : Text) → text_in (tree.Text t) ≡ Some t
text_in-text t = ap layer_text (ap out-Node (sym (tree.rolls-Text t)) ∙ out-roll-Node (Node-F.Text t))

pub text_in-element : (e : Element) → text_in (tree.Element e) ≡ None
text_in-element e = ap layer_text (ap out-Node (sym (tree.rolls-Element e)) ∙ out-roll-Node (Node-F.Element e))

-- elements are equal where their nodes are
pub same_element : (a b : Element) → tree.Element a ≡ tree.Element b → a ≡ b
same_element a b h = let some : Some a ≡ Some b = sym (element_in-element a) ∙ ap element_in h ∙ element_in-element b in cc
