-- What an element contains.
use Rattle.std.specs.Prelude.{◌&&◌, ◌==◌, Bool, List, length, Option, Some, None, option_map, filter, find}
use Rattle.std.specs.List.{concat, filter_map}
use Rattle.xml_lexer.specs.Characters.{Text}
use Rattle.xml_lexer.specs.Spelling.{same}
use Rattle.voe_tree.specs.Texts.{trimmed}
use Rattle.voe_tree.specs.declared.element.Attribute.{Attribute}
use Rattle.voe_tree.specs.declared.element.Element.{Element, fold-Element}
use Rattle.voe_tree.specs.declared.element.Node.{Node, fold-Node, out-Node}
use Rattle.voe_tree.specs.declared.element.Node.TheOpen.{Node-F, Element-F}

-- an attribute of that local name, in no namespace
abbrev pub is_plain : Text → Attribute → Bool
is_plain local a = length a.space == 0 && same a.local local

-- the value of the attribute of that local name, in no namespace
abbrev pub attribute_of : Element → Text → Option Text
attribute_of e local = option_map (λ a. a.value) (find (is_plain local) e.attributes)

-- an element of that local name, in no namespace
abbrev pub is_called : Text → Element → Bool
is_called local e = length e.space == 0 && same e.local local

abbrev pub layer_element : Node-F Node Element → Option Element
layer_element (Node-F.Element e) = Some e
layer_element (Node-F.Text text) = None

-- the element that the node is
abbrev pub element_in : Node → Option Element
element_in node = layer_element (out-Node node)

abbrev pub layer_text : Node-F Node Element → Option Text
layer_text (Node-F.Element e) = None
layer_text (Node-F.Text text) = Some text

-- the text that the node is
abbrev pub text_in : Node → Option Text
text_in node = layer_text (out-Node node)

-- the elements among the nodes
abbrev pub elements_in : List Node → List Element
elements_in nodes = filter_map element_in nodes

-- the children of that local name, in no namespace
abbrev pub children_called : Element → Text → List Element
children_called e local = filter (is_called local) (elements_in e.children)

-- the first of them
abbrev pub child_of : Element → Text → Option Element
child_of e local = find (is_called local) (elements_in e.children)

abbrev pub node_text : Node-F Text Text → Text
node_text (Node-F.Element inner) = inner
node_text (Node-F.Text text) = text

abbrev pub element_text : Element-F Text Text → Text
element_text e = concat e.children

-- the texts in the element, at any depth, in the order of the document: the string value of XPath 1.0, section 5.2
abbrev pub string_of : Element → Text
string_of = fold-Element Text Text node_text element_text

abbrev pub string_in : Node → Text
string_in = fold-Node Text Text node_text element_text

-- the same without the blanks at both ends
abbrev pub text_of : Element → Text
text_of e = trimmed (string_of e)
