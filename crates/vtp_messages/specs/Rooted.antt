-- The tree that the text of a message spells.
use Rattle.std.specs.Prelude.{◌≡◌, ◌&&◌, Bool, true, if◌then◌else◌, List, [], ◌∷◌, ◌++◌, map, Option, Some, None, codes}
use Rattle.std.specs.List.{list_all}
use Rattle.xml_lexer.specs.Characters.{Text}
use Rattle.voe_values.specs.EndName.{is_end_name}
use Rattle.voe_tree.specs.Texts.{is_xml_text, trimmed}
use Rattle.voe_tree.specs.declared.element.Element.{Element}
use Rattle.voe_tree.specs.declared.element.Node.{Node}
use Rattle.voe_tree.specs.declared.element.Node.TheVariants as tree
use Rattle.voe_packet.specs.Params.{param_element, plain, simple}
use Rattle.voe_packet.specs.declared.param.Param.{Param}
use Rattle.vtp_messages.specs.Roles.{role_word}
use Rattle.vtp_messages.specs.Spelling.{has_meta, transport_space}
use Rattle.vtp_messages.specs.declared.message.Message.{Message}

abbrev pub node_of : Element → Node
node_of e = tree.Element e

abbrev pub leaf_element : Text → Text → Element
leaf_element name text = simple name [] (tree.Text text ∷ [])

abbrev pub leaf_element_if : Text → Option Text → List Element
leaf_element_if name None = []
leaf_element_if name (Some text) = leaf_element name text ∷ []

-- what stands in `Meta`
abbrev pub meta_elements : List Param → Option Text → List Element
meta_elements params result = map param_element params ++ leaf_element_if (codes "Result") result

abbrev pub meta_element : List Param → Option Text → Element
meta_element params result = simple (codes "Meta") [] (map node_of (meta_elements params result))

abbrev pub meta_element_if : List Param → Option Text → List Element
meta_element_if params result = if has_meta params result then meta_element params result ∷ [] else []

-- what stands in the root
abbrev pub inner_elements : Message → List Element
inner_elements m =
    leaf_element (codes "Origin") m.origin
    ∷ (leaf_element_if (codes "Response") m.response ++ (leaf_element_if (codes "TimeStamp") m.stamp ++ meta_element_if m.params m.result))

abbrev pub message_root : Message → Element
message_root m = record {
  space = transport_space;
  local = codes "Transport";
  attributes = plain (codes "role") (role_word m.role) ∷ plain (codes "version") (codes "1.0") ∷ [];
  children = map node_of (inner_elements m);
}

-- ---- texts that can be written

-- An end name can be written, and none of it is lost as it is read.
pub record IsPlainName (name : Text) : Type 0 where
  pub named : is_end_name name ≡ true
  pub xml : is_xml_text name ≡ true
  pub stripped : trimmed name ≡ name

abbrev pub IsPlainNameIf : Option Text → Type 0
IsPlainNameIf None = Unit {0}
IsPlainNameIf (Some name) = IsPlainName name

abbrev pub is_xml_if : Option Text → Bool
is_xml_if None = true
is_xml_if (Some text) = is_xml_text text

abbrev pub is_xml_param : Param → Bool
is_xml_param p = is_xml_text p.name && is_xml_text p.value

-- The texts of the message are made of XML characters. Its end names always are.
abbrev pub has_xml_texts : Message → Bool
has_xml_texts m = is_xml_if m.stamp && list_all is_xml_param m.params && is_xml_if m.result
