-- What a tree has of a message. Children are found by local name, in any namespace or in none, and the first of each name counts.
use Rattle.std.specs.Prelude.{◌&&◌, Bool, true, nat_lt, if◌then◌else◌, List, [], length, map, filter, find, Option, Some, None, option_and_then, codes}
use Rattle.xml_lexer.specs.Characters.{Text}
use Rattle.xml_lexer.specs.Spelling.{same}
use Rattle.voe_values.specs.EndName.{is_end_name}
use Rattle.voe_tree.specs.Texts.{trimmed}
use Rattle.voe_tree.specs.Contents.{attribute_of, elements_in, text_of}
use Rattle.voe_tree.specs.declared.element.Element.{Element}
use Rattle.voe_packet.specs.Params.{param_of}
use Rattle.voe_packet.specs.declared.param.Param.{Param}
use Rattle.vtp_messages.specs.Roles.{role_named}
use Rattle.vtp_messages.specs.declared.role.MessageRole.{MessageRole}

-- ---- children

abbrev pub has_local : Text → Element → Bool
has_local local e = same e.local local

abbrev pub children_local : Element → Text → List Element
children_local e local = filter (has_local local) (elements_in e.children)

-- the first child of that local name
abbrev pub child_local : Element → Text → Option Element
child_local e local = find (has_local local) (elements_in e.children)

-- An empty text reads as a missing one.
abbrev pub unless_empty : Text → Option Text
unless_empty text = if nat_lt 0 (length text) then Some text else None

-- the text of the first child of that local name, less the blanks at both ends
abbrev pub text_at : Element → Text → Option Text
text_at e local = option_and_then (λ child. unless_empty (text_of child)) (child_local e local)

abbrev pub if_end_name : Text → Option Text
if_end_name text = if is_end_name text then Some text else None

-- the same where it is an end name
abbrev pub name_at : Element → Text → Option Text
name_at e local = option_and_then (λ child. if_end_name (text_of child)) (child_local e local)

-- ---- parts

abbrev pub is_transport : Element → Bool
is_transport root = same root.local (codes "Transport")

abbrev pub role_of : Element → Option MessageRole
role_of root = option_and_then role_named (attribute_of root (codes "role"))

abbrev pub origin_of : Element → Option Text
origin_of root = name_at root (codes "Origin")

abbrev pub response_of : Element → Option Text
response_of root = name_at root (codes "Response")

abbrev pub stamp_of : Element → Option Text
stamp_of root = text_at root (codes "TimeStamp")

abbrev pub params_in : Option Element → List Param
params_in None = []
params_in (Some meta) = map param_of (children_local meta (codes "Param"))

-- the named values of the first `Meta`
abbrev pub params_of : Element → List Param
params_of root = params_in (child_local root (codes "Meta"))

-- the result in the first `Meta`
abbrev pub result_of : Element → Option Text
result_of root = option_and_then (λ meta. text_at meta (codes "Result")) (child_local root (codes "Meta"))

-- ---- texts

-- a text with no blanks at its ends, and not empty
abbrev pub is_stripped : Text → Bool
is_stripped text = nat_lt 0 (length text) && same (trimmed text) text

-- the same of a text that stands
abbrev pub is_stripped_if : Option Text → Bool
is_stripped_if None = true
is_stripped_if (Some text) = is_stripped text
