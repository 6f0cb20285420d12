-- Identifiers of events, as a test of a text, and the one by which a document is known.
use Rattle.std.specs.Prelude.{Bool, Option, Some, None, is_none, if◌then◌else◌, codes}
use Rattle.xml_lexer.specs.Characters.{Text}
use Rattle.voe_values.specs.Identifier.{first_fault}
use Rattle.voe_tree.specs.Contents.{attribute_of}
use Rattle.voe_tree.specs.declared.element.Element.{Element}

-- no rule of identifiers breaks
abbrev pub is_identifier : Text → Bool
is_identifier s = is_none (first_fault s)

-- the text, where it is an identifier
abbrev pub if_identifier : Option Text → Option Text
if_identifier None = None
if_identifier (Some text) = if is_identifier text then Some text else None

-- the root's attribute `ivorn`, where it stands and is an identifier, valid packet or not
abbrev pub identifier_of : Element → Option Text
identifier_of root = if_identifier (attribute_of root (codes "ivorn"))
