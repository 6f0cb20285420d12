-- Parameters, as packets and messages have them.
use Rattle.std.specs.Prelude.{true, List, [], ◌∷◌, ◌++◌, unwrap_or, codes}
use Rattle.xml_lexer.specs.Characters.{Text}
use Rattle.xml_lexer.specs.Token.{Token, start}
use Rattle.voe_tree.specs.Canonical.{written_value}
use Rattle.voe_tree.specs.Contents.{attribute_of}
use Rattle.voe_tree.specs.declared.element.Attribute.{Attribute}
use Rattle.voe_tree.specs.declared.element.Element.{Element}
use Rattle.voe_tree.specs.declared.element.Node.{Node}
use Rattle.voe_packet.specs.declared.param.Param.{Param}

-- A missing name or value is empty.
abbrev pub param_of : Element → Param
param_of e = record { name = unwrap_or (attribute_of e (codes "name")) []; value = unwrap_or (attribute_of e (codes "value")) [] }

-- an attribute in no namespace
abbrev pub plain : Text → Text → Attribute
plain local value = record { space = []; local = local; value = value }

-- an element in no namespace
abbrev pub simple : Text → List Attribute → List Node → Element
simple local attributes children = record { space = []; local = local; attributes = attributes; children = children }

-- the element that a parameter is
abbrev pub param_element : Param → Element
param_element p = simple (codes "Param") (plain (codes "name") p.name ∷ plain (codes "value") p.value ∷ []) []

-- how it is written
abbrev pub param_text : Param → Text
param_text p = codes "<Param name=\"" ++ written_value p.name ++ codes "\" value=\"" ++ written_value p.value ++ codes "\"/>"

-- the one token that this is
abbrev pub param_token : Param → Token
param_token p =
    start (codes "Param") (record { name = codes "name"; value = written_value p.name } ∷ record { name = codes "value"; value = written_value p.value } ∷ []) true

-- the line that shows it
abbrev pub param_line : Param → Text
param_line p = codes "param " ++ p.name ++ codes " " ++ p.value ++ codes "\n"
