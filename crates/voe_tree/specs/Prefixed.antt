-- The text of a tree whose root has a prefix: all else in it is as in the canonical text.
use Rattle.std.specs.Prelude.{◌&&◌, ◌==◌, Bool, false, not, nat_lt, List, [], ◌∷◌, ◌++◌, length, map, codes}
use Rattle.std.specs.List.{list_all}
use Rattle.xml_lexer.specs.Characters.{Text}
use Rattle.xml_lexer.specs.Token.{Token, start, end, Spelled}
use Rattle.xml_lexer.specs.Spelling.{same}
use Rattle.voe_tree.specs.Shape.{is_local_name}
use Rattle.voe_tree.specs.declared.element.Attribute.{Attribute}
use Rattle.voe_tree.specs.declared.element.Element.{Element}
use Rattle.voe_tree.specs.Canonical.{all_in, all_written, tokens_in, written_attribute, written_value}

-- a prefix that a namespace may be bound to
abbrev pub is_prefix : Text → Bool
is_prefix prefix = is_local_name prefix && not (same prefix (codes "xml")) && not (same prefix (codes "xmlns"))

-- the root is in a namespace and its attributes are in none
abbrev pub takes_prefix : Element → Bool
takes_prefix root = nat_lt 0 (length root.space) && list_all (λ (a : Attribute). length a.space == 0) root.attributes

-- `prefix:local`
abbrev pub prefixed_name : Text → Text → Text
prefixed_name prefix local = prefix ++ 58 ∷ local

-- the prefix is declared before the attributes
abbrev pub prefixed_attributes : Text → Text → List Attribute → List Spelled
prefixed_attributes prefix space attributes =
    record { name = codes "xmlns:" ++ prefix; value = written_value space } ∷ map (written_attribute []) attributes

-- The root has an end tag in every case; in it no default namespace is in force.
abbrev pub prefixed_tokens : Text → Element → List Token
prefixed_tokens prefix root =
    start (prefixed_name prefix root.local) (prefixed_attributes prefix root.space root.attributes) false
    ∷ all_in [] (map tokens_in root.children) ++ end (prefixed_name prefix root.local) ∷ []

abbrev pub prefixed : Text → Element → Text
prefixed prefix root = all_written (prefixed_tokens prefix root)
