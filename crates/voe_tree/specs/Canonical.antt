-- The canonical text of a tree: its tokens, and how these are written.
use Rattle.std.specs.Prelude.{ℕ, ◌+◌, ◌&&◌, ◌||◌, ◌==◌, Bool, true, false, not, nat_le, if◌then◌else◌, List, [], ◌∷◌, ◌++◌, length, map, codes, decimal}
use Rattle.std.specs.List.{concat, list_all, list_any, position_or_len}
use Rattle.xml_lexer.specs.Characters.{Text}
use Rattle.xml_lexer.specs.Token.{Token, start, end, reference, text, Spelled}
use Rattle.xml_lexer.specs.Spelling.{same, tag_end, max_attributes}
use Rattle.xml_lexer.specs.Phases.{max_tokens}
use Rattle.voe_tree.specs.Names.{xml_namespace}
use Rattle.voe_tree.specs.declared.element.Attribute.{Attribute}
use Rattle.voe_tree.specs.declared.element.Element.{Element, fold-Element}
use Rattle.voe_tree.specs.declared.element.Node.{Node, fold-Node}
use Rattle.voe_tree.specs.declared.element.Node.TheOpen.{Node-F, Element-F}

-- ---- characters

-- how a character is written as a reference
abbrev pub reference_to : ℕ → Text
reference_to c =
    if c == 38 then codes "&amp;" else (if c == 60 then codes "&lt;" else (if c == 62 then codes "&gt;" else (if c == 34 then codes "&quot;"
    else (if c == 9 then codes "&#9;" else (if c == 10 then codes "&#10;" else codes "&#13;")))))

-- what is a reference in text: `&`, `<`, `>` and CR
abbrev pub is_escaped : ℕ → Bool
is_escaped b = b == 38 || b == 60 || b == 62 || b == 13

-- what is a reference in a value: `&`, `<`, `"`, TAB, LF and CR
abbrev pub is_escaped_in_value : ℕ → Bool
is_escaped_in_value b = b == 38 || b == 60 || b == 34 || b == 9 || b == 10 || b == 13

abbrev pub written_value : Text → Text
written_value [] = []
written_value (b ∷ bs) = (if is_escaped_in_value b then reference_to b else b ∷ []) ++ written_value bs

-- the byte before the tokens, as one with a run of text that comes first
abbrev pub put_byte : ℕ → List Token → List Token
put_byte b (text run ∷ ks) = text (b ∷ run) ∷ ks
put_byte b ks = text (b ∷ []) ∷ ks

-- a text as runs and references
abbrev pub text_tokens : Text → List Token
text_tokens [] = []
text_tokens (b ∷ bs) = if is_escaped b then reference b ∷ text_tokens bs else put_byte b (text_tokens bs)

-- ---- tags

-- a namespace that takes a prefix with a number
abbrev pub is_numbered : Text → Bool
is_numbered space = not (length space == 0 || same space xml_namespace)

-- one more namespace where it takes a number and has none yet
abbrev pub add_space : List Text → Text → List Text
add_space spaces space = if is_numbered space && not (list_any (same space) spaces) then spaces ++ space ∷ [] else spaces

-- with the namespaces of the attributes, in the order of their first use
abbrev pub add_spaces : List Text → List Attribute → List Text
add_spaces spaces [] = spaces
add_spaces spaces (a ∷ more) = add_spaces (add_space spaces a.space) more

abbrev pub numbered_spaces : List Attribute → List Text
numbered_spaces attributes = add_spaces [] attributes

-- how the name of an attribute in the namespace begins: with nothing, `xml:`, or `a` and the namespace's number
abbrev pub written_prefix : List Text → Text → Text
written_prefix spaces space =
    if length space == 0 then [] else (if same space xml_namespace then codes "xml:" else codes "a" ++ decimal (position_or_len (same space) spaces) ++ codes ":")

abbrev pub written_attribute : List Text → Attribute → Spelled
written_attribute spaces a = record { name = written_prefix spaces a.space ++ a.local; value = written_value a.value }

-- the default namespace is declared where it differs from the one in force
abbrev pub default_declaration : Text → Text → List Spelled
default_declaration default space = if same space default then [] else record { name = codes "xmlns"; value = written_value space } ∷ []

-- the prefixes with numbers, from this one on
abbrev pub numbered_declarations : ℕ → List Text → List Spelled
numbered_declarations number [] = []
numbered_declarations number (space ∷ more) =
    record { name = codes "xmlns:a" ++ decimal number; value = written_value space } ∷ numbered_declarations (number + 1) more

-- what stands in the tag of an element of this namespace, where this default is in force
abbrev pub written_attributes : Text → Text → List Attribute → List Spelled
written_attributes default space attributes =
    default_declaration default space ++ numbered_declarations 0 (numbered_spaces attributes) ++ map (written_attribute (numbered_spaces attributes)) attributes

-- ---- elements

abbrev pub end_tag : Bool → Text → List Token
end_tag true name = []
end_tag false name = end name ∷ []

-- The tokens of a node, where a default namespace is in force.
abbrev pub InDefault : Type 0
InDefault = Text → List Token

abbrev pub all_in : Text → List InDefault → List Token
all_in default [] = []
all_in default (tokens ∷ more) = tokens default ++ all_in default more

abbrev pub node_tokens : Node-F InDefault InDefault → InDefault
node_tokens (Node-F.Element tokens) default = tokens default
node_tokens (Node-F.Text run) default = text_tokens run

abbrev pub element_tokens : Element-F InDefault InDefault → InDefault
element_tokens e default =
    start e.local (written_attributes default e.space e.attributes) (length e.children == 0)
    ∷ all_in e.space e.children ++ end_tag (length e.children == 0) e.local

abbrev pub tokens_of : Element → InDefault
tokens_of = fold-Element InDefault InDefault node_tokens element_tokens

abbrev pub tokens_in : Node → InDefault
tokens_in = fold-Node InDefault InDefault node_tokens element_tokens

-- ---- texts

-- ` name="value"`
abbrev pub written_spelled : Spelled → Text
written_spelled a = codes " " ++ a.name ++ codes "=\"" ++ a.value ++ codes "\""

abbrev pub written : Token → Text
written (start name given is_empty) = codes "<" ++ name ++ concat (map written_spelled given) ++ tag_end is_empty
written (end name) = codes "</" ++ name ++ codes ">"
written (reference c) = reference_to c
written (text run) = run
written _ = []

abbrev pub all_written : List Token → Text
all_written ks = concat (map written ks)

-- At the root no default namespace is in force.
abbrev pub canonical_tokens : Element → List Token
canonical_tokens root = tokens_of root []

abbrev pub canonical : Element → Text
canonical root = all_written (canonical_tokens root)

-- ---- bounds

abbrev pub max_bytes : ℕ
max_bytes = 1048576

-- not a start tag of more than 64 attributes, declarations among them
abbrev pub is_narrow : Token → Bool
is_narrow (start name given is_empty) = nat_le (length given) max_attributes
is_narrow _ = true

-- such a text is short enough to be read
abbrev pub is_short : ℕ → List Token → Bool
is_short bytes ks = nat_le bytes max_bytes && nat_le (length ks) max_tokens && list_all is_narrow ks

abbrev pub is_writable : Element → Bool
is_writable root = is_short (length (canonical root)) (canonical_tokens root)
