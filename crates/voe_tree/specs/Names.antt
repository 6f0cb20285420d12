-- Names under bindings: Namespaces in XML 1.0.
use Rattle.std.specs.Prelude.{ℕ, ◌&&◌, ◌||◌, ◌==◌, Bool, true, false, not, nat_lt, if◌then◌else◌, List, [], ◌∷◌, ◌++◌, length, slice_index, map, filter, Option, Some, None, unwrap_or, codes}
use Rattle.std.specs.List.{before_first, after_first}
use Rattle.std.specs.Char.{encode_utf8}
use Rattle.xml_lexer.specs.Characters.{Text, is_colon, has_prefix}
use Rattle.xml_lexer.specs.Token.{Spelled}
use Rattle.xml_lexer.specs.Spelling.{same, named_character}
use Rattle.voe_tree.specs.Build.{Node, Nodes, element, characters, none, node}
use Rattle.voe_tree.specs.declared.element.Attribute.{Attribute}
use Rattle.voe_tree.specs.declared.element.Element.{Element}
use Rattle.voe_tree.specs.declared.element.Node.{Node as TreeNode}
use Rattle.voe_tree.specs.declared.element.Node.TheVariants as tree

-- ---- values: XML 1.0, section 3.3.3

abbrev pub is_semicolon : ℕ → Bool
is_semicolon b = b == 59

-- a byte that stands for itself
abbrev pub is_plain_byte : ℕ → Bool
is_plain_byte b = not (b == 38 || b == 9 || b == 10 || b == 13)

-- The text of a value, from within a reference or not: line ends and tabs that stand literally read as spaces.
abbrev pub value_text : Bool → Text → Text
value_text in_reference [] = []
value_text true (b ∷ bs) = value_text (not (is_semicolon b)) bs
value_text false (b ∷ bs) =
    if b == 38 then encode_utf8 (unwrap_or (named_character (before_first is_semicolon bs)) 32) ++ value_text true bs
    else (if b == 13 && slice_index bs 0 == 10 then value_text false bs
    else (if b == 9 || b == 10 || b == 13 then 32 else b) ∷ value_text false bs)

abbrev pub read_value : Text → Text
read_value = value_text false

-- ---- bindings

-- the part before the colon, which is empty where there is none
abbrev pub prefix_of : Text → Text
prefix_of name = if has_prefix name then before_first is_colon name else []

abbrev pub local_of : Text → Text
local_of name = if has_prefix name then after_first is_colon name else name

abbrev pub is_declared_name : Text → Bool
is_declared_name name = same name (codes "xmlns") || same (prefix_of name) (codes "xmlns")

abbrev pub is_declaration : Spelled → Bool
is_declaration a = is_declared_name a.name

-- The newest binding comes first. The empty prefix has the default namespace, and an empty namespace unbinds.
abbrev pub Bindings : Type 0
Bindings = List (Text × Text)

abbrev pub declared_prefix : Text → Text
declared_prefix name = if has_prefix name then local_of name else []

-- the bindings with those that a tag declares
abbrev pub declare : List Spelled → Bindings → Bindings
declare [] bindings = bindings
declare (a ∷ more) bindings =
    declare more (if is_declaration a then (declared_prefix a.name, read_value a.value) ∷ bindings else bindings)

-- the namespace of the prefix `xml`: Namespaces in XML 1.0, section 3
abbrev pub xml_namespace : Text
xml_namespace = codes "http://www.w3.org/XML/1998/namespace"

-- the newest binding of the prefix
abbrev pub lookup : Text → Bindings → Option Text
lookup prefix [] = None
lookup prefix (b ∷ bindings) = if same b.0 prefix then Some b.1 else lookup prefix bindings

-- The prefix `xml` always has its namespace.
abbrev pub namespace : Bindings → Text → Text
namespace bindings prefix = if same prefix (codes "xml") then xml_namespace else unwrap_or (lookup prefix bindings) []

abbrev pub is_bound : Bindings → Text → Bool
is_bound bindings prefix = length prefix == 0 || nat_lt 0 (length (namespace bindings prefix))

-- ---- names

-- An attribute without a prefix is in no namespace.
abbrev pub named_attribute : Bindings → Spelled → Attribute
named_attribute bindings a = record {
  space = if has_prefix a.name then namespace bindings (prefix_of a.name) else [];
  local = local_of a.name;
  value = read_value a.value;
}

-- the attributes that are no declarations
abbrev pub undeclaring : List Spelled → List Spelled
undeclaring given = filter (λ a. not (is_declaration a)) given

abbrev pub named_attributes : Bindings → List Spelled → List Attribute
named_attributes bindings given = map (named_attribute bindings) (undeclaring given)

-- an element of that start tag, with these children
abbrev pub element_with : Bindings → Text → List Spelled → List TreeNode → Element
element_with inside name given children = record {
  space = namespace inside (prefix_of name);
  local = local_of name;
  attributes = named_attributes inside given;
  children = children;
}

abbrev mutual
  pub named : Bindings → Node → TreeNode
  named bindings (characters text) = tree.Text text
  named bindings (element name given children) =
      tree.Element (element_with (declare given bindings) name given (named_all (declare given bindings) children))

  pub named_all : Bindings → Nodes → List TreeNode
  named_all bindings none = []
  named_all bindings (node first others) = named bindings first ∷ named_all bindings others
