-- What every tree keeps.
use Rattle.std.specs.Prelude.{ℕ, suc, ◌&&◌, ◌==◌, Bool, true, false, not, nat_lt, nat_le, max, List, [], ◌∷◌, length, codes}
use Rattle.std.specs.List.{list_all}
use Rattle.xml_lexer.specs.Characters.{Text, is_name}
use Rattle.xml_lexer.specs.Spelling.{same}
use Rattle.voe_tree.specs.Texts.{is_xml_text}
use Rattle.voe_tree.specs.Pairs.{has_pair}
use Rattle.voe_tree.specs.declared.element.Attribute.{Attribute}
use Rattle.voe_tree.specs.declared.element.Element.{Element, fold-Element}
use Rattle.voe_tree.specs.declared.element.Node.{Node, fold-Node}
use Rattle.voe_tree.specs.declared.element.Node.TheOpen.{Node-F, Element-F}

abbrev pub max_depth : ℕ
max_depth = 64

-- the namespace and the local name are equal
abbrev pub same_attribute : Attribute → Attribute → Bool
same_attribute a b = same a.space b.space && same a.local b.local

abbrev pub is_local_name : Text → Bool
is_local_name s = is_name s && is_xml_text s

-- an attribute that would be written as a declaration
abbrev pub is_xmlns : Attribute → Bool
is_xmlns a = length a.space == 0 && same a.local (codes "xmlns")

abbrev pub attribute_keeps : Attribute → Bool
attribute_keeps a = is_xml_text a.space && is_local_name a.local && is_xml_text a.value && not (is_xmlns a)

-- no attribute repeats another
abbrev pub attributes_keep : List Attribute → Bool
attributes_keep attributes = list_all attribute_keeps attributes && not (has_pair same_attribute attributes)

-- ---- depth

abbrev pub greatest : List ℕ → ℕ
greatest [] = 0
greatest (n ∷ ns) = max n (greatest ns)

-- how deep elements nest: one without element children has depth 1, and a text has none
abbrev pub node_depth : Node-F ℕ ℕ → ℕ
node_depth (Node-F.Element depth) = depth
node_depth (Node-F.Text text) = 0

abbrev pub element_depth : Element-F ℕ ℕ → ℕ
element_depth e = suc (greatest e.children)

abbrev pub depth : Element → ℕ
depth = fold-Element ℕ ℕ node_depth element_depth

-- the depth of a node
abbrev pub height : Node → ℕ
height = fold-Node ℕ ℕ node_depth element_depth

-- ---- texts and names

-- what a node is for the nodes beside it: whether it is a text, and whether it keeps the rules
abbrev pub Kept : Type 0
Kept = Bool × Bool

-- no two texts stand side by side
abbrev pub are_apart : List Kept → Bool
are_apart [] = true
are_apart (a ∷ []) = true
are_apart (a ∷ b ∷ more) = not (a.0 && b.0) && are_apart (b ∷ more)

abbrev pub children_keep : List Kept → Bool
children_keep children = are_apart children && list_all (λ k. k.1) children

-- a text is not empty
abbrev pub node_keeps : Node-F Kept Bool → Kept
node_keeps (Node-F.Element keeps) = (false, keeps)
node_keeps (Node-F.Text text) = (true, nat_lt 0 (length text) && is_xml_text text)

abbrev pub element_keeps : Element-F Kept Bool → Bool
element_keeps e = is_xml_text e.space && is_local_name e.local && attributes_keep e.attributes && children_keep e.children

-- the element and all that it contains keep the rules
abbrev pub keeps : Element → Bool
keeps = fold-Element Kept Bool node_keeps element_keeps

abbrev pub node_kept : Node → Kept
node_kept = fold-Node Kept Bool node_keeps element_keeps

abbrev pub is_well_formed : Element → Bool
is_well_formed e = keeps e && nat_le (depth e) max_depth
