-- When a tree is a valid packet: VOEvent 2.0, in the rows V01 to V12.
use Rattle.std.specs.Prelude.{ℕ, ◌+◌, ◌&&◌, ◌||◌, Bool, true, false, nat_le, length, List, [], ◌∷◌, ◌++◌, Option, Some, None, option_map, codes, map}
use Rattle.std.specs.List.{list_all}
use Rattle.xml_lexer.specs.Characters.{Text}
use Rattle.xml_lexer.specs.Spelling.{same}
use Rattle.voe_tree.specs.Texts.{trimmed}
use Rattle.voe_tree.specs.Contents.{attribute_of, children_called, text_in}
use Rattle.voe_tree.specs.Identifier.{is_identifier}
use Rattle.voe_tree.specs.declared.element.Element.{Element}
use Rattle.voe_tree.specs.declared.element.Node.{Node}

abbrev pub packet_namespace : Text
packet_namespace = codes "http://www.ivoa.net/xml/VOEvent/v2.0"

-- the attribute is there and has that value
abbrev pub has_value : Text → Option Text → Bool
has_value wanted None = false
has_value wanted (Some value) = same value wanted

abbrev pub names_identifier : Option Text → Bool
names_identifier None = false
names_identifier (Some value) = is_identifier value

abbrev pub is_role : Text → Bool
is_role value =
    same value (codes "observation") || same value (codes "prediction") || same value (codes "utility") || same value (codes "test")

-- A missing role reads as `observation`.
abbrev pub has_role : Option Text → Bool
has_role None = true
has_role (Some value) = is_role value

abbrev pub stands_at_most_once : Element → Text → Bool
stands_at_most_once root section = nat_le (length (children_called root section)) 1

abbrev pub is_kind : Text → Bool
is_kind value = same value (codes "followup") || same value (codes "supersedes") || same value (codes "retraction")

abbrev pub has_kind : Option Text → Bool
has_kind None = false
has_kind (Some value) = is_kind value

-- what the `Citations` cite
abbrev pub cited_in : List Element → List Element
cited_in [] = []
cited_in (section ∷ sections) = children_called section (codes "EventIVORN") ++ cited_in sections

abbrev pub citations_of : Element → List Element
citations_of root = cited_in (children_called root (codes "Citations"))

-- one child, a text, which without blanks at its ends is an identifier
abbrev pub is_lone_identifier : List Node → Bool
is_lone_identifier (node ∷ []) = names_identifier (option_map trimmed (text_in node))
is_lone_identifier _ = false

-- The rows, each a test of the root.
abbrev pub meets_V01 : Element → Bool
meets_V01 root = same root.space packet_namespace && same root.local (codes "VOEvent")

abbrev pub meets_V02 : Element → Bool
meets_V02 root = has_value (codes "2.0") (attribute_of root (codes "version"))

abbrev pub meets_V03 : Element → Bool
meets_V03 root = names_identifier (attribute_of root (codes "ivorn"))

abbrev pub meets_V04 : Element → Bool
meets_V04 root = has_role (attribute_of root (codes "role"))

abbrev pub meets_V05 : Element → Bool
meets_V05 root = stands_at_most_once root (codes "Who")

abbrev pub meets_V06 : Element → Bool
meets_V06 root = stands_at_most_once root (codes "What")

abbrev pub meets_V07 : Element → Bool
meets_V07 root = stands_at_most_once root (codes "WhereWhen")

abbrev pub meets_V08 : Element → Bool
meets_V08 root = stands_at_most_once root (codes "How")

abbrev pub meets_V09 : Element → Bool
meets_V09 root = stands_at_most_once root (codes "Why")

abbrev pub meets_V10 : Element → Bool
meets_V10 root = stands_at_most_once root (codes "Citations")

abbrev pub meets_V11 : Element → Bool
meets_V11 root = list_all (λ e. has_kind (attribute_of e (codes "cite"))) (citations_of root)

abbrev pub meets_V12 : Element → Bool
meets_V12 root = list_all (λ e. is_lone_identifier e.children) (citations_of root)

-- the rows in the order of their numbers
abbrev pub rows : List (Element → Bool)
rows = meets_V01 ∷ meets_V02 ∷ meets_V03 ∷ meets_V04 ∷ meets_V05 ∷ meets_V06
    ∷ meets_V07 ∷ meets_V08 ∷ meets_V09 ∷ meets_V10 ∷ meets_V11 ∷ meets_V12 ∷ []

-- the tree of that root is a valid packet
abbrev pub is_valid : Element → Bool
is_valid root = list_all (λ row. row root) rows

-- the number of the least broken row, if there is one
abbrev pub least_broken_in : ℕ → List Bool → Option ℕ
least_broken_in number [] = None
least_broken_in number (true ∷ more) = least_broken_in (1 + number) more
least_broken_in number (false ∷ more) = Some number

abbrev pub least_broken_row : Element → Option ℕ
least_broken_row root = least_broken_in 1 (map (λ row. row root) rows)
