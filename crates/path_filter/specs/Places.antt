-- Places of a document, and what stands there.
use Rattle.std.specs.Prelude.{ℕ, List, [], ◌∷◌, slice_get, Option, Some, option_map, option_and_then}
use Rattle.voe_tree.specs.Contents.{elements_in, string_of}
use Rattle.voe_tree.specs.declared.element.Attribute.{Attribute}
use Rattle.voe_tree.specs.declared.element.Element.{Element}
use Rattle.voe_tree.specs.declared.element.Node.TheVariants as tree
use Rattle.filter_text.specs.Filter.{Text}

-- An element is placed by child numbers of elements, from the document on: nothing leads to the document, and 0 to the root.
-- An attribute is placed by its element and its number there.
pub data Place : Type 0 where
  element : List ℕ → Place
  attribute : List ℕ → ℕ → Place

-- the element to which these numbers lead from this one
abbrev pub element_below : Element → List ℕ → Option Element
element_below e [] = Some e
element_below e (k ∷ ks) = option_and_then (λ c. element_below c ks) (slice_get (elements_in e.children) k)

-- the document, as an element without a name whose only child is the root
abbrev pub document : Element → Element
document root = record { space = []; local = []; attributes = []; children = tree.Element root ∷ [] }

abbrev pub element_at : Element → List ℕ → Option Element
element_at root p = element_below (document root) p

abbrev pub attribute_at : Element → List ℕ → ℕ → Option Attribute
attribute_at root p k = option_and_then (λ e. slice_get e.attributes k) (element_at root p)

-- the string value of a place (XPath 1.0, section 5)
abbrev pub string_value : Element → Place → Option Text
string_value root (element p) = option_map string_of (element_at root p)
string_value root (attribute p k) = option_map (λ a. a.value) (attribute_at root p k)
