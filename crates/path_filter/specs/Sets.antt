-- Sets of filters: what they pass, and which texts they come from.
use Rattle.std.specs.Prelude.{◌≡◌, ◌≢◌, ◌≤◌, ◌<◌, ◌⊎◌, ℕ, List, [], ◌∷◌, Option, Some, None, length, map, option_map, slice_get, take}
use Rattle.xml_lexer.specs.Characters.{Text}
use Rattle.voe_tree.specs.declared.element.Element.{Element}
use Rattle.voe_tree.specs.Document.{Spells}
use Rattle.filter_text.specs.Filter as filter
use Rattle.filter_text.specs.View.{path_of}
use Rattle.filter_text.specs.Reading.{Reads}
use Rattle.filter_text.specs.Refusal.{Refuses}
use Rattle.filter_text.specs.declared.filter.Path.{Path}
use Rattle.filter_text.specs.declared.fault.FilterFault.{FilterFault}
use Rattle.filter_text.specs.declared.fault.FilterFault.TheVariants as faults
use Rattle.path_filter.specs.Meaning.{Passes}
use Rattle.path_filter.specs.declared.set_fault.SetFault.{SetFault}
use Rattle.path_filter.specs.declared.set_fault.SetFault.TheVariants.{Refused, TooMany, NoMemory}

abbrev pub max_filters : ℕ
max_filters = 16

-- A set is the list of its filters. A text that was refused stands as nothing.
abbrev pub Filters : Type 0
Filters = List (Option Path)

-- one of the filters passes the tree
abbrev pub OnePasses : Filters → Element → Type 0
OnePasses [] root = ⊥
OnePasses (None ∷ fs) root = OnePasses fs root
OnePasses (Some f ∷ fs) root = Passes (path_of f) root ⊎ OnePasses fs root

-- No filter passes every tree, and several pass where one does.
abbrev pub SetPasses : Filters → Element → Type 0
SetPasses [] root = Unit {0}
SetPasses (f ∷ fs) root = OnePasses (f ∷ fs) root

-- The bytes spell a tree that the set passes. Bytes that spell none are passed by no set.
abbrev pub BytesPass : Filters → Text → Type 0
BytesPass fs bytes = (root : Element) × Spells root bytes × SetPasses fs root

-- the filters as data
abbrev pub data_of : Filters → List (Option filter.Path)
data_of fs = map (option_map path_of) fs

-- each filter is what its text spells, in order
abbrev pub AreRead : Filters → List Text → Type 0
AreRead [] [] = Unit {0}
AreRead (Some f ∷ fs) (s ∷ texts) = Reads (path_of f) s × AreRead fs texts
AreRead _ _ = ⊥

-- the text is refused
abbrev pub IsRefused : Text → Type 0
IsRefused s = (fault : FilterFault) × Refuses s fault × (fault ≢ faults.NoMemory)

-- the same, where a text that is refused stands as nothing
abbrev pub AreReadLeniently : Filters → List Text → Type 0
AreReadLeniently [] [] = Unit {0}
AreReadLeniently (Some f ∷ fs) (s ∷ texts) = Reads (path_of f) s × AreReadLeniently fs texts
AreReadLeniently (None ∷ fs) (s ∷ texts) = IsRefused s × AreReadLeniently fs texts
AreReadLeniently _ _ = ⊥

-- Why texts are no set. Too many are told first, and then the first text that is refused.
abbrev pub RefusesSet : List Text → SetFault → Type 0
RefusesSet texts TooMany = max_filters < length texts
RefusesSet texts (Refused at fault) =
    (length texts ≤ max_filters) × (fs : Filters) × AreRead fs (take at texts)
    × (s : Text) × (slice_get texts at ≡ Some s) × Refuses s fault × (fault ≢ faults.NoMemory)
RefusesSet texts NoMemory = length texts ≤ max_filters
