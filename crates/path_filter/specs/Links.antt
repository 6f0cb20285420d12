-- The filters of a node's links.
use Rattle.std.specs.Prelude.{◌≡◌, ◌≢◌, ◌<◌, ◌↔◌, ℕ, ◌+◌, Bool, IsTrue, cond, List, [], ◌∷◌, length, slice_get, Some}
use Rattle.xml_lexer.specs.Characters.{Text}
use Rattle.voe_tree.specs.declared.element.Element.{Element}
use Rattle.net_model.specs.Rules.{NodeRules}
use Rattle.node_notes.specs.declared.config.LinkConfig.{LinkConfig}
use Rattle.path_filter.specs.Sets.{AreRead, BytesPass, Filters, RefusesSet, SetPasses}
use Rattle.path_filter.specs.declared.set_fault.SetFault.{SetFault}
use Rattle.path_filter.specs.declared.set_fault.SetFault.TheVariants.{NoMemory}

-- each set is what the filters of its link spell
abbrev pub AreOf : List Filters → List LinkConfig → Type 0
AreOf [] [] = Unit {0}
AreOf (set ∷ sets) (link ∷ links) = AreRead set link.filters × AreOf sets links
AreOf _ _ = ⊥

-- all filters read
abbrev pub AreReadable : List LinkConfig → Type 0
AreReadable links = (sets : List Filters) × AreOf sets links

-- a filter of some link is refused
abbrev pub HasRefused : List LinkConfig → Type 0
HasRefused links = (at : ℕ) × (link : LinkConfig) × (slice_get links at ≡ Some link)
    × (fault : SetFault) × RefusesSet link.filters fault × (fault ≢ NoMemory)

-- the filters of the link of this number pass the packet of these bytes
abbrev pub LinkPasses : List LinkConfig → ℕ → Text → Type 0
LinkPasses links number packet = (link : LinkConfig) × (slice_get links number ≡ Some link)
    × (set : Filters) × AreRead set link.filters × BytesPass set packet

-- the rules pass the packet over exactly those links whose filters do
abbrev pub PassesLinks : List LinkConfig → Text → NodeRules → Type 0
PassesLinks links packet rules = (number : ℕ) → number < length links → IsTrue (rules.passes number packet) ↔ LinkPasses links number packet

-- of each set, whether it passes the tree
abbrev pub AreDecided : List Bool → List Filters → Element → Type 0
AreDecided [] [] root = Unit {0}
AreDecided (bit ∷ bits) (set ∷ sets) root = (IsTrue bit ↔ SetPasses set root) × AreDecided bits sets root
AreDecided _ _ root = ⊥

-- the numbers of those that pass, from a number on
abbrev pub numbers_of : ℕ → List Bool → List ℕ
numbers_of number [] = []
numbers_of number (bit ∷ bits) = cond bit (number ∷ numbers_of (number + 1) bits) (numbers_of (number + 1) bits)

-- the numbers of the links that pass the tree
abbrev pub ArePassing : List ℕ → List Filters → Element → Type 0
ArePassing numbers sets root = (bits : List Bool) × AreDecided bits sets root × (numbers ≡ numbers_of 0 bits)
