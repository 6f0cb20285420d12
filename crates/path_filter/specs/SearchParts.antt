-- What the parts of a search give.
use Rattle.std.specs.Prelude.{◌≡◌, ◌≢◌, ℕ, suc, ◌<◌, ◌≤◌, ◌⊎◌, List, length}
use Rattle.voe_tree.specs.declared.element.Element.{Element}
use Rattle.filter_text.specs.Filter.{Text, descendant, element, attribute, Steps, step, Path}
use Rattle.path_filter.specs.Meaning.{MeetsName, Related}
use Rattle.path_filter.specs.Search.{OneOf, Finds, PathFinds, Each, after, Strings}
use Rattle.filter_text.specs.View.{steps_of}
use Rattle.path_filter.specs.Wanted.{Suits}
use Rattle.path_filter.specs.declared.wanted.Wanted.{Wanted}
use Rattle.filter_text.specs.declared.filter.Step.{Step}
use Rattle.filter_text.specs.Filter.{Operand, Comparison}

-- the first step goes to this element
abbrev pub Goes : Steps → Element → Element → Type 0
Goes (step axis element test cs ss) root e = MeetsName test e.space e.local × Each cs root e
Goes ss root e = ⊥

-- the first step goes on from the children too
abbrev pub Stays : Steps → Type 0
Stays (step descendant part test cs ss) = Unit {0}
Stays ss = ⊥

-- the first step finds this string at an attribute of the element itself
abbrev pub FindsOwn : Steps → Element → Text → Type 0
FindsOwn (step axis attribute test cs ss) e s = OneOf (λ a. MeetsName test a.space a.local × (s ≡ a.value)) e.attributes
FindsOwn ss e s = ⊥

abbrev pub FindsWanted : Steps → Element → Element → Wanted → Type 0
FindsWanted ss root e w = (s : Text) × Finds ss root e s × Suits w root s

-- from some position a wanted string is found
abbrev pub SearchFinds : List Step → (ℕ → Type 0) → Element → Element → Wanted → Type 0
SearchFinds ss Reached root e w = (i : ℕ) × Reached i × (i ≤ length ss) × FindsWanted (after i (steps_of ss)) root e w

-- the positions that are reached at a child, from those of its parent, by steps that stay, and those below `n` that go to it
abbrev pub NextBelow : ℕ → List Step → (ℕ → Type 0) → Element → Element → ℕ → Type 0
NextBelow n ss Reached root e j =
    ((i : ℕ) × Reached i × (i < n) × (j ≡ suc i) × Goes (after i (steps_of ss)) root e)
    ⊎ (Reached j × (j < length ss) × Stays (after j (steps_of ss)))

abbrev pub Next : List Step → (ℕ → Type 0) → Element → Element → ℕ → Type 0
Next ss = NextBelow (length ss) ss

abbrev pub PathFindsWanted : Path → Element → Element → Wanted → Type 0
PathFindsWanted way root e w = (s : Text) × PathFinds way root e s × Suits w root s

-- a string of the one path differs from a string of the other
abbrev pub PathsDiffer : Path → Path → Element → Element → Type 0
PathsDiffer one other root e = (s : Text) × (t : Text) × PathFinds one root e s × PathFinds other root e t × (s ≢ t)

abbrev pub OwnAttribute : Steps → Element → Element → Wanted → Type 0
OwnAttribute ss root e w = (s : Text) × FindsOwn ss e s × Suits w root s

-- an attribute of the element itself is wanted
abbrev pub OwnFinds : List Step → (ℕ → Type 0) → Element → Element → Wanted → Type 0
OwnFinds ss Reached root e w =
    (i : ℕ) × Reached i × (i < length ss) × OwnAttribute (after i (steps_of ss)) root e w

-- a string of the operand is so related to this one
abbrev pub Relates : Operand → Comparison → Text → Element → Element → Type 0
Relates operand how s root e = (t : Text) × Strings operand root e t × Related how s t
