-- The thread of an identifier: the least set that holds it and is closed under the citations, in both directions.
use Rattle.std.specs.Prelude.{◌≡◌, ℕ, zero, suc, ◌⊎◌, ◌↔◌, Bool, false, not, List, [], ◌∷◌, ◌++◌, All, Contains, IsPermutation, Some, drop, filter, if◌then◌else◌, slice_get, take}
use Rattle.std.specs.List.{AllZip}
use Rattle.std.specs.Str.{bytes_eq}
use Rattle.std.specs.Ordering.{nat_cmp}
use Rattle.std.specs.Cmp.Lexicographic.{slice_cmp}
use Rattle.std.specs.declared.cmp.Ordering.TheVariants.{Less}
use Rattle.cite_index.specs.declared.triple.Triple.{Triple}
use Rattle.cite_index.specs.Cites.{Known}
use Rattle.cite_index.specs.Names.{is_in}

-- some citation has these two as its ends, in either direction
abbrev pub IsLinked : List Triple → List ℕ → List ℕ → Type 0
IsLinked cites a b = (t : Triple) × Contains cites t × (((t.citing ≡ a) × (t.cited ≡ b)) ⊎ ((t.citing ≡ b) × (t.cited ≡ a)))

-- a path of that many citations
abbrev pub Path : List Triple → List ℕ → List ℕ → ℕ → Type 0
Path cites a b zero = a ≡ b
Path cites a b (suc n) = (c : List ℕ) × Path cites a c n × IsLinked cites c b

-- in the thread
abbrev pub InThread : List Triple → List ℕ → List ℕ → Type 0
InThread cites i x = (n : ℕ) × Path cites i x n

-- Whether a set that a test tells is closed under the citations, in both directions.
abbrev pub IsClosed : List Triple → (List ℕ → Bool) → Type 0
IsClosed cites holds = (t : Triple) → Contains cites t → holds t.citing ≡ holds t.cited

-- ---- listed

-- each item once, where it stands first
abbrev pub firsts : List (List ℕ) → List (List ℕ)
firsts [] = []
firsts (x ∷ xs) = x ∷ filter (λ y. not (bytes_eq y x)) (firsts xs)

-- in byte order, each once
abbrev pub Ascends : List (List ℕ) → Type 0
Ascends [] = Unit {0}
Ascends (x ∷ xs) = All (λ y. slice_cmp nat_cmp x y ≡ Less) xs × Ascends xs

-- The list has the thread's identifiers: the added ones in the order of adding, then the others in byte order.
abbrev pub ListsThread : Known → List ℕ → List (List ℕ) → Type 0
ListsThread k i listed =
    ((x : List ℕ) → Contains listed x ↔ InThread k.cites i x)
    × ((others : List (List ℕ)) × (listed ≡ filter (is_in listed) (firsts k.added) ++ others) × Ascends others × All (λ x. is_in k.added x ≡ false) others)

-- what is known where these were added and have these citations
abbrev pub known : List (List ℕ) → List Triple → Known
known added cites = record { added = added; cites = cites }

-- ---- found

abbrev pub IsFront : List (List ℕ) → List (List ℕ) → Type 0
IsFront old new = (more : List (List ℕ)) × (new ≡ old ++ more)

-- the numbers of a citation's ends
abbrev pub IsEdge : List (List ℕ) → Triple → ℕ × ℕ → Type 0
IsEdge names t e = (slice_get names e.0 ≡ Some t.citing) × (slice_get names e.1 ≡ Some t.cited)

-- of each citation in order
abbrev pub AreEdges : List (List ℕ) → List Triple → List (ℕ × ℕ) → Type 0
AreEdges names cites edges = AllZip (IsEdge names) cites edges

-- the names that have a mark
abbrev pub picked : List (List ℕ) → List Bool → List (List ℕ)
picked [] marks = []
picked (name ∷ names) [] = []
picked (name ∷ names) (mark ∷ marks) = if mark then name ∷ picked names marks else picked names marks

-- The marked names, first those of the first so many in their order, then the others in byte order.
abbrev pub IsListed : List (List ℕ) → List Bool → ℕ → List (List ℕ) → Type 0
IsListed names marks count listed =
    (others : List (List ℕ)) × (listed ≡ picked (take count names) (take count marks) ++ others) × IsPermutation (picked (drop count names) (drop count marks)) others × Ascends others
