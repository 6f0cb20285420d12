-- What a filter means: the places that a path names from a place, and the conditions that hold there.
use Rattle.std.specs.Prelude.{◌≡◌, ◌≢◌, ℕ, ◌⊎◌, true, false, List, [], ◌∷◌, ◌++◌, Some}
use Rattle.voe_tree.specs.declared.element.Element.{Element}
use Rattle.filter_text.specs.Filter.{Text, Axis, child, descendant, element, attribute, Test, any, name, Comparison, equal, differs, Path, path, Steps, arrived, step, Condition, any_of, all_of, not_so, alone, compare, Conditions, no_more, more, Operand, found, literal, local_name}
use Rattle.path_filter.specs.Places.{Place, element_at, attribute_at, string_value}
use Rattle.path_filter.specs.Places as place

-- A name meets that local name in no namespace.
abbrev pub MeetsName : Test → Text → Text → Type 0
MeetsName any space local = Unit {0}
MeetsName (name wanted) space local = (space ≡ []) × (local ≡ wanted)

-- where the axis leads by these child numbers
abbrev pub Leads : Axis → List ℕ → Type 0
Leads child ks = (k : ℕ) × (ks ≡ k ∷ [])
Leads descendant ks = (k : ℕ) × (more : List ℕ) × (ks ≡ k ∷ more)

-- Attributes are those of the place itself, or also those of all its descendants.
abbrev pub Holder : Axis → List ℕ → Type 0
Holder child ks = ks ≡ []
Holder descendant ks = Unit {0}

abbrev pub Related : Comparison → Text → Text → Type 0
Related equal a b = a ≡ b
Related differs a b = a ≢ b

abbrev mutual
  -- from the element at place p the path names place q
  pub AtPath : Path → Element → List ℕ → Place → Type 0
  AtPath (path true ss) root p q = At ss root [] q
  AtPath (path false ss) root p q = At ss root p q

  pub At : Steps → Element → List ℕ → Place → Type 0
  At arrived root p q = q ≡ place.element p
  At (step axis element test cs ss) root p q =
      (ks : List ℕ) × Leads axis ks × (e : Element) × (element_at root (p ++ ks) ≡ Some e)
      × MeetsName test e.space e.local × AllHold cs root (p ++ ks) × At ss root (p ++ ks) q
  At (step axis attribute test cs ss) root p q =
      (ks : List ℕ) × Holder axis ks × (k : ℕ) × (q ≡ place.attribute (p ++ ks) k)
      × (a : _) × (attribute_at root (p ++ ks) k ≡ Some a) × MeetsName test a.space a.local

  pub AllHold : Conditions → Element → List ℕ → Type 0
  AllHold no_more root p = Unit {0}
  AllHold (more c cs) root p = Holds c root p × AllHold cs root p

  pub SomeHolds : Conditions → Element → List ℕ → Type 0
  SomeHolds no_more root p = ⊥
  SomeHolds (more c cs) root p = Holds c root p ⊎ SomeHolds cs root p

  pub Holds : Condition → Element → List ℕ → Type 0
  Holds (any_of cs) root p = SomeHolds cs root p
  Holds (all_of cs) root p = AllHold cs root p
  Holds (not_so c) root p = Holds c root p → ⊥
  Holds (alone o) root p = Stands o root p
  Holds (compare a how b) root p = (s : Text) × (t : Text) × IsString a root p s × IsString b root p t × Related how s t

  -- a path that names a place, or a string that is not empty
  pub Stands : Operand → Element → List ℕ → Type 0
  Stands (found way) root p = (q : Place) × AtPath way root p q
  Stands (literal text) root p = text ≢ []
  Stands local_name root p = (e : Element) × (element_at root p ≡ Some e) × (e.local ≢ [])

  -- the strings of an operand
  pub IsString : Operand → Element → List ℕ → Text → Type 0
  IsString (found way) root p s = (q : Place) × AtPath way root p q × (string_value root q ≡ Some s)
  IsString (literal text) root p s = s ≡ text
  IsString local_name root p s = (e : Element) × (element_at root p ≡ Some e) × (s ≡ e.local)

-- A filter is a path from the document.
abbrev pub Passes : Path → Element → Type 0
Passes (path absolute ss) root = (q : Place) × At ss root [] q
