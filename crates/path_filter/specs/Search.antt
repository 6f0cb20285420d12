-- What a search for a path's strings looks for, from element to element.
use Rattle.std.specs.Prelude.{◌≡◌, ◌≢◌, ℕ, zero, suc, ◌⊎◌, true, false, List, [], ◌∷◌, Some}
use Rattle.voe_tree.specs.declared.element.Element.{Element}
use Rattle.filter_text.specs.Filter.{Text, element, attribute, Path, path, Steps, arrived, step, Condition, any_of, all_of, not_so, alone, compare, Conditions, no_more, more, Operand, found, literal, local_name}
use Rattle.voe_tree.specs.Contents.{string_of}
use Rattle.path_filter.specs.Places.{document, element_below}
use Rattle.path_filter.specs.Meaning.{MeetsName, Leads, Holder, Related}

-- one of the items has the property
abbrev pub OneOf : {X : Type 0} → (X → Type 0) → List X → Type 0
OneOf P [] = ⊥
OneOf P (x ∷ xs) = P x ⊎ OneOf P xs

abbrev mutual
  -- from the element `e` the steps find something with this string
  pub Finds : Steps → Element → Element → Text → Type 0
  Finds arrived root e s = s ≡ string_of e
  Finds (step axis element test cs ss) root e s =
      (ks : List ℕ) × Leads axis ks × (c : Element) × (element_below e ks ≡ Some c)
      × MeetsName test c.space c.local × Each cs root c × Finds ss root c s
  Finds (step axis attribute test cs ss) root e s =
      (ks : List ℕ) × Holder axis ks × (c : Element) × (element_below e ks ≡ Some c)
      × OneOf (λ a. MeetsName test a.space a.local × (s ≡ a.value)) c.attributes

  pub PathFinds : Path → Element → Element → Text → Type 0
  PathFinds (path true ss) root e s = Finds ss root (document root) s
  PathFinds (path false ss) root e s = Finds ss root e s

  pub Each : Conditions → Element → Element → Type 0
  Each no_more root e = Unit {0}
  Each (more c cs) root e = Is c root e × Each cs root e

  pub One : Conditions → Element → Element → Type 0
  One no_more root e = ⊥
  One (more c cs) root e = Is c root e ⊎ One cs root e

  -- the condition holds at the element
  pub Is : Condition → Element → Element → Type 0
  Is (any_of cs) root e = One cs root e
  Is (all_of cs) root e = Each cs root e
  Is (not_so c) root e = Is c root e → ⊥
  Is (alone o) root e = IsSo o root e
  Is (compare a how b) root e = (s : Text) × (t : Text) × Strings a root e s × Strings b root e t × Related how s t

  pub IsSo : Operand → Element → Element → Type 0
  IsSo (found way) root e = (s : Text) × PathFinds way root e s
  IsSo (literal text) root e = text ≢ []
  IsSo local_name root e = e.local ≢ []

  pub Strings : Operand → Element → Element → Text → Type 0
  Strings (found way) root e s = PathFinds way root e s
  Strings (literal text) root e s = s ≡ text
  Strings local_name root e s = s ≡ e.local

abbrev pub after : ℕ → Steps → Steps
after zero ss = ss
after (suc n) arrived = arrived
after (suc n) (step axis part test cs ss) = after n ss
