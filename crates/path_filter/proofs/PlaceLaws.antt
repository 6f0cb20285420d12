-- What a path finds from an element is what stands at the places that it names from the element's place.
use Rattle.std.proofs.Common.{◌≡◌, inl, inr, true, false, ℕ, List, [], ◌∷◌, ◌++◌, Option, Some, None, refl, sym, ◌∙◌, ap, subst}
use Rattle.std.specs.List.{slice_get}
use Rattle.std.specs.Option.{option_and_then, option_map}
use Rattle.voe_tree.specs.declared.element.Element.{Element}
use Rattle.filter_text.specs.Filter.{Text, element, attribute, Path, path, Steps, arrived, step, Condition, any_of, all_of, not_so, alone, compare, Conditions, no_more, more, Operand, found, literal, local_name}
use Rattle.voe_tree.specs.Contents.{elements_in, string_of}
use Rattle.path_filter.specs.Places.{Place, document, element_below, element_at, attribute_at, string_value}
use Rattle.path_filter.specs.Places as place
use Rattle.path_filter.specs.Meaning.{AtPath, At, AllHold, SomeHolds, Holds, Stands, IsString, Passes}
use Rattle.path_filter.specs.Search.{Finds, PathFinds, Each, One, Is, IsSo, Strings}
use Rattle.path_filter.proofs.SearchLaws.{one-at, one-found}

below-append : (x : Element) (p ks : List ℕ) → element_below x (p ++ ks) ≡ option_and_then (λ e. element_below e ks) (element_below x p)
below-append x [] ks = refl
below-append x (k ∷ p) ks = into (λ c. below-append c p ks) (slice_get (elements_in x.children) k)
  where
    into : ((c : Element) → element_below c (p ++ ks) ≡ option_and_then (λ e. element_below e ks) (element_below c p)) → (o : Option Element) → option_and_then (λ c. element_below c (p ++ ks)) o ≡ option_and_then (λ e. element_below e ks) (option_and_then (λ c. element_below c p) o)
    into deeper None = refl
    into deeper (Some c) = deeper c

further : (root e : Element) (p ks : List ℕ) → element_at root p ≡ Some e → element_at root (p ++ ks) ≡ element_below e ks
further root e p ks at = below-append (document root) p ks ∙ ap (option_and_then (λ x. element_below x ks)) at

pub same_some : {A : Type 0} (o : Option A) (a b : A) → o ≡ Some a → o ≡ Some b → a ≡ b
same_some o a b x y = let both : Some a ≡ Some b = sym x ∙ y in cc

abbrev Named : Place → Element → Text → Type 0
Named q root s = string_value root q ≡ Some s

mutual
  path-forth : (w : Path) (root e : Element) (p : List ℕ) (q : Place) → element_at root p ≡ Some e → AtPath w root p q → (s : Text) × Named q root s × PathFinds w root e s
  path-forth (path true ss) root e p q at a = forth ss root (document root) [] q refl a
  path-forth (path false ss) root e p q at a = forth ss root e p q at a

  path-back : (w : Path) (root e : Element) (p : List ℕ) (s : Text) → element_at root p ≡ Some e → PathFinds w root e s → (q : Place) × AtPath w root p q × Named q root s
  path-back (path true ss) root e p s at f = back ss root (document root) [] s refl f
  path-back (path false ss) root e p s at f = back ss root e p s at f

  forth : (ss : Steps) (root e : Element) (p : List ℕ) (q : Place) → element_at root p ≡ Some e → At ss root p q → (s : Text) × Named q root s × Finds ss root e s
  forth arrived root e p q at is = (string_of e, subst (λ x. Named x root (string_of e)) (sym is) (ap (option_map string_of) at), refl)
  forth (step axis element test cs ss) root e p q at (ks, leads, c, there, meets, each, rest) =
      let deeper = forth ss root c (p ++ ks) q there rest in
      (deeper.0, deeper.1, (ks, leads, c, sym (further root e p ks at) ∙ there, meets, each-forth cs root c (p ++ ks) there each, deeper.2))
  forth (step axis attribute test cs ss) root e p q at (ks, holder, k, is, a, there, meets) =
      own (element_below e ks) refl (sym (ap (λ o. option_and_then (λ x. slice_get x.attributes k) o) (further root e p ks at)) ∙ there)
    where
      own : (o : Option Element) → element_below e ks ≡ o → option_and_then (λ x. slice_get x.attributes k) o ≡ Some a → (s : Text) × Named q root s × Finds (step axis attribute test cs ss) root e s
      own None below none = absurd (let bad : ⊥ = cc in bad)
      own (Some c) below has =
          (a.value, subst (λ x. Named x root a.value) (sym is) (ap (option_map (λ x. x.value)) there), (ks, holder, c, below, one-at _ _ k a has (meets, refl)))

  back : (ss : Steps) (root e : Element) (p : List ℕ) (s : Text) → element_at root p ≡ Some e → Finds ss root e s → (q : Place) × At ss root p q × Named q root s
  back arrived root e p s at is = (place.element p, refl, ap (option_map string_of) at ∙ ap Some (sym is))
  back (step axis element test cs ss) root e p s at (ks, leads, c, below, meets, each, rest) =
      let there = further root e p ks at ∙ below in
      let deeper = back ss root c (p ++ ks) s there rest in
      (deeper.0, (ks, leads, c, there, meets, each-back cs root c (p ++ ks) there each, deeper.1), deeper.2)
  back (step axis attribute test cs ss) root e p s at (ks, holder, c, below, one) =
      let a = one-found _ _ one in
      let there = ap (λ o. option_and_then (λ x. slice_get x.attributes a.0) o) (further root e p ks at ∙ below) ∙ a.2 in
      (place.attribute (p ++ ks) a.0, (ks, holder, a.0, refl, a.1, there, a.3.0), ap (option_map (λ x. x.value)) there ∙ ap Some (sym a.3.1))

  each-forth : (cs : Conditions) (root e : Element) (p : List ℕ) → element_at root p ≡ Some e → AllHold cs root p → Each cs root e
  each-forth no_more root e p at all = tt
  each-forth (more c cs) root e p at all = (is-forth c root e p at all.0, each-forth cs root e p at all.1)

  each-back : (cs : Conditions) (root e : Element) (p : List ℕ) → element_at root p ≡ Some e → Each cs root e → AllHold cs root p
  each-back no_more root e p at all = tt
  each-back (more c cs) root e p at all = (is-back c root e p at all.0, each-back cs root e p at all.1)

  one-forth : (cs : Conditions) (root e : Element) (p : List ℕ) → element_at root p ≡ Some e → SomeHolds cs root p → One cs root e
  one-forth no_more root e p at some = absurd some
  one-forth (more c cs) root e p at (inl h) = inl (is-forth c root e p at h)
  one-forth (more c cs) root e p at (inr h) = inr (one-forth cs root e p at h)

  one-back : (cs : Conditions) (root e : Element) (p : List ℕ) → element_at root p ≡ Some e → One cs root e → SomeHolds cs root p
  one-back no_more root e p at some = absurd some
  one-back (more c cs) root e p at (inl h) = inl (is-back c root e p at h)
  one-back (more c cs) root e p at (inr h) = inr (one-back cs root e p at h)

  is-forth : (c : Condition) (root e : Element) (p : List ℕ) → element_at root p ≡ Some e → Holds c root p → Is c root e
  is-forth (any_of cs) root e p at h = one-forth cs root e p at h
  is-forth (all_of cs) root e p at h = each-forth cs root e p at h
  is-forth (not_so c) root e p at h = λ i. h (is-back c root e p at i)
  is-forth (alone o) root e p at h = so-forth o root e p at h
  is-forth (compare a how b) root e p at (s, t, left, right, related) = (s, t, strings-forth a root e p s at left, strings-forth b root e p t at right, related)

  is-back : (c : Condition) (root e : Element) (p : List ℕ) → element_at root p ≡ Some e → Is c root e → Holds c root p
  is-back (any_of cs) root e p at h = one-back cs root e p at h
  is-back (all_of cs) root e p at h = each-back cs root e p at h
  is-back (not_so c) root e p at h = λ i. h (is-forth c root e p at i)
  is-back (alone o) root e p at h = so-back o root e p at h
  is-back (compare a how b) root e p at (s, t, left, right, related) = (s, t, strings-back a root e p s at left, strings-back b root e p t at right, related)

  so-forth : (o : Operand) (root e : Element) (p : List ℕ) → element_at root p ≡ Some e → Stands o root p → IsSo o root e
  so-forth (found w) root e p at (q, a) = let f = path-forth w root e p q at a in (f.0, f.2)
  so-forth (literal text) root e p at h = h
  so-forth local_name root e p at (c, there, some) = subst (λ x. x.local ≡ [] → ⊥) (same_some (element_at root p) c e there at) some

  so-back : (o : Operand) (root e : Element) (p : List ℕ) → element_at root p ≡ Some e → IsSo o root e → Stands o root p
  so-back (found w) root e p at (s, f) = let b = path-back w root e p s at f in (b.0, b.1)
  so-back (literal text) root e p at h = h
  so-back local_name root e p at some = (e, at, some)

  strings-forth : (o : Operand) (root e : Element) (p : List ℕ) (s : Text) → element_at root p ≡ Some e → IsString o root p s → Strings o root e s
  strings-forth (found w) root e p s at (q, a, is) =
      let f = path-forth w root e p q at a in subst (PathFinds w root e) (same_some (string_value root q) f.0 s f.1 is) f.2
  strings-forth (literal text) root e p s at h = h
  strings-forth local_name root e p s at (c, there, is) = is ∙ ap (λ x. x.local) (same_some (element_at root p) c e there at)

  strings-back : (o : Operand) (root e : Element) (p : List ℕ) (s : Text) → element_at root p ≡ Some e → Strings o root e s → IsString o root p s
  strings-back (found w) root e p s at f = path-back w root e p s at f
  strings-back (literal text) root e p s at h = h
  strings-back local_name root e p s at is = (e, at, is)

-- A filter passes where its path, from the document, finds something.
pub passes-forth : (ss : Steps) (root : Element) → Passes (path true ss) root → (s : Text) × Finds ss root (document root) s
passes-forth ss root (q, a) = let f = forth ss root (document root) [] q refl a in (f.0, f.2)

pub passes-back : (ss : Steps) (root : Element) → (s : Text) × Finds ss root (document root) s → Passes (path true ss) root
passes-back ss root (s, f) = let b = back ss root (document root) [] s refl f in (b.0, b.1)
