-- What a search finds from an element: at the element itself, or below one of its children.
use Rattle.std.proofs.Common.{◌≡◌, ◌⊎◌, inl, inr, ℕ, zero, suc, List, [], ◌∷◌, Some, refl, sym, ◌∙◌, ap, subst}
use Rattle.std.specs.List.{slice_get}
use Rattle.std.specs.Option.{option_and_then}
use Rattle.std.proofs.lemmas.Option.{option_and_then_some}
use Rattle.voe_tree.specs.declared.element.Element.{Element}
use Rattle.filter_text.specs.Filter.{Text, child, descendant, element, attribute, Steps, arrived, step}
use Rattle.voe_tree.specs.Contents.{elements_in}
use Rattle.path_filter.specs.Places.{element_below}
use Rattle.path_filter.specs.Meaning.{MeetsName}
use Rattle.path_filter.specs.Search.{OneOf, Finds, Each, after}
use Rattle.path_filter.specs.SearchParts.{Goes, Stays, FindsOwn}

pub one-at : {X : Type 0} (P : X → Type 0) (xs : List X) (k : ℕ) (x : X) → slice_get xs k ≡ Some x → P x → OneOf P xs
one-at P [] k x at p = absurd (let bad : ⊥ = cc in bad)
one-at P (y ∷ ys) zero x at p = inl (let same : y ≡ x = cc in subst P (sym same) p)
one-at P (y ∷ ys) (suc k) x at p = inr (one-at P ys k x at p)

-- the item that has the property
pub one-found : {X : Type 0} (P : X → Type 0) (xs : List X) → OneOf P xs → (k : ℕ) × (x : X) × (slice_get xs k ≡ Some x) × P x
one-found P [] none = absurd none
one-found P (y ∷ ys) (inl p) = (zero, y, refl, p)
one-found P (y ∷ ys) (inr more) = let rest = one-found P ys more in (suc rest.0, rest.1, rest.2, rest.3)

-- what the steps find below a child
abbrev pub FindsBelow : Steps → Element → Text → Element → Type 0
FindsBelow ss root s c = (Goes ss root c × Finds (after 1 ss) root c s) ⊎ (Stays ss × Finds ss root c s)

abbrev pub IsStep : Steps → Type 0
IsStep arrived = ⊥
IsStep _ = Unit {0}

pub first : (e c : Element) (k : ℕ) (more : List ℕ) → element_below e (k ∷ more) ≡ Some c → (d : Element) × (slice_get (elements_in e.children) k ≡ Some d) × (element_below d more ≡ Some c)
first e c k more at = option_and_then_some (λ d. element_below d more) (slice_get (elements_in e.children) k) c at (λ d here below. (d, here, below))

pub under : (e d c : Element) (k : ℕ) (more : List ℕ) → slice_get (elements_in e.children) k ≡ Some d → element_below d more ≡ Some c → element_below e (k ∷ more) ≡ Some c
under e d c k more here below = ap (λ o. option_and_then (λ x. element_below x more) o) here ∙ below

pub finds-in : (ss : Steps) (root e : Element) (s : Text) → IsStep ss → Finds ss root e s → FindsOwn ss e s ⊎ OneOf (FindsBelow ss root s) (elements_in e.children)
finds-in arrived root e s is f = absurd is
finds-in (step child element test cs ss) root e s is (ks, (k, one), c, at, meets, each, rest) =
    let there = subst (λ n. element_below e n ≡ Some c) one at in
    let d = first e c k [] there in
    let same : d.0 ≡ c = cc in
    inr (one-at _ _ k d.0 d.1 (inl (subst (λ x. (MeetsName test x.space x.local × Each cs root x) × Finds ss root x s) (sym same) ((meets, each), rest))))
finds-in (step descendant element test cs ss) root e s is (ks, (k, more, one), c, at, meets, each, rest) =
    let there = subst (λ n. element_below e n ≡ Some c) one at in
    let d = first e c k more there in
    inr (one-at _ _ k d.0 d.1 (below d.0 more d.2))
  where
    below : (d : Element) (more : List ℕ) → element_below d more ≡ Some c → FindsBelow (step descendant element test cs ss) root s d
    below d [] at = inl (let same : d ≡ c = cc in subst (λ x. (MeetsName test x.space x.local × Each cs root x) × Finds ss root x s) (sym same) ((meets, each), rest))
    below d (j ∷ others) at = inr (tt, (j ∷ others, (j, others, refl), c, at, meets, each, rest))
finds-in (step child attribute test cs ss) root e s is (ks, none, c, at, own) =
    inl (let there = subst (λ n. element_below e n ≡ Some c) none at in
    let same : e ≡ c = cc in
    subst (λ x. OneOf (λ a. MeetsName test a.space a.local × (s ≡ a.value)) x.attributes) (sym same) own)
finds-in (step descendant attribute test cs ss) root e s is ([], any, c, at, own) =
    inl (let same : e ≡ c = cc in
    subst (λ x. OneOf (λ a. MeetsName test a.space a.local × (s ≡ a.value)) x.attributes) (sym same) own)
finds-in (step descendant attribute test cs ss) root e s is (k ∷ more, any, c, at, own) =
    let d = first e c k more at in
    inr (one-at _ _ k d.0 d.1 (inr (tt, (more, tt, c, d.2, own))))

pub finds-own : (ss : Steps) (root e : Element) (s : Text) → FindsOwn ss e s → Finds ss root e s
finds-own arrived root e s f = absurd f
finds-own (step axis element test cs ss) root e s f = absurd f
finds-own (step child attribute test cs ss) root e s f = ([], refl, e, refl, f)
finds-own (step descendant attribute test cs ss) root e s f = ([], tt, e, refl, f)

pub finds-below : (ss : Steps) (root e : Element) (s : Text) (k : ℕ) (d : Element) → slice_get (elements_in e.children) k ≡ Some d → FindsBelow ss root s d → Finds ss root e s
finds-below arrived root e s k d here (inl b) = absurd b.0
finds-below arrived root e s k d here (inr b) = absurd b.0
finds-below (step child element test cs ss) root e s k d here (inl b) = (k ∷ [], (k, refl), d, under e d d k [] here refl, b.0.0, b.0.1, b.1)
finds-below (step descendant element test cs ss) root e s k d here (inl b) = (k ∷ [], (k, [], refl), d, under e d d k [] here refl, b.0.0, b.0.1, b.1)
finds-below (step axis attribute test cs ss) root e s k d here (inl b) = absurd b.0
finds-below (step child part test cs ss) root e s k d here (inr b) = absurd b.0
finds-below (step descendant element test cs ss) root e s k d here (inr (stays, (ks, (j, more, one), c, at, meets, each, rest))) =
    (k ∷ ks, (k, ks, refl), c, under e d c k ks here at, meets, each, rest)
finds-below (step descendant attribute test cs ss) root e s k d here (inr (stays, (ks, any, c, at, own))) =
    (k ∷ ks, tt, c, under e d c k ks here at, own)
