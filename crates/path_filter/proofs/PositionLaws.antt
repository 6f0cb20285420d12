-- Searches from positions in the steps of a path.
use Rattle.std.proofs.Common.{◌≡◌, ◌⊎◌, inl, inr, ℕ, zero, suc, ◌<◌, ◌≤◌, List, [], ◌∷◌, Some, None, refl, sym, ◌∙◌, ap, subst, arith, length}
use Rattle.std.specs.List.{slice_get}
use Rattle.voe_tree.specs.declared.element.Element.{Element}
use Rattle.voe_tree.specs.declared.element.Node.{Node, out-Node}
use Rattle.voe_tree.specs.declared.element.Node.TheViews.{out-roll-Node}
use Rattle.voe_tree.specs.declared.element.Node.TheOpen.{Node-F}
use Rattle.voe_tree.specs.declared.element.Node.TheVariants as tree
use Rattle.filter_text.specs.Filter.{Text, Steps, arrived, step}
use Rattle.std.specs.List.{cons_option}
use Rattle.voe_tree.specs.Contents.{element_in, elements_in, layer_element, string_of}
use Rattle.filter_text.specs.Size.{steps_in_steps}
use Rattle.filter_text.specs.View.{steps_of, front_of}
use Rattle.path_filter.specs.Search.{OneOf, Finds, after}
use Rattle.path_filter.specs.Wanted.{Suits}
use Rattle.path_filter.specs.SearchParts.{SearchFinds, OwnFinds, Next}
use Rattle.path_filter.specs.declared.wanted.Wanted.{Wanted}
use Rattle.filter_text.specs.declared.filter.Step.{Step}
use Rattle.path_filter.proofs.Views.{front-out}
use Rattle.path_filter.proofs.SearchLaws.{one-at, one-found, FindsBelow, IsStep, finds-in, finds-own, finds-below}

element_in-element : (e : Element) → element_in (tree.Element e) ≡ Some e
element_in-element e = ap layer_element (ap out-Node (sym (tree.rolls-Element e)) ∙ out-roll-Node (Node-F.Element e))

element_in-text : (t : Text) → element_in (tree.Text t) ≡ None
element_in-text t = ap layer_element (ap out-Node (sym (tree.rolls-Text t)) ∙ out-roll-Node (Node-F.Text t))

pub elements_in-element : (c : Element) (ns : List Node) → elements_in (tree.Element c ∷ ns) ≡ c ∷ elements_in ns
elements_in-element c ns = ap (λ o. cons_option o (elements_in ns)) (element_in-element c)

pub elements_in-text : (t : Text) (ns : List Node) → elements_in (tree.Text t ∷ ns) ≡ elements_in ns
elements_in-text t ns = ap (λ o. cons_option o (elements_in ns)) (element_in-text t)

after-front : (x : Step) (n : ℕ) (rest : Steps) → after (suc n) (front_of x rest) ≡ after n rest
after-front x n rest = ap (λ f. after (suc n) (f rest)) (front-out x)

pub after-at : (ss : List Step) (i : ℕ) (x : Step) → slice_get ss i ≡ Some x → after i (steps_of ss) ≡ front_of x (after (suc i) (steps_of ss))
after-at [] i x at = absurd (let bad : ⊥ = cc in bad)
after-at (y ∷ ss) zero x at =
    let same : y ≡ x = cc in
    subst (λ z. front_of y (steps_of ss) ≡ front_of z (after 1 (front_of y (steps_of ss)))) same (ap (front_of y) (sym (after-front y 0 (steps_of ss))))
after-at (y ∷ ss) (suc i) x at =
    after-front y i (steps_of ss) ∙ after-at ss i x at ∙ ap (front_of x) (sym (after-front y (suc i) (steps_of ss)))

pub after-end : (ss : List Step) → after (length ss) (steps_of ss) ≡ arrived
after-end [] = refl
after-end (x ∷ ss) = after-front x (length ss) (steps_of ss) ∙ after-end ss

pub after-one : (i : ℕ) (s : Steps) → after 1 (after i s) ≡ after (suc i) s
after-one zero s = refl
after-one (suc i) arrived = refl
after-one (suc i) (step axis part test cs ss) = after-one i ss

pub is_step : (ss : List Step) (i : ℕ) → i < length ss → IsStep (after i (steps_of ss))
is_step [] i lt = absurd (omega (arith, lt))
is_step (x ∷ ss) zero lt = subst (λ f. IsStep (f (steps_of ss))) (sym (front-out x)) tt
is_step (x ∷ ss) (suc i) lt = subst IsStep (sym (after-front x i (steps_of ss))) (is_step ss i (omega (arith, lt)))

-- a path's own steps are among those that stand in it
pub fewer : (ss : List Step) → length ss ≤ steps_in_steps (steps_of ss)
fewer [] = omega arith
fewer (x ∷ ss) = subst (λ f. suc (length ss) ≤ steps_in_steps (f (steps_of ss))) (sym (front-out x)) (omega (arith, fewer ss))

cases-le : (i n : ℕ) → i ≤ n → (i ≡ n) ⊎ (i < n)
cases-le i n le = grind arith

-- what is found: at the element, at an attribute of it, or from a child
abbrev pub Sources : List Step → (ℕ → Type 0) → Element → Element → Wanted → Type 0
Sources ss Reached root e w =
    (Reached (length ss) × Suits w root (string_of e))
    ⊎ (OwnFinds ss Reached root e w ⊎ OneOf (λ c. SearchFinds ss (Next ss Reached root c) root c w) (elements_in e.children))

pub search-in : (ss : List Step) (Reached : ℕ → Type 0) (root e : Element) (w : Wanted) → SearchFinds ss Reached root e w → Sources ss Reached root e w
search-in ss Reached root e w (i, reached, le, (s, finds, suits)) =
    elim (cases-le i (length ss) le) [
      | inl same ↦
          inl (
            subst Reached same reached,
            (let arrives = subst (λ x. Finds x root e s) (ap (λ n. after n (steps_of ss)) same ∙ after-end ss) finds in
                subst (Suits w root) arrives suits),
          )
      | inr lt ↦
          (elim (finds-in (after i (steps_of ss)) root e s (is_step ss i lt) finds) [
            | inl own ↦ inr (inl (i, reached, lt, (s, own, suits)))
            | inr below ↦
                (let b = one-found _ _ below in
                inr (inr (one-at _ _ b.0 b.1 b.2 (from b.1 b.3 lt))))
          ])
    ]
  where
    from : (c : Element) → FindsBelow (after i (steps_of ss)) root s c → i < length ss → SearchFinds ss (Next ss Reached root c) root c w
    from c (inl b) lt = (suc i, inl (i, reached, lt, refl, b.0), omega (arith, lt), (s, subst (λ x. Finds x root c s) (after-one i (steps_of ss)) b.1, suits))
    from c (inr b) lt = (i, inr (reached, lt, b.0), le, (s, b.1, suits))

pub search-here : (ss : List Step) (Reached : ℕ → Type 0) (root e : Element) (w : Wanted) → Reached (length ss) → Suits w root (string_of e) → SearchFinds ss Reached root e w
search-here ss Reached root e w reached suits = (length ss, reached, omega arith, (string_of e, subst (λ x. Finds x root e (string_of e)) (sym (after-end ss)) refl, suits))

pub search-own : (ss : List Step) (Reached : ℕ → Type 0) (root e : Element) (w : Wanted) → OwnFinds ss Reached root e w → SearchFinds ss Reached root e w
search-own ss Reached root e w (i, reached, lt, (s, own, suits)) = (i, reached, omega (arith, lt), (s, finds-own (after i (steps_of ss)) root e s own, suits))

pub search-child : (ss : List Step) (Reached : ℕ → Type 0) (root e : Element) (w : Wanted) (k : ℕ) (c : Element) → slice_get (elements_in e.children) k ≡ Some c → SearchFinds ss (Next ss Reached root c) root c w → SearchFinds ss Reached root e w
search-child ss Reached root e w k c here (j, inl (i, reached, lt, one, goes), le, (s, finds, suits)) = (
  i,
  reached,
  omega (arith, lt),
  (
    s,
    finds-below (after i (steps_of ss)) root e s k c here (inl (goes, subst (λ x. Finds x root c s) (ap (λ n. after n (steps_of ss)) one ∙ sym (after-one i (steps_of ss))) finds)),
    suits,
  ),
)
search-child ss Reached root e w k c here (j, inr (reached, lt, stays), le, (s, finds, suits)) =
    (j, reached, omega (arith, lt), (s, finds-below (after j (steps_of ss)) root e s k c here (inr (stays, finds)), suits))

-- From a child on, in the order of the nodes.
pub search-children : (ss : List Step) (Reached : ℕ → Type 0) (root e : Element) (w : Wanted) → OneOf (λ c. SearchFinds ss (Next ss Reached root c) root c w) (elements_in e.children) → SearchFinds ss Reached root e w
search-children ss Reached root e w one = let b = one-found _ _ one in search-child ss Reached root e w b.0 b.1 b.2 b.3
