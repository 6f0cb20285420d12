-- The steps of an evaluation, over plain variables.
use Rattle.std.proofs.Common.{Bool, true, false, ◌≡◌, ◌⊎◌, ◌↔◌, inl, inr, IsTrue, ℕ, zero, suc, ◌<◌, ◌≤◌, ◌+◌, List, [], ◌∷◌, ◌++◌, Option, Some, None, refl, sym, ◌∙◌, ap, subst, arith, length, map, drop, take, get_or}
use Rattle.std.specs.List.{slice_get}
use Rattle.std.specs.Bool.{Decides, ◌==◌}
use Rattle.std.proofs.lemmas.Option.{slice_get_read}
use Rattle.voe_tree.specs.declared.element.Element.{Element}
use Rattle.voe_tree.specs.declared.element.Node.{Node}
use Rattle.voe_tree.specs.declared.element.Node.TheVariants as tree
use Rattle.filter_text.specs.Filter.{Text, Part, path, element, attribute, Steps, arrived, step}
use Rattle.std.specs.List.{cons_option}
use Rattle.voe_tree.specs.Contents.{element_in, elements_in}
use Rattle.voe_tree.specs.Shape.{depth}
use Rattle.path_filter.specs.Places.{document}
use Rattle.path_filter.specs.Meaning.{MeetsName}
use Rattle.filter_text.specs.View.{path_of, steps_of, front_of, axis_of, part_of, test_of, condition_of, conditions_of}
use Rattle.filter_text.specs.Size.{size_of_steps, size_of_conditions, steps_in_steps}
use Rattle.path_filter.specs.Search.{OneOf, after}
use Rattle.path_filter.specs.Wanted.{Suits}
use Rattle.path_filter.specs.SearchParts.{Goes, FindsOwn, SearchFinds, OwnAttribute, FindsWanted, Next, NextBelow, PathFindsWanted}
use Rattle.path_filter.specs.declared.wanted.Wanted.{Wanted}
use Rattle.filter_text.specs.declared.filter.Path.{Path as CodePath, out-Path}
use Rattle.filter_text.specs.declared.filter.Step.{Step}
use Rattle.path_filter.proofs.Ranks.{child_depth}
use Rattle.path_filter.proofs.Views.{front-out, path-out}
use Rattle.path_filter.proofs.SearchLaws.{one-at, one-found}
use Rattle.path_filter.proofs.PositionLaws.{search-in, search-children, elements_in-element, elements_in-text}

pub read : {X : Type 0} (xs : List X) (i : ℕ) (x : X) → i < length xs → x ≡ get_or xs i x → slice_get xs i ≡ Some x
read xs i x lt is = slice_get_read xs (length xs) i x refl lt is

-- a list from a place on
pub from-place : {X : Type 0} (xs : List X) (i : ℕ) (x : X) → slice_get xs i ≡ Some x → drop i xs ≡ x ∷ drop (i + 1) xs
from-place [] i x at = absurd (let bad : ⊥ = cc in bad)
from-place (y ∷ xs) zero x at = let same : y ≡ x = cc in ap (λ z. z ∷ xs) same
from-place (y ∷ xs) (suc i) x at = from-place xs i x at ∙ (let next : suc i + 1 ≡ suc (i + 1) = omega arith in ap (λ n. x ∷ drop n (y ∷ xs)) (sym next))

-- a list up to a place and one more
pub to-place : {X : Type 0} (xs : List X) (i : ℕ) (x : X) → slice_get xs i ≡ Some x → take (i + 1) xs ≡ take i xs ++ x ∷ []
to-place [] i x at = absurd (let bad : ⊥ = cc in bad)
to-place (y ∷ xs) zero x at = let same : y ≡ x = cc in ap (λ z. z ∷ []) same
to-place (y ∷ xs) (suc i) x at = (let next : suc i + 1 ≡ suc (i + 1) = omega arith in ap (λ n. take n (y ∷ xs)) next) ∙ ap (λ ys. y ∷ ys) (to-place xs i x at)

pub past-end : {X : Type 0} (xs : List X) (i : ℕ) → length xs ≤ i → drop i xs ≡ []
past-end [] zero le = refl
past-end [] (suc i) le = refl
past-end (x ∷ xs) zero le = absurd (omega (arith, le))
past-end (x ∷ xs) (suc i) le = past-end xs i (omega (arith, le))

pub one-next : {X : Type 0} (P : X → Type 0) (xs : List X) (i : ℕ) (x : X) → slice_get xs i ≡ Some x → (P x → ⊥) → OneOf P (drop i xs) → OneOf P (drop (i + 1) xs)
one-next P xs i x at not one = other (subst (OneOf P) (from-place xs i x at) one)
  where
    other : OneOf P (x ∷ drop (i + 1) xs) → OneOf P (drop (i + 1) xs)
    other (inl p) = absurd (not p)
    other (inr more) = more

pub one-past : {X : Type 0} (P : X → Type 0) (xs : List X) (i : ℕ) → length xs ≤ i → OneOf P (drop i xs) → ⊥
one-past P xs i le one = subst (OneOf P) (past-end xs i le) one

pub element-next : (P : Element → Type 0) (ns : List Node) (i : ℕ) (c : Element) → slice_get ns i ≡ Some (tree.Element c) → (P c → ⊥) → OneOf P (elements_in (drop i ns)) → OneOf P (elements_in (drop (i + 1) ns))
element-next P ns i c at not one = other (subst (OneOf P) (ap elements_in (from-place ns i (tree.Element c) at) ∙ elements_in-element c (drop (i + 1) ns)) one)
  where
    other : OneOf P (c ∷ elements_in (drop (i + 1) ns)) → OneOf P (elements_in (drop (i + 1) ns))
    other (inl p) = absurd (not p)
    other (inr more) = more

-- the first element from a place on, or a later one
pub element-split : (P : Element → Type 0) (ns : List Node) (i : ℕ) (c : Element) → slice_get ns i ≡ Some (tree.Element c) → OneOf P (elements_in (drop i ns)) → P c ⊎ OneOf P (elements_in (drop (i + 1) ns))
element-split P ns i c at one = subst (OneOf P) (ap elements_in (from-place ns i (tree.Element c) at) ∙ elements_in-element c (drop (i + 1) ns)) one

pub text-next : (P : Element → Type 0) (ns : List Node) (i : ℕ) (t : Text) → slice_get ns i ≡ Some (tree.Text t) → OneOf P (elements_in (drop i ns)) → OneOf P (elements_in (drop (i + 1) ns))
text-next P ns i t at one = subst (OneOf P) (ap elements_in (from-place ns i (tree.Text t) at) ∙ elements_in-text t (drop (i + 1) ns)) one

one-behind : {X : Type 0} (P : X → Type 0) (o : Option X) (ys : List X) → OneOf P ys → OneOf P (cons_option o ys)
one-behind P None ys one = one
one-behind P (Some x) ys one = inr one

pub element-one : (P : Element → Type 0) (ns : List Node) (i : ℕ) (c : Element) → slice_get ns i ≡ Some (tree.Element c) → P c → OneOf P (elements_in ns)
element-one P [] i c at p = absurd (let bad : ⊥ = cc in bad)
element-one P (n ∷ ns) zero c at p =
    let same : n ≡ tree.Element c = cc in
    subst (OneOf P) (sym (ap (λ x. elements_in (x ∷ ns)) same ∙ elements_in-element c ns)) (inl p)
element-one P (n ∷ ns) (suc i) c at p = one-behind P (element_in n) (elements_in ns) (element-one P ns i c at p)

pub search-same : (ss : List Step) (R T : ℕ → Type 0) (root e : Element) (w : Wanted) → ((j : ℕ) → R j → T j) → SearchFinds ss R root e w → SearchFinds ss T root e w
search-same ss R T root e w more (i, reached, le, found) = (i, more i reached, le, found)

-- the attributes of an element that a step names
abbrev pub Attributes : Step → Element → Element → Wanted → Type 0
Attributes x root e w = OneOf (λ a. MeetsName (test_of x.test) a.space a.local × Suits w root a.value) e.attributes

pub own-in : (x : Step) (rest : Steps) (root e : Element) (w : Wanted) → OwnAttribute (front_of x rest) root e w → (part_of x.part ≡ attribute) × Attributes x root e w
own-in x rest root e w (s, own, suits) = by (part_of x.part) (subst (λ f. FindsOwn (f rest) e s) (front-out x) own)
  where
    by : (part : Part) → FindsOwn (step (axis_of x.axis) part (test_of x.test) (conditions_of (map condition_of x.conditions)) rest) e s → (part ≡ attribute) × Attributes x root e w
    by element own = absurd own
    by attribute own = (refl, (let o = one-found _ _ own in one-at _ _ o.0 o.1 o.2 (o.3.0, subst (Suits w root) o.3.1 suits)))

pub own-out : (x : Step) (rest : Steps) (root e : Element) (w : Wanted) → part_of x.part ≡ attribute → Attributes x root e w → OwnAttribute (front_of x rest) root e w
own-out x rest root e w is one =
    let o = one-found _ _ one in
    (o.1.value, subst (λ f. FindsOwn (f rest) e o.1.value) (sym (front-out x)) (by o.1.value (part_of x.part) is (one-at _ _ o.0 o.1 o.2 (o.3.0, refl))), o.3.1)
  where
    by : (s : Text) (part : Part) → part ≡ attribute → OneOf (λ a. MeetsName (test_of x.test) a.space a.local × (s ≡ a.value)) e.attributes
        → FindsOwn (step (axis_of x.axis) part (test_of x.test) (conditions_of (map condition_of x.conditions)) rest) e s
    by s attribute is own = own
    by s element is own = absurd (let bad : ⊥ = cc in bad)

pub step-sizes : (ss : List Step) (i : ℕ) (x : Step) → slice_get ss i ≡ Some x
    → (size_of_conditions (conditions_of (map condition_of x.conditions)) + 1 < size_of_steps (steps_of ss)) × (steps_in_steps (front_of x arrived) ≤ steps_in_steps (steps_of ss))
step-sizes [] i x at = absurd (let bad : ⊥ = cc in bad)
step-sizes (y ∷ ss) zero x at =
    let same : y ≡ x = cc in
    let here = ap (λ f. size_of_steps (f (steps_of ss))) (ap front_of same ∙ front-out x) in
    let some = positive (steps_of ss) in
    let all = ap (λ f. steps_in_steps (f (steps_of ss))) (ap front_of same ∙ front-out x) in
    let alone = ap (λ f. steps_in_steps (f arrived)) (front-out x) in
    (omega (arith, here, some), omega (arith, all, alone))
  where
    positive : (s : Steps) → 0 < size_of_steps s
    positive arrived = omega arith
    positive (step axis part test cs s) = omega arith
step-sizes (y ∷ ss) (suc i) x at =
    let below = step-sizes ss i x at in
    let more = ap (λ f. size_of_steps (f (steps_of ss))) (front-out y) in
    let all = ap (λ f. steps_in_steps (f (steps_of ss))) (front-out y) in
    (omega (arith, below.0, more), omega (arith, below.1, all))

pub positive : (s : Steps) → 0 < size_of_steps s
positive arrived = omega arith
positive (step axis part test cs s) = omega arith

-- an added position, where a fact holds, and none where it does not
pub added : (Old New : ℕ → Type 0) (at : ℕ) (P : Type 0) → ((j : ℕ) → New j ↔ (Old j ⊎ (j ≡ at))) → P → (j : ℕ) → New j ↔ (Old j ⊎ ((j ≡ at) × P))
added Old New at P is p j = ((λ n. elim ((is j).0 n) [ inl o ↦ inl o | inr e ↦ inr (e, p) ]), (λ o. (is j).1 (elim o [ inl x ↦ inl x | inr x ↦ inr x.0 ])))

pub not_added : (Old : ℕ → Type 0) (at : ℕ) (P : Type 0) → (P → ⊥) → (j : ℕ) → Old j ↔ (Old j ⊎ ((j ≡ at) × P))
not_added Old at P never j = ((λ o. inl o), (λ o. elim o [ inl x ↦ x | inr x ↦ absurd (never x.1) ]))

pub below-more : (i n : ℕ) → i < n + 1 → (i ≡ n) ⊎ (i < n)
below-more i n lt = grind arith

-- positions that are in one set and good, up to one more
pub one_more : (Old New R S : ℕ → Type 0) (i : ℕ) → R i → S i → ((j : ℕ) → New j ↔ (Old j ⊎ (j ≡ i))) → ((j : ℕ) → Old j ↔ (R j × (j < i) × S j)) → (j : ℕ) → New j ↔ (R j × (j < i + 1) × S j)
one_more Old New R S i r s new old j = (
  (λ n. elim ((new j).0 n) [ inl o ↦ (let f = (old j).0 o in (f.0, omega (arith, f.1), f.2)) | inr e ↦ (subst R (sym e) r, omega (arith, e), subst S (sym e) s) ]),
  (λ (q, lt, good). (new j).1 (elim (below-more j i lt) [ inl same ↦ inr same | inr less ↦ inl ((old j).1 (q, less, good)) ])),
)

pub none_more : (Old R S : ℕ → Type 0) (i : ℕ) → (R i → S i → ⊥) → ((j : ℕ) → Old j ↔ (R j × (j < i) × S j)) → (j : ℕ) → Old j ↔ (R j × (j < i + 1) × S j)
none_more Old R S i never old j = (
  (λ o. let f = (old j).0 o in (f.0, omega (arith, f.1), f.2)),
  (λ (q, lt, good). elim (below-more j i lt) [ inl same ↦ absurd (never (subst R same q) (subst S same good)) | inr less ↦ (old j).1 (q, less, good) ]),
)

pub there_already : (Old : ℕ → Type 0) (at : ℕ) (P : Type 0) → Old at → (j : ℕ) → Old j ↔ (Old j ⊎ ((j ≡ at) × P))
there_already Old at P is j = ((λ o. inl o), (λ o. elim o [ inl x ↦ x | inr x ↦ subst Old (sym x.0) is ]))

pub advanced : (ss : List Step) (R Old New : ℕ → Type 0) (root e : Element) (i : ℕ) → R i
    → ((j : ℕ) → Old j ↔ NextBelow i ss R root e j)
    → ((j : ℕ) → New j ↔ (Old j ⊎ ((j ≡ i + 1) × Goes (after i (steps_of ss)) root e)))
    → (j : ℕ) → New j ↔ NextBelow (i + 1) ss R root e j
advanced ss R Old New root e i reached old new j = (forth, back)
  where
    one : i + 1 ≡ suc i
    one = omega arith

    wider : NextBelow i ss R root e j → NextBelow (i + 1) ss R root e j
    wider (inl (k, r, lt, is, goes)) = inl (k, r, omega (arith, lt), is, goes)
    wider (inr stays) = inr stays

    forth : New j → NextBelow (i + 1) ss R root e j
    forth n = elim ((new j).0 n) [
      | inl o ↦ wider ((old j).0 o)
      | inr g ↦ inl (i, reached, omega arith, g.0 ∙ one, g.1)
    ]

    back : NextBelow (i + 1) ss R root e j → New j
    back (inl (k, r, lt, is, goes)) = elim (below-more k i lt) [
      | inl same ↦ (new j).1 (inr (is ∙ ap suc same ∙ sym one, subst (λ n. Goes (after n (steps_of ss)) root e) same goes))
      | inr less ↦ (new j).1 (inl ((old j).1 (inl (k, r, less, is, goes))))
    ]
    back (inr stays) = (new j).1 (inl ((old j).1 (inr stays)))

pub skipped : (ss : List Step) (R Old : ℕ → Type 0) (root e : Element) (i : ℕ) → (R i → ⊥)
    → ((j : ℕ) → Old j ↔ NextBelow i ss R root e j) → (j : ℕ) → Old j ↔ NextBelow (i + 1) ss R root e j
skipped ss R Old root e i not old j = (forth, back)
  where
    forth : Old j → NextBelow (i + 1) ss R root e j
    forth o = wider ((old j).0 o)
      where
        wider : NextBelow i ss R root e j → NextBelow (i + 1) ss R root e j
        wider (inl (k, r, lt, is, goes)) = inl (k, r, omega (arith, lt), is, goes)
        wider (inr stays) = inr stays

    back : NextBelow (i + 1) ss R root e j → Old j
    back (inl (k, r, lt, is, goes)) = elim (below-more k i lt) [
      | inl same ↦ absurd (not (subst R same r))
      | inr less ↦ (old j).1 (inl (k, r, less, is, goes))
    ]
    back (inr stays) = (old j).1 (inr stays)

pub contra : (b : Bool) → b ≡ true → b ≡ false → ⊥
contra b holds fails = let bad : true ≡ false = sym holds ∙ fails in (let absurdity : ⊥ = cc in absurdity)

pub meets-as : (test : _) (a b x y : Text) → a ≡ x → b ≡ y → MeetsName test a b → MeetsName test x y
meets-as test a b x y s l m = subst (λ z. MeetsName test x z) l (subst (λ z. MeetsName test z b) s m)

pub no_steps : (ss : List Step) → length ss ≡ 0 → steps_of ss ≡ arrived
no_steps [] none = refl
no_steps (x ∷ ss) none = absurd (omega (arith, none))

next-same : (ss : List Step) (R T : ℕ → Type 0) (root e : Element) (j : ℕ) → ((i : ℕ) → R i → T i) → Next ss R root e j → Next ss T root e j
next-same ss R T root e j more (inl (i, r, lt, is, goes)) = inl (i, more i r, lt, is, goes)
next-same ss R T root e j more (inr (r, lt, stays)) = inr (more j r, lt, stays)

-- a search from the document
abbrev First : ℕ → Type 0
First i = i ≡ 0

own-none : (ss : Steps) (root : Element) (s : Text) → FindsOwn ss (document root) s → ⊥
own-none arrived root s f = f
own-none (step axis element test cs ss) root s f = f
own-none (step axis attribute test cs ss) root s f = f

only-root : (root : Element) → elements_in (document root).children ≡ root ∷ []
only-root root = elements_in-element root []

pub document-in : (ss : List Step) (R : ℕ → Type 0) (root : Element) (w : Wanted) → ((i : ℕ) → First i → R i) → (length ss ≡ 0 → ⊥)
    → FindsWanted (steps_of ss) root (document root) w → SearchFinds ss (Next ss R root root) root root w
document-in ss R root w first some found =
    elim (search-in ss First root (document root) w (0, refl, omega arith, found)) [
      | inl here ↦ absurd (some here.0)
      | inr rest ↦ (elim rest [
        | inl own ↦ absurd (own-none (after own.0 (steps_of ss)) root own.3.0 own.3.1)
        | inr below ↦ (elim (subst (OneOf _) (only-root root) below) [
          | inl at_root ↦ search-same ss (Next ss First root root) (Next ss R root root) root root w (λ j. next-same ss First R root root j first) at_root
          | inr none ↦ absurd none
        ])
      ])
    ]

pub document-out : (ss : List Step) (R : ℕ → Type 0) (root : Element) (w : Wanted) → ((i : ℕ) → R i → First i)
    → SearchFinds ss (Next ss R root root) root root w → FindsWanted (steps_of ss) root (document root) w
document-out ss R root w first found =
    let from = search-children ss First root (document root) w (subst (OneOf _) (sym (only-root root)) (inl (search-same ss (Next ss R root root) (Next ss First root root) root root w (λ j. next-same ss R First root root j first) found))) in
    subst (λ i. FindsWanted (after i (steps_of ss)) root (document root) w) from.1 from.3

pub name-meets : (wanted space local : Text) (same : Bool) → (length space ≡ 0) → Decides same (local ≡ wanted) → (IsTrue same → (space ≡ []) × (local ≡ wanted)) × ((space ≡ []) × (local ≡ wanted) → IsTrue same)
name-meets wanted [] local same none is = (λ h. (refl, is.0 h), λ m. is.1 m.1)
name-meets wanted (b ∷ bs) local same none is = absurd (omega (arith, none))

-- ---- a path from the document, by a search from the root

pub rooted : (p : CodePath) (ss : List Step) → (out-Path p).is_absolute ≡ true → ss ≡ (out-Path p).steps → path_of p ≡ path true (steps_of ss)
rooted p ss absolute is = path-out p ∙ ap (λ b. path b (steps_of (out-Path p).steps)) absolute ∙ ap (λ xs. path true (steps_of xs)) (sym is)

pub rooted_out : (p : CodePath) (ss : List Step) (R N : ℕ → Type 0) (root e : Element) (w : Wanted) → (out-Path p).is_absolute ≡ true → ss ≡ (out-Path p).steps
    → ((i : ℕ) → R i ↔ First i) → ((j : ℕ) → N j ↔ Next ss R root root j) → SearchFinds ss N root root w → PathFindsWanted (path_of p) root e w
rooted_out p ss R N root e w absolute is only next found =
    subst (λ q. PathFindsWanted q root e w) (sym (rooted p ss absolute is))
    (document-out ss R root w (λ i. (only i).0) (search-same ss N (Next ss R root root) root root w (λ j. (next j).0) found))

pub rooted_in : (p : CodePath) (ss : List Step) (R N : ℕ → Type 0) (root e : Element) (w : Wanted) → (out-Path p).is_absolute ≡ true → ss ≡ (out-Path p).steps
    → ((i : ℕ) → R i ↔ First i) → ((j : ℕ) → N j ↔ Next ss R root root j) → (length ss == 0) ≡ false → PathFindsWanted (path_of p) root e w → SearchFinds ss N root root w
rooted_in p ss R N root e w absolute is only next some found =
    search-same ss (Next ss R root root) N root root w (λ j. (next j).1)
    (document-in ss R root w (λ i. (only i).1) (λ none. contra (length ss == 0) (rw none refl) some) (subst (λ q. PathFindsWanted q root e w) (rooted p ss absolute is) found))

-- a child that a loop comes to nests less deep
pub child_falls : (e : Element) (ns : List Node) (i : ℕ) (item : Node) (c : Element) → i < length ns → item ≡ get_or ns i item → item ≡ tree.Element c → ns ≡ e.children → depth c < depth e
child_falls e ns i item c lt is opened same = child_depth e c i (subst (λ xs. slice_get xs i ≡ Some (tree.Element c)) same (read ns i item lt is ∙ ap Some opened))
