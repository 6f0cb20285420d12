-- Two paths have strings that differ where both have some and those are not all one.
use Rattle.std.proofs.Common.{◌≡◌, ◌↔◌, ℕ, List, sym, ◌∙◌, refl, Bool, true, false, not, Option, None, Some}
use Rattle.std.specs.Bool.{IsTrue}
use Rattle.std.specs.Option.{IfNone, IfSome, is_some}
use Rattle.voe_tree.specs.declared.element.Element.{Element}
use Rattle.filter_text.specs.Filter.{Path, Steps}
use Rattle.filter_text.specs.declared.filter.Step.{Step}
use Rattle.filter_text.specs.View.{steps_of}
use Rattle.path_filter.specs.Search.{after}
use Rattle.path_filter.specs.SearchParts.{OwnAttribute, OwnFinds, PathFindsWanted, PathsDiffer, SearchFinds}
use Rattle.path_filter.specs.Wanted.{IsLike, anything, text_found, unlike}
use Rattle.path_filter.specs.declared.wanted.Found.{Found}

-- what differs from a string differs from the same string at another place
pub path_unlike : (way : Path) (root e : Element) (f last : Found) → text_found last ≡ text_found f → PathFindsWanted way root e (unlike last) → PathFindsWanted way root e (unlike f)
path_unlike way root e f last same (s, found, not) = (s, found, λ is. not (is ∙ sym same))

pub search_unlike : (ss : List Step) (R : ℕ → Type 0) (root e : Element) (f last : Found) → text_found last ≡ text_found f → SearchFinds ss R root e (unlike last) → SearchFinds ss R root e (unlike f)
search_unlike ss R root e f last same (i, reached, le, (s, found, not)) = (i, reached, le, (s, found, λ is. not (is ∙ sym same)))

pub own_unlike : (ss : Steps) (root e : Element) (f last : Found) → text_found last ≡ text_found f → OwnAttribute ss root e (unlike last) → OwnAttribute ss root e (unlike f)
own_unlike ss root e f last same (s, found, not) = (s, found, λ is. not (is ∙ sym same))

pub owns_unlike : (ss : List Step) (R : ℕ → Type 0) (root e : Element) (f last : Found) → text_found last ≡ text_found f → OwnFinds ss R root e (unlike last) → OwnFinds ss R root e (unlike f)
owns_unlike ss R root e f last same (i, reached, lt, own) = (i, reached, lt, own_unlike (after i (steps_of ss)) root e f last same own)

one_differs : (p q : Path) (root e : Element) (f : Found) → PathFindsWanted q root e anything → PathFindsWanted p root e (unlike f) → (PathFindsWanted q root e (unlike f) → ⊥) → PathsDiffer p q root e
one_differs p q root e f (t, other, any) (s, one, not) all = (s, t, one, other, λ same. all (t, other, λ is. not (same ∙ is)))

all_one : (p q : Path) (root e : Element) (f : Found) → (PathFindsWanted q root e (unlike f) → ⊥) → (PathFindsWanted p root e (unlike f) → ⊥) → PathsDiffer p q root e → ⊥
all_one p q root e f others ones (s, t, one, other, differs) = ones (s, one, λ is. others (t, other, λ also. differs (is ∙ sym also)))

pub if_some : {X : Type 0} (P Q : X → Type 0) (o : Option X) → ((x : X) → P x → Q x) → IfSome o P → IfSome o Q
if_some P Q None more h = h
if_some P Q (Some x) more h = more x h

pub if_none : {X : Type 0} (P Q : Type 0) (o : Option X) → (P → Q) → IfNone o P → IfNone o Q
if_none P Q None more h = more h
if_none P Q (Some x) more h = h

pub none_so : {X : Type 0} (P : Type 0) (o : Option X) → P → IfNone o P
none_so P None p = p
none_so P (Some x) p = tt

-- where one path's strings, of which there are some, are all one, the paths differ where a string of the other is another
pub others_decide : (p q : Path) (root e : Element) (f last : Found) (o : Option Found) (b : Bool) → text_found last ≡ text_found f → PathFindsWanted q root e anything → (PathFindsWanted q root e (unlike f) → ⊥)
    → IfNone o (PathFindsWanted p root e (unlike last)) → IfSome o (λ x. IsLike last x × (PathFindsWanted p root e (unlike last) → ⊥)) → is_some o ≡ not b
    → IsTrue b ↔ PathsDiffer p q root e
others_decide p q root e f last None true same some all none any is = ((λ _. one_differs p q root e f some (path_unlike p root e f last same none) all), (λ _. refl))
others_decide p q root e f last None false same some all none any is = absurd (let bad : ⊥ = cc in bad)
others_decide p q root e f last (Some x) true same some all none any is = absurd (let bad : ⊥ = cc in bad)
others_decide p q root e f last (Some x) false same some all none any is =
    ((λ h. absurd (let bad : ⊥ = cc in bad)), (λ d. absurd (all_one p q root e f all (λ o. any.1 (path_unlike p root e last f (sym same) o)) d)))
