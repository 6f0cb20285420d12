-- Conditions that are the same at each element, and the step that tries one at the root.
use Rattle.std.proofs.Common.{◌≡◌, ℕ, Bool, true, false, List, [], ◌∷◌, Some, refl, ap, arith}
use Rattle.std.specs.Bool.{IsTrue}
use Rattle.std.specs.Prelude.{IfOk, Result, Ok, Err}
use Rattle.std.specs.List.{slice_get}
use mathlib.Core.Bool.{not}
use Rattle.voe_tree.specs.Contents.{string_of}
use Rattle.voe_tree.specs.declared.element.Element.{Element}
use Rattle.filter_text.specs.Filter.{Comparison, Condition, Operand, child, compare, element, any, arrived, found, literal, local_name, more, no_more, path, step}
use Rattle.path_filter.specs.Places.{document, element_below}
use Rattle.path_filter.specs.Plan.{IsMade, IsOfDocument, anywhere}
use Rattle.path_filter.specs.Planned.{Follows, Grows, IsFromDocument, IsSameEverywhere, Means, Starts}
use Rattle.path_filter.specs.declared.plan.Next.TheVariants as next
use Rattle.path_filter.specs.declared.plan.Sought.TheVariants as sought
use Rattle.path_filter.specs.declared.plan.Stage.{Stage}
use Rattle.path_filter.proofs.PositionLaws.{elements_in-element}
use Rattle.path_filter.proofs.SearchLaws.{under}

pub ends_anywhere : (plan : List Stage) → Follows plan (next.Ends sought.Anything) element arrived sought.Anything
ends_anywhere plan = record {
  refers = tt;
  goes = λ _ root e. ((λ _. (string_of e, refl, tt)), (λ _. tt));
  ends = λ _ s. ((λ _. tt), (λ _. tt));
}

pub same_everywhere : (a b : Operand) (how : Comparison) → IsFromDocument a → IsFromDocument b → IsSameEverywhere (compare a how b)
same_everywhere (found (path true ss)) (found (path true others_steps)) how some others = λ root e f is. is
same_everywhere (found (path true ss)) (found (path false others_steps)) how some others = absurd others
same_everywhere (found (path true ss)) (literal text) how some others = absurd others
same_everywhere (found (path true ss)) local_name how some others = absurd others
same_everywhere (found (path false ss)) b how some others = absurd some
same_everywhere (literal text) b how some others = absurd some
same_everywhere local_name b how some others = absurd some

at_root : (root : Element) → element_below (document root) (0 ∷ []) ≡ Some root
at_root root = under (document root) root root 0 [] (ap (λ es. slice_get es 0) (elements_in-element root [])) refl

pub once_means : (plan : List Stage) (i : ℕ) (c : Condition) → IsSameEverywhere c → Starts plan i (step child element any (more c no_more) arrived) sought.Anything → IsOfDocument plan i
    → Means plan (anywhere i) c
once_means plan i c same starts of_document = record {
  refers = (starts.within, of_document);
  holds = λ root e.
      let finds = starts.finds root (document root) in (
        (λ h. let f = finds.0 h in same root f.1.2 e f.1.5.0),
        (λ is. finds.1 (string_of root, (0 ∷ [], (0, refl), root, at_root root, tt, (same root e root is, tt), refl), tt)),
      );
}

pub grows_none : (plan : List Stage) → IsMade plan → Grows plan plan 0
grows_none plan made = record { added = []; extends = refl; made = made; few = omega arith }

pub not_empty : (b : Bool) → IsTrue (not b) → b ≡ false
not_empty true h = let bad : false ≡ true = h in (let absurdity : ⊥ = cc in absurd absurdity)
not_empty false h = refl

pub if_ok : {X E : Type 0} (P Q : X → Type 0) (r : Result X E) → ((x : X) → P x → Q x) → IfOk r P → IfOk r Q
if_ok P Q (Ok x) wider h = wider x h
if_ok P Q (Err e) wider h = h
