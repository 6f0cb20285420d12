use Rattle.std.proofs.Common.{◌≡◌, inl, inr, [], ◌∷◌, refl, sym, subst}
use Rattle.voe_tree.specs.Contents.{elements_in}
use Rattle.voe_tree.specs.declared.element.Element.{Element}
use Rattle.path_filter.specs.Places.{document}
use Rattle.path_filter.specs.Plan.{Owns, newest}
use Rattle.path_filter.specs.Search.{OneOf}
use Rattle.path_filter.specs.declared.plan.Stage.{Stage}
use Rattle.path_filter.proofs.PlanLaws.{FromChildAt, before, found_in, found_child, get, stage_get}
use Rattle.path_filter.proofs.PositionLaws.{elements_in-element}
use Rattle.path_filter.proofs.found.finds_from_document.Goals as goal

only_root : (root : Element) → elements_in (document root).children ≡ root ∷ []
only_root root = elements_in-element root []

owns_nothing : (root : Element) (x : Stage) → Owns (document root) x → ⊥
owns_nothing root x owns = owns.1

pub returns : goal.returns
returns c =
    let plan = newest c.args.plan.now in
    let root = c.args.root.now in
    let i = c.args.position in
    let x = get c.args.plan.now i c.requires.within in
    let b = before plan i x.0 c.requires.made (stage_get c.args.plan.now i x.0 x.1) in
    let asked = (c.only-asked.ensures i).1 refl in
    let new = c.visit_child.ensures.adds i x.0 x.1 asked (λ was. c.none-found.ensures i was) in (
      (λ h. found_child plan i x.0 root (document root) b (subst (OneOf (FromChildAt plan root i x.0)) (sym (only_root root)) (inl (new.0 (c.has.ensures.0 h))))),
      (λ at. c.has.ensures.1 (elim (found_in plan i x.0 root (document root) b at) [
        | inl owns ↦ absurd (owns_nothing root x.0 owns)
        | inr below ↦ new.1 (elim (subst (OneOf (FromChildAt plan root i x.0)) (only_root root) below) [ inl from ↦ from | inr none ↦ absurd none ])
      ])),
    )
