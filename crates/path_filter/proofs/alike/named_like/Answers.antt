use Rattle.std.proofs.Common.{◌∙◌, ap, arith, refl, subst, sym}
use Rattle.voe_tree.specs.declared.element.Element.{Element}
use Rattle.filter_text.specs.Filter.{Steps}
use Rattle.filter_text.specs.View.{front_of, test_of}
use Rattle.path_filter.specs.SearchParts.{OwnAttribute}
use Rattle.path_filter.specs.Search.{OneOf}
use Rattle.path_filter.specs.Wanted.{IsLike, text_found, unlike}
use Rattle.path_filter.proofs.DifferLaws.{none_so}
use Rattle.path_filter.proofs.SearchSteps.{Attributes, contra, meets-as, one-next, one-past, own-in, own-out, read}
use Rattle.path_filter.proofs.SearchLaws.{one-at}
use Rattle.path_filter.proofs.alike.named_like.Goals.{then-meets+in_ok-last, else-meets}
use Rattle.path_filter.proofs.alike.named_like.Goals as goal

pub loop-attribute-init : goal.loop-attribute-init
loop-attribute-init c = record {
  like = (c.requires, refl);
  unseen = λ root rest own. subst (OneOf _) (sym c.as_slice-attribute-items.ensures) (own-in c.args.step.now rest root c.args.at.now (unlike c.args.like) own).1;
}

pub returns-in_err-last-clause-none : goal.returns-in_err-last-clause-none
returns-in_err-last-clause-none c =
    let at = read c.as_slice-attribute-items.result.now c.loop-attribute.attribute-index c.attribute-item.result c.loop-attribute-test.true c.attribute-item.is in
    let meets = meets-as (test_of c.args.step.now.test) _ _ _ _ c.as_str.ensures c.as_str-in-loop-attribute.ensures (c.meets.ensures.0 c.if-meets.true) in
    let one : (root : Element) → Attributes c.args.step.now root c.args.at.now (unlike c.args.like) =
    λ root. subst (OneOf _) c.as_slice-attribute-items.ensures
    (one-at _ _ _ _ at (meets, λ is. c.in_err-last.ensures.none (c.as_str-then-meets.ensures ∙ is ∙ sym c.loop-attribute.invariant.like.1))) in
    let own : (root : Element) (rest : Steps) → OwnAttribute (front_of c.args.step.now rest) root c.args.at.now (unlike c.args.like) =
    λ root rest. own-out c.args.step.now rest root c.args.at.now (unlike c.args.like) (c.names_attributes.ensures.0 c.if-not-names_attributes.false) (one root) in
    none_so _ _ own

pub loop-attribute-preserved : goal.loop-attribute-preserved
loop-attribute-preserved c =
    let at = read c.as_slice-attribute-items.result.now c.loop-attribute.attribute-index c.attribute-item.result c.loop-attribute-test.true c.attribute-item.is in
    elim c.if-meets.branch [
      | then-meets+in_ok-last w ↦ record {
        like = subst (IsLike c.args.like) (sym w.last-is) (w.in_ok-last.ensures.some.1.0, w.in_ok-last.ensures.some.1.1 ∙ c.loop-attribute.invariant.like.1);
        unseen = λ root rest own. one-next _ _ c.loop-attribute.attribute-index c.attribute-item.result at
            (λ p. p.1 (sym w.as_str-then-meets.ensures ∙ ap text_found (sym w.in_ok-last.ensures.some.0) ∙ w.in_ok-last.ensures.some.1.1 ∙ c.loop-attribute.invariant.like.1))
            (c.loop-attribute.invariant.unseen root rest own);
      }
      | else-meets w ↦ record {
        like = subst (IsLike c.args.like) (sym w.last-is) c.loop-attribute.invariant.like;
        unseen = λ root rest own. one-next _ _ c.loop-attribute.attribute-index c.attribute-item.result at
            (λ p. contra _ (c.meets.ensures.1 (meets-as (test_of c.args.step.now.test) _ _ _ _ (sym c.as_str.ensures) (sym c.as_str-in-loop-attribute.ensures) p.0)) w.if-meets.false)
            (c.loop-attribute.invariant.unseen root rest own);
      }
    ]

pub returns-clause-some : goal.returns-clause-some
returns-clause-some c = (c.loop-attribute.invariant.like, λ root rest own. one-past _ c.as_slice-attribute-items.result.now c.loop-attribute.attribute-index (omega (arith, c.loop-attribute-test.false)) (c.loop-attribute.invariant.unseen root rest own))
