use Rattle.std.proofs.Common.{sym, subst, arith}
use Rattle.filter_text.specs.View.{test_of}
use Rattle.path_filter.specs.Search.{OneOf}
use Rattle.path_filter.specs.Wanted.{anything, exactly}
use Rattle.path_filter.specs.declared.wanted.Found.{Found}
use Rattle.path_filter.specs.declared.wanted.Found.TheVariants as found
use Rattle.path_filter.proofs.SearchSteps.{Attributes, contra, meets-as, one-next, one-past, own-in, own-out, read}
use Rattle.path_filter.proofs.SearchLaws.{one-at}
use Rattle.path_filter.proofs.first.attribute_of.Goals as goal

pub loop-attribute-init : goal.loop-attribute-init
loop-attribute-init c = λ root rest own. subst (OneOf _) (sym c.as_slice-attribute-items.ensures) (own-in c.args.step.now rest root c.args.at.now anything own).1

pub loop-attribute-preserved : goal.loop-attribute-preserved
loop-attribute-preserved c =
    let at = read c.as_slice-attribute-items.result.now c.loop-attribute.attribute-index c.attribute-item.result c.loop-attribute-test.true c.attribute-item.is in
    λ root rest own. one-next _ _ c.loop-attribute.attribute-index c.attribute-item.result at
    (λ p. contra _ (c.meets.ensures.1 (meets-as (test_of c.args.step.now.test) _ _ _ _ (sym c.as_str.ensures) (sym c.as_str-in-loop-attribute.ensures) p.0)) c.if-meets.false)
    (c.loop-attribute.invariant root rest own)

pub returns-then-meets-clause-some : goal.returns-then-meets-clause-some
returns-then-meets-clause-some c =
    let at = read c.as_slice-attribute-items.result.now c.loop-attribute.attribute-index c.attribute-item.result c.loop-attribute-test.true c.attribute-item.is in
    let meets = meets-as (test_of c.args.step.now.test) _ _ _ _ c.as_str.ensures c.as_str-in-loop-attribute.ensures (c.meets.ensures.0 c.if-meets.true) in
    let f : Found = found.Text c.as_str-then-meets.result in (
      tt,
      λ root rest.
          let one : Attributes c.args.step.now root c.args.at.now (exactly f) = subst (OneOf _) c.as_slice-attribute-items.ensures (one-at _ _ _ _ at (meets, sym c.as_str-then-meets.ensures)) in
          own-out c.args.step.now rest root c.args.at.now (exactly f) (c.names_attributes.ensures.0 c.if-not-names_attributes.false) one,
    )

pub returns-clause-none : goal.returns-clause-none
returns-clause-none c = λ root rest own. one-past _ c.as_slice-attribute-items.result.now c.loop-attribute.attribute-index (omega (arith, c.loop-attribute-test.false)) (c.loop-attribute.invariant root rest own)
