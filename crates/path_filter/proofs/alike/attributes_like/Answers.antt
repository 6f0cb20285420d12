use Rattle.std.proofs.Common.{◌∙◌, ap, arith, inl, inr, subst, suc, sym}
use Rattle.voe_tree.specs.declared.element.Element.{Element}
use Rattle.filter_text.specs.View.{steps_of}
use Rattle.path_filter.specs.SearchParts.{OwnAttribute, OwnFinds}
use Rattle.path_filter.specs.Positions.{Has}
use Rattle.path_filter.specs.Search.{after}
use Rattle.path_filter.specs.Wanted.{IsLike, unlike}
use Rattle.path_filter.proofs.DifferLaws.{none_so, own_unlike}
use Rattle.path_filter.proofs.SearchSteps.{below-more, contra, read}
use Rattle.path_filter.proofs.PositionLaws.{after-at, fewer}
use Rattle.path_filter.proofs.alike.attributes_like.Goals.{then-has+in_ok-last, else-has}
use Rattle.path_filter.proofs.alike.attributes_like.Goals as goal

pub has-requires : goal.has-requires
has-requires c = omega (arith, fewer c.args.steps.now, c.requires.small, c.loop-i-test.true)

pub returns-in_err-last-clause-none : goal.returns-in_err-last-clause-none
returns-in_err-last-clause-none c =
    let i = c.loop-i.i in
    let at = read c.args.steps.now i c.index-steps-i.result c.loop-i-test.true c.index-steps-i.is in
    let own : (root : Element) → OwnFinds c.args.steps.now (Has c.args.reached.now) root c.args.at.now (unlike c.args.like) =
    λ root. (
      i,
      c.has.ensures.0 c.if-has.true,
      c.loop-i-test.true,
      subst (λ s. OwnAttribute s root c.args.at.now (unlike c.args.like)) (sym (after-at c.args.steps.now i c.index-steps-i.result at))
          (own_unlike _ root c.args.at.now c.args.like c.loop-i.last c.loop-i.invariant.like.1 (c.in_err-last.ensures.none root (after (suc i) (steps_of c.args.steps.now)))),
    ) in
    none_so _ _ own

pub loop-i-preserved : goal.loop-i-preserved
loop-i-preserved c =
    let at = read c.args.steps.now c.loop-i.i c.index-steps-i.result c.loop-i-test.true c.index-steps-i.is in
    elim c.if-has.branch [
      | then-has+in_ok-last w ↦ record {
        like = subst (IsLike c.args.like) (sym w.last-is) (w.in_ok-last.ensures.some.0.0, w.in_ok-last.ensures.some.0.1 ∙ c.loop-i.invariant.like.1);
        none_unlike = λ root k reached lt own. elim (below-more k c.loop-i.i lt) [
          | inl same ↦
              w.in_ok-last.ensures.some.1 root (after (suc c.loop-i.i) (steps_of c.args.steps.now))
              (own_unlike _ root c.args.at.now c.loop-i.last c.args.like (sym c.loop-i.invariant.like.1)
              (subst (λ s. OwnAttribute s root c.args.at.now (unlike c.args.like)) (ap (λ n. after n (steps_of c.args.steps.now)) same ∙ after-at c.args.steps.now c.loop-i.i c.index-steps-i.result at) own))
          | inr less ↦ c.loop-i.invariant.none_unlike root k reached less own
        ];
      }
      | else-has w ↦ record {
        like = subst (IsLike c.args.like) (sym w.last-is) c.loop-i.invariant.like;
        none_unlike = λ root k reached lt own. elim (below-more k c.loop-i.i lt) [
          | inl same ↦ contra _ (c.has.ensures.1 (subst (Has c.args.reached.now) same reached)) w.if-has.false
          | inr less ↦ c.loop-i.invariant.none_unlike root k reached less own
        ];
      }
    ]

pub returns-clause-some : goal.returns-clause-some
returns-clause-some c = (c.loop-i.invariant.like, λ root (k, reached, lt, own). c.loop-i.invariant.none_unlike root k reached (omega (arith, lt, c.loop-i-test.false)) own)
