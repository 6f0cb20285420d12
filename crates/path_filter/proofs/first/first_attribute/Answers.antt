use Rattle.std.proofs.Common.{ap, arith, inl, inr, subst, suc, sym, ◌∙◌}
use Rattle.filter_text.specs.View.{steps_of}
use Rattle.path_filter.specs.SearchParts.{OwnAttribute}
use Rattle.path_filter.specs.Positions.{Has}
use Rattle.path_filter.specs.Search.{after}
use Rattle.path_filter.specs.Wanted.{anything, exactly}
use Rattle.path_filter.proofs.SearchSteps.{below-more, contra, read}
use Rattle.path_filter.proofs.PositionLaws.{after-at, fewer}
use Rattle.path_filter.proofs.first.first_attribute.Goals.{then-has+in_default, else-has}
use Rattle.path_filter.proofs.first.first_attribute.Goals as goal

pub has-requires : goal.has-requires
has-requires c = omega (arith, fewer c.args.steps.now, c.requires.small, c.loop-i-test.true)

pub returns-in-Some-clause-some : goal.returns-in-Some-clause-some
returns-in-Some-clause-some c =
    let i = c.loop-i.i in
    let at = read c.args.steps.now i c.index-steps-i.result c.loop-i-test.true c.index-steps-i.is in (
      c.in-Some.ensures.some.0,
      λ root. (
        i,
        c.has.ensures.0 c.if-has.true,
        c.loop-i-test.true,
        subst (λ s. OwnAttribute s root c.args.at.now (exactly c.in-Some.found)) (sym (after-at c.args.steps.now i c.index-steps-i.result at)) (c.in-Some.ensures.some.1 root (after (suc i) (steps_of c.args.steps.now))),
      ),
    )

pub loop-i-preserved : goal.loop-i-preserved
loop-i-preserved c =
    let at = read c.args.steps.now c.loop-i.i c.index-steps-i.result c.loop-i-test.true c.index-steps-i.is in
    λ root k reached lt own. elim (below-more k c.loop-i.i lt) [
      | inl same ↦ (elim c.if-has.branch [
        | then-has+in_default w ↦
            w.in_default.ensures.none root (after (suc c.loop-i.i) (steps_of c.args.steps.now))
            (subst (λ s. OwnAttribute s root c.args.at.now anything) (ap (λ n. after n (steps_of c.args.steps.now)) same ∙ after-at c.args.steps.now c.loop-i.i c.index-steps-i.result at) own)
        | else-has w ↦ contra _ (c.has.ensures.1 (subst (Has c.args.reached.now) same reached)) w.if-has.false
      ])
      | inr less ↦ c.loop-i.invariant root k reached less own
    ]

pub returns-clause-none : goal.returns-clause-none
returns-clause-none c = λ root (k, reached, lt, own). c.loop-i.invariant root k reached (omega (arith, lt, c.loop-i-test.false)) own
