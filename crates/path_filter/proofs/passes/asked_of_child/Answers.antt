use Rattle.std.proofs.Common.{◌≡◌, inl, inr, Some, sym, subst, arith}
use Rattle.std.specs.List.{slice_get}
use Rattle.path_filter.specs.Plan.{Asks}
use Rattle.path_filter.specs.Positions.{Has}
use Rattle.path_filter.proofs.AskLaws.{asks-more}
use Rattle.path_filter.proofs.SearchSteps.{below-more, read}
use Rattle.path_filter.proofs.MarkLaws.{skipped, small_at, within}
use Rattle.path_filter.proofs.PlaceLaws.{same_some}
use Rattle.path_filter.proofs.passes.asked_of_child.Goals as goal

pub ask_one-requires-clause-small : goal.ask_one-requires-clause-small
ask_one-requires-clause-small c = small_at c.args.plan.now c.loop-i.i c.index-plan-i.result c.requires.small (read c.args.plan.now c.loop-i.i c.index-plan-i.result c.loop-i-test.true c.index-plan-i.is)

pub loop-i-preserved : goal.loop-i-preserved
loop-i-preserved c =
    let here = read c.args.plan.now c.loop-i.i c.index-plan-i.result c.loop-i-test.true c.index-plan-i.is in
    λ k x lt there asked not_found. elim (below-more k c.loop-i.i (skipped (Has c.args.asked.now) c.loop-i.i c.next-i-in-loop-i.result c.next-i-in-loop-i.ensures.skips k lt asked)) [
      | inl same ↦
          (let at = subst (λ n. slice_get c.args.plan.now n ≡ Some x) same there in
          let is = same_some (slice_get c.args.plan.now c.loop-i.i) c.index-plan-i.result x here at in
          subst (λ n. Asks (Has c.ask_one.new.below) c.args.child.now n x) (sym same)
          (subst (λ z. Asks (Has c.ask_one.new.below) c.args.child.now c.loop-i.i z) is
          (c.ask_one.ensures.asks (subst (Has c.args.asked.now) same asked) (λ f. not_found (subst (Has c.args.found.now) (sym same) f)))))
      | inr less ↦ asks-more (Has c.loop-i.below) (Has c.ask_one.new.below) c.ask_one.ensures.keeps c.args.child.now k x (c.loop-i.invariant k x less there asked not_found)
    ]

pub returns : goal.returns
returns c = λ i x there asked not_found. c.loop-i.invariant i x (omega (arith, within c.args.plan.now i x there, c.loop-i-test.false)) there asked not_found
