use Rattle.std.proofs.Common.{◌↔◌, ◌<◌, ◌+◌, ℕ, suc, arith, subst, sym}
use Rattle.filter_text.specs.View.{steps_of}
use Rattle.path_filter.specs.SearchParts.{Stays}
use Rattle.path_filter.specs.Positions.{Has}
use Rattle.path_filter.specs.Search.{after}
use Rattle.path_filter.proofs.SearchSteps.{contra, none_more, one_more, read}
use Rattle.path_filter.proofs.PositionLaws.{after-at, fewer}
use Rattle.path_filter.proofs.steps.staying.Goals.{then-has+then-stays, else-has, else-has-via-then-has+else-stays, else-has-via-else-has}
use Rattle.path_filter.proofs.steps.staying.Goals as goal

pub has-requires : goal.has-requires
has-requires c = omega (arith, fewer c.args.steps.now, c.requires.small, c.loop-i-test.true)

pub add-requires : goal.add-requires
add-requires c = omega (arith, fewer c.args.steps.now, c.requires.small, c.loop-i-test.true)

pub loop-i-preserved : goal.loop-i-preserved
loop-i-preserved c =
    let ss = c.args.steps.now in
    let i = c.loop-i.i in
    let here = after-at ss i c.index-steps-i.result (read ss i c.index-steps-i.result c.loop-i-test.true c.index-steps-i.is) in
    let rest = after (suc i) (steps_of ss) in
    elim c.if-has.branch [
      | then-has+then-stays w ↦ subst (λ p. (j : ℕ) → Has p j ↔ (Has c.args.reached.now j × (j < i + 1) × Stays (after j (steps_of ss)))) (sym w.next-is)
          (one_more (Has c.loop-i.next) _ (Has c.args.reached.now) (λ j. Stays (after j (steps_of ss))) i (c.has.ensures.0 w.if-has.true) (subst Stays (sym here) ((w.stays.ensures rest).0 w.if-stays.true)) w.add.ensures c.loop-i.invariant)
      | else-has w ↦ subst (λ p. (j : ℕ) → Has p j ↔ (Has c.args.reached.now j × (j < i + 1) × Stays (after j (steps_of ss)))) (sym w.next-is)
          (none_more (Has c.loop-i.next) (Has c.args.reached.now) (λ j. Stays (after j (steps_of ss))) i
          (λ reached stays. elim w.else-has.branch [
            | else-has-via-then-has+else-stays v ↦ contra _ ((v.stays.ensures rest).1 (subst Stays here stays)) v.if-stays.false
            | else-has-via-else-has v ↦ contra _ (c.has.ensures.1 reached) v.if-has.false
          ]) c.loop-i.invariant)
    ]
