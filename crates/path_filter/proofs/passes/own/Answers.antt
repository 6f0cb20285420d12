use Rattle.std.proofs.Common.{inl, inr, arith}
use Rattle.path_filter.specs.Plan.{Owns}
use Rattle.path_filter.specs.Positions.{Has}
use Rattle.path_filter.proofs.MarkLaws.{all_marked}
use Rattle.path_filter.proofs.passes.own.Goals as goal

pub returns : goal.returns
returns c = λ i x at asked.
    let both = all_marked c.args.plan.now (Has c.args.asked.now) (Has c.none-found.result) (Has c.loop-i.found) (λ _ y. Owns c.args.at.now y) c.loop-i.i (omega (arith, c.loop-i-test.false)) c.loop-i.invariant i x at asked in
    ((λ h. elim (both.0 h) [ inl was ↦ absurd (c.none-found.ensures i was) | inr owns ↦ owns ]), (λ owns. both.1 (inr owns)))
