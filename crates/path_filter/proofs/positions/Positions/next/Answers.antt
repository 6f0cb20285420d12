use Rattle.std.proofs.Common.{◌<◌, ◌/◌, ◌^◌, inl, inr, arith, get_or}
use Rattle.path_filter.specs.Positions.{Has}
use Rattle.path_filter.proofs.Bits.{less-or-not, positive, skip-word, skip-zeros}
use Rattle.path_filter.proofs.positions.Positions.next.Goals as goal

pub returns-then-rest-ne0-clause-skips : goal.returns-then-rest-ne0-clause-skips
unfolding Has
returns-then-rest-ne0-clause-skips c =
    let small : get_or c.args.self.now.words (c.loop-at.at / 64) 0 < 2 ^ 64 = omega arith in
    λ i ge lt has. elim (less-or-not i c.loop-at.at) [
      | inl before ↦ c.loop-at.invariant.1 i ge before has
      | inr from ↦ skip-zeros c.args.self.now.words c.loop-at.at i small (positive _ c.if-rest-ne0.true) from lt has
    ]

pub loop-at-preserved : goal.loop-at-preserved
unfolding Has
loop-at-preserved c =
    let forward = c.loop-at.invariant.0 in (
      omega (arith, forward),
      λ i ge lt has. elim (less-or-not i c.loop-at.at) [
        | inl before ↦ c.loop-at.invariant.1 i ge before has
        | inr from ↦ skip-word c.args.self.now.words c.loop-at.at i c.if-rest-ne0.false from lt has
      ],
    )
