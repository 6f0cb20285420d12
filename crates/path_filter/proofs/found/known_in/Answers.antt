use Rattle.std.proofs.Common.{◌+◌, arith}
use Rattle.path_filter.specs.Positions.{Has}
use Rattle.path_filter.proofs.SearchSteps.{read}
use Rattle.path_filter.proofs.PrefixLaws.{made_front, small_front, knows_front, one_known, all_known}
use Rattle.path_filter.proofs.found.known_in.Goals as goal

pub add_known-requires-clause-made : goal.add_known-requires-clause-made
add_known-requires-clause-made c = made_front c.args.plan.now (c.loop-i.i + 1) c.requires.made

pub add_known-requires-clause-small : goal.add_known-requires-clause-small
add_known-requires-clause-small c = small_front c.args.plan.now (c.loop-i.i + 1) c.requires.small

pub add_known-requires-clause-knows : goal.add_known-requires-clause-knows
add_known-requires-clause-knows c = knows_front c.args.plan.now c.loop-i.i (Has c.loop-i.known) c.args.root.now c.loop-i-test.true c.loop-i.invariant

pub loop-i-preserved : goal.loop-i-preserved
loop-i-preserved c =
    one_known c.args.plan.now c.loop-i.i c.index-plan-i.result (Has c.loop-i.known) (Has c.add_known.new.known) c.args.root.now
    (read c.args.plan.now c.loop-i.i c.index-plan-i.result c.loop-i-test.true c.index-plan-i.is) c.loop-i-test.true c.add_known.ensures c.loop-i.invariant

pub returns : goal.returns
returns c = all_known c.args.plan.now c.loop-i.i (Has c.loop-i.known) c.args.root.now (omega (arith, c.loop-i-test.false)) c.loop-i.invariant
