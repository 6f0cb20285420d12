-- The pieces are those of the cut at the byte.
use Rattle.std.proofs.Common.{◌+◌, arith, add-one}
use Rattle.voe_scenario.proofs.Pieces.{split_at, split_none, take_rest}
use Rattle.voe_scenario.proofs.words.cut.Goals as goal

pub returns-in-Some-clause-first : goal.returns-in-Some-clause-first
returns-in-Some-clause-first c =
    let found = c.in-Some.ensures in
    rw (take_rest (c.in-Some.end + 1) c.args.bytes.now, add-one c.in-Some.end)
    (split_at c.args.byte c.args.bytes.now c.in-Some.end found.0.high found.1 (λ k below. found.0.before k (omega arith) below))

pub returns-in-None-clause-last : goal.returns-in-None-clause-last
returns-in-None-clause-last c = split_none c.args.byte c.args.bytes.now (λ k within. c.in-None.ensures k (omega arith) within)
