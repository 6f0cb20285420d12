use Rattle.std.proofs.Common.{◌≡◌, ◌<◌, length, drop, false, arith}
use Rattle.std.proofs.lemmas.Grind.{common_steps}
use Rattle.xml_lexer.specs.Scan.{starts_bad}
use Rattle.xml_lexer.proofs.Fronts.{front-step}
use Rattle.xml_lexer.proofs.front.bad_from.Goals as goal

pub loop-at-preserved : goal.loop-at-preserved
loop-at-preserved c =
    let lt : c.loop-at.at < length c.args.bytes.now = grind (arith, common_steps) in
    let clear : starts_bad (drop c.loop-at.at c.args.bytes.now) ≡ false = grind (arith, common_steps) in
    let more = front-step c.args.bytes.now c.loop-at.at lt clear in
    (omega (arith, more, c.loop-at.invariant.0), omega arith, omega arith)
