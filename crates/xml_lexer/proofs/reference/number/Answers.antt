use Rattle.std.proofs.Common.{◌≡◌, ◌+◌, ◌*◌, ap, take, sym, arith}
use Rattle.std.specs.Str.Parse.{digits_value}
use Rattle.std.proofs.lemmas.Int.Digits.{digits_value_more}
use Rattle.std.proofs.lemmas.Str.Parse.{digits_value-take-le}
use Rattle.xml_lexer.proofs.Numbers.{character-large}
use Rattle.xml_lexer.proofs.reference.number.Goals as goal

pub returns-then-number-gt1114111 : goal.returns-then-number-gt1114111
returns-then-number-gt1114111 c =
    let i = c.loop-b.b-index in
    let more = digits_value_more c.args.radix c.args.digits.now i (omega arith) in
    let grows = digits_value-take-le c.args.radix c.args.digits.now (i + 1) c.requires.low in
    let same : c.loop-b.number * c.args.radix ≡ digits_value c.args.radix (take i c.args.digits.now) * c.args.radix = ap (λ n. n * c.args.radix) c.loop-b.invariant.0 in
    sym (character-large (digits_value c.args.radix c.args.digits.now) (omega (arith, more, grows, same)))

pub loop-b-preserved : goal.loop-b-preserved
loop-b-preserved c =
    let more = digits_value_more c.args.radix c.args.digits.now c.loop-b.b-index (omega arith) in
    (cc, c.if-number-gt1114111.false)
