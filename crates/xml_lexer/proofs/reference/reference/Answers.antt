use Rattle.std.proofs.Common.{◌≡◌, ◌==◌, sym, take, Some, None, arith}
use Rattle.std.specs.List.{position_or_len}
use Rattle.xml_lexer.specs.Spelling.{named_character}
use Rattle.xml_lexer.proofs.ReferenceSteps.{semicolon-is, reference_at-none, reference_at-unnamed, reference_at-named}
use Rattle.xml_lexer.proofs.reference.reference.Goals as goal

pub returns-then-at-bytes-clause-value : goal.returns-then-at-bytes-clause-value
returns-then-at-bytes-clause-value c = sym (reference_at-none c.args.bytes.now (omega arith))

pub returns-in-None-clause-value : goal.returns-in-None-clause-value
returns-in-None-clause-value c =
    let e : named_character (take (position_or_len (λ b. b == 59) c.args.bytes.now) c.args.bytes.now) ≡ None = cc in
    sym (reference_at-unnamed c.args.bytes.now (omega arith) e)

pub returns-in-Some-clause-value : goal.returns-in-Some-clause-value
returns-in-Some-clause-value c =
    let e : named_character (take (position_or_len (λ b. b == 59) c.args.bytes.now) c.args.bytes.now) ≡ Some c.in-Some.character = cc in
    rw c.semicolon-at.ensures.value (sym (reference_at-named c.args.bytes.now c.in-Some.character (omega arith) e))

pub returns-in-Some-clause-end : goal.returns-in-Some-clause-end
returns-in-Some-clause-end c = rw c.semicolon-at.ensures.value (semicolon-is c.args.bytes.now (omega arith))
