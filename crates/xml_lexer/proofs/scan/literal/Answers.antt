use Rattle.std.proofs.Common.{◌≡◌, true, refl, sym, ◌∙◌}
use Rattle.std.specs.Prelude.{nat_eq}
use Rattle.std.specs.List.{starts_with}
use Rattle.xml_lexer.proofs.Boundaries.{behind_literal}
use Rattle.xml_lexer.proofs.scan.literal.Goals as goal

pub split_at-requires : goal.split_at-requires
split_at-requires c =
    let begin : c.as_bytes-begin.result.now ≡ c.args.front.now = c.as_bytes-begin.ensures.value in
    let whole : c.as_bytes-bytes.result.now ≡ c.args.text.now = c.as_bytes-bytes.ensures.value in
    let starts : starts_with nat_eq c.as_bytes-bytes.result.now c.as_bytes-begin.result.now ≡ true = sym c.starts_with.ensures.value ∙ c.if-starts_with.true in
    rw begin (behind_literal c.args.text.now c.args.front.now c.utf8.text c.utf8.front (rw (← begin, ← whole) (c.if-starts_with.ensures.bound refl)) (rw (begin, whole) at starts))
