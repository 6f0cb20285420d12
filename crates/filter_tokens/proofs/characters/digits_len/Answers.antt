use Rattle.std.proofs.Common.{◌≡◌, true, arith, rules}
use Rattle.std.specs.Prelude.{slice_index}
use Rattle.std.specs.Char.{is_ascii_digit}
use Rattle.std.proofs.lemmas.Grind.{common_steps}
use Rattle.xml_lexer.proofs.Boundaries.{behind_ascii, start_of}
use Rattle.filter_tokens.proofs.Suffixes.{digit-ascii}
use Rattle.filter_tokens.proofs.characters.digits_len.Goals as goal

pub loop-len-init : goal.loop-len-init
loop-len-init c = (grind (arith, common_steps), start_of c.as_bytes-bytes.result.now c.as_bytes-bytes.ensures.utf8)

pub loop-len-preserved : goal.loop-len-preserved
loop-len-preserved c = (
  grind (arith, common_steps),
  behind_ascii c.as_bytes-bytes.result.now c.loop-len.len c.as_bytes-bytes.ensures.utf8 (omega arith)
      (let h : is_ascii_digit (slice_index c.as_bytes-bytes.result.now c.loop-len.len) ≡ true = search (rules) in digit-ascii _ h),
)
