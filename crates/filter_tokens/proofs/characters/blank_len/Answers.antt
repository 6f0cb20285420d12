use Rattle.std.proofs.Common.{◌≡◌, true, arith, rules}
use Rattle.std.specs.Prelude.{slice_index}
use Rattle.xml_lexer.specs.Characters.{is_blank}
use Rattle.std.proofs.lemmas.Grind.{common_steps}
use Rattle.xml_lexer.proofs.Boundaries.{blank-ascii, behind_ascii, start_of}
use Rattle.filter_tokens.proofs.characters.blank_len.Goals as goal

pub loop-len-init : goal.loop-len-init
loop-len-init c = (grind (arith, common_steps), start_of c.as_bytes-bytes.result.now c.as_bytes-bytes.ensures.utf8)

pub loop-len-preserved : goal.loop-len-preserved
loop-len-preserved c = (
  grind (arith, common_steps),
  behind_ascii c.as_bytes-bytes.result.now c.loop-len.len c.as_bytes-bytes.ensures.utf8 (omega arith)
      (let h : is_blank (slice_index c.as_bytes-bytes.result.now c.loop-len.len) ≡ true = search (rules) in blank-ascii _ h),
)
