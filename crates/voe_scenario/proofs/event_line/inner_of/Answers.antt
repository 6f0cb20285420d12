-- A fourth word ends what a stop cuts short.
use Rattle.std.proofs.Common.{◌==◌}
use Rattle.voe_scenario.proofs.Pieces.{too_many_inner_words}
use Rattle.voe_scenario.proofs.event_line.inner_of.Goals as goal

pub returns-in-Some-more : goal.returns-in-Some-more
returns-in-Some-more c =
    let first = rw c.in-Some.is at c.cut_word.ensures.first in
    let second = rw c.in-Some-more.is at c.cut_word-2.ensures.first in
    rw (first, second) (too_many_inner_words (λ b. b == 32) c.args.word.now c.cut_word.result.0.now c.cut_word-2.result.0.now c.in-Some-more.field-0.now)
