-- A third word ends the grammar.
use Rattle.std.proofs.Common.{◌==◌}
use Rattle.voe_scenario.proofs.Pieces.{too_many_config_words}
use Rattle.voe_scenario.proofs.config_line.words_statement.Goals as goal

pub returns-in-Some : goal.returns-in-Some
returns-in-Some c =
    let first = rw c.in-Some.is at c.cut_word.ensures.first in
    rw first (too_many_config_words (λ b. b == 32) c.args.word.now c.cut_word.result.0.now c.in-Some.field-0.now)
