-- A number is made of up to seven digits.
use Rattle.std.proofs.Common.{sym, ◌∙◌}
use Rattle.voe_scenario.proofs.Numbers.{number_few, number_all}
use Rattle.voe_scenario.proofs.words.number.Goals as goal

pub value-requires-clause-few : goal.value-requires-clause-few
value-requires-clause-few c = number_few c.as_bytes-word.result.now (sym c.is_number.ensures ∙ c.if-is_number.true)

pub value-requires-clause-digits : goal.value-requires-clause-digits
value-requires-clause-digits c = number_all c.as_bytes-word.result.now (sym c.is_number.ensures ∙ c.if-is_number.true)
