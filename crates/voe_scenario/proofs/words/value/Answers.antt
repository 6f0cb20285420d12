-- Six digits and one more are below ten million.
use Rattle.std.proofs.Common.{◌<◌, arith}
use Rattle.voe_scenario.proofs.Numbers.{ten_to}
use Rattle.voe_scenario.proofs.words.value.Goals as goal

pub overflow_mul-value : goal.overflow_mul-value
overflow_mul-value c =
    let small : c.loop-digit.value < 1000000 = omega (arith, ten_to c.loop-digit.digit-index (omega arith)) in
    omega arith

pub overflow_add-value : goal.overflow_add-value
overflow_add-value c =
    let small : c.loop-digit.value < 1000000 = omega (arith, ten_to c.loop-digit.digit-index (omega arith)) in
    omega arith
