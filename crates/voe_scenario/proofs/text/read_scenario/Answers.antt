-- The reading of the lines, and then of the filters, is the function's answer.
use Rattle.std.proofs.Common.{rules}
use Rattle.voe_scenario.proofs.Filled.{scenario_fault, scenario_filled, sound_filled}
use Rattle.voe_scenario.proofs.text.read_scenario.Goals as goal

pub returns-in_err-take_text-clause-refused : goal.returns-in_err-take_text-clause-refused
returns-in_err-take_text-clause-refused c =
    let told = scenario_fault c.args.bytes.now c.in_err-take_text.field-0.0 (rw c.empty-scenario.ensures.empty at c.in_err-take_text.ensures.refused) in
    search (rules, told)

pub returns-in-Ok-clause-ok : goal.returns-in-Ok-clause-ok
returns-in-Ok-clause-ok c =
    scenario_filled c.args.bytes.now c.take_text.new.reader c.read_edges.new.edges c.in-Ok.ensures.same c.in-Ok.ensures.read
    (rw c.empty-scenario.ensures.empty at c.in_ok-take_text.ensures.ok)

pub returns-in-Ok-clause-sound : goal.returns-in-Ok-clause-sound
returns-in-Ok-clause-sound c =
    sound_filled c.take_text.new.reader c.read_edges.new.edges c.in-Ok.ensures.same c.in-Ok.ensures.read c.in_ok-take_text.ensures.sound
