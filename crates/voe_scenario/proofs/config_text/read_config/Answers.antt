-- What the lines make is the configuration.
use Rattle.std.proofs.Common.{Ok, Some, None, refl, rules}
use Rattle.voe_scenario.proofs.ConfigReads.{config_fault}
use Rattle.voe_scenario.proofs.ConfigKept.{config_form}
use Rattle.voe_scenario.proofs.config_text.read_config.Goals as goal

pub returns-in_err-take_text-clause-refused : goal.returns-in_err-take_text-clause-refused
returns-in_err-take_text-clause-refused c =
    let told = config_fault c.args.bytes.now c.in_err-take_text.field-0.0 (rw c.new-reader.ensures at c.in_err-take_text.ensures.refused) in
    search (rules, told)

pub returns-in-Some-clause-ok : goal.returns-in-Some-clause-ok
returns-in-Some-clause-ok c = (Ok (Some c.in-Some.config), rw (c.new-reader.ensures, ← c.in-Some.ensures) at c.in_ok-take_text.ensures.ok, refl)

pub returns-in-Some-clause-form : goal.returns-in-Some-clause-form
returns-in-Some-clause-form c = config_form c.in-Some.config (rw (← c.in-Some.ensures) at c.in_ok-take_text.ensures.sound)

pub returns-in-Some-clause-sound : goal.returns-in-Some-clause-sound
returns-in-Some-clause-sound c = rw (← c.in-Some.ensures) at c.in_ok-take_text.ensures.sound

pub returns-in-None-clause-refused : goal.returns-in-None-clause-refused
returns-in-None-clause-refused c = (Ok None, rw (c.new-reader.ensures, ← c.in-None.ensures) at c.in_ok-take_text.ensures.ok, refl)
