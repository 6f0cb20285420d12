-- What refuses the lines of a configuration refuses its text.
use Rattle.std.proofs.Common.{ℕ, List, None, Err, refl}
use Rattle.voe_scenario.specs.declared.fault.ScenarioFault.{ScenarioFault}
use Rattle.voe_scenario.specs.declared.fault.ScenarioFault.TheVariants.{Refused, NoMemory}
use Rattle.voe_scenario.specs.ConfigRefusals.{RefusesConfigLine}
use Rattle.voe_scenario.specs.Configs.{IsConfigOf, with_config_line}
use Rattle.voe_scenario.specs.Faults.{IsTextFault}
use Rattle.voe_scenario.specs.Lines.{TextRead}

pub config_fault : (text : List ℕ) (fault : ScenarioFault) → IsTextFault (TextRead RefusesConfigLine with_config_line None text) fault → IsTextFault (IsConfigOf text) fault
config_fault text (Refused number line) told = (Err (record { number = number; line = line }), told, refl)
config_fault text NoMemory told = tt
