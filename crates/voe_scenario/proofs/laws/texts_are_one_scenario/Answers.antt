-- The lines of a text give one outcome, and filters are the same but for their places.
use Rattle.voe_scenario.proofs.Same.{scenario_once}
use Rattle.voe_scenario.proofs.laws.texts_are_one_scenario.Goals as goal

pub returns : goal.returns
returns c = scenario_once
