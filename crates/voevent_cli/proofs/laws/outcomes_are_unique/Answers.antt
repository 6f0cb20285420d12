use Rattle.voevent_cli.proofs.Once.{wanted_once}
use Rattle.voevent_cli.proofs.laws.outcomes_are_unique.Goals as goal

pub returns : goal.returns
returns g c = wanted_once g.R.Trial.Disk g.R.Real.Disk
    (record { one_list = c.one_reading.ensures.one_list; not_refused = c.one_reading.ensures.not_refused; one_refusal = c.one_reading.ensures.one_refusal })
    c.texts_are_one_config.ensures c.texts_are_one_scenario.ensures
    (record { one_filter = c.filters_are_unique.ensures; not_refused = c.read_is_not_refused.ensures; one_refusal = c.refusals_are_unique.ensures })
