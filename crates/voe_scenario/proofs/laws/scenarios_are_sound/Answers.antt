-- Whoever reads a text, the scenario that it is is sound.
use Rattle.voe_scenario.proofs.Accepted.{accepted_sound}
use Rattle.voe_scenario.proofs.laws.scenarios_are_sound.Goals as goal

pub returns : goal.returns
returns c =
    accepted_sound (record { fits = c.short_drafts_fit.ensures.fits; some = c.short_drafts_fit.ensures.some; bound = c.short_drafts_fit.ensures.bound })
