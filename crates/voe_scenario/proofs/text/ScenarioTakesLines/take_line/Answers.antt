-- What breaks no rule keeps a scenario sound.
use Rattle.voe_scenario.proofs.Kept.{brings_packet, kept_where}
use Rattle.voe_scenario.proofs.text.ScenarioTakesLines.take_line.Goals as goal

pub add_line-requires-clause-written : goal.add_line-requires-clause-written
add_line-requires-clause-written c = brings_packet c.args.self.now c.args.line.now _ c.in_ok-said.ensures.fits

pub returns-clause-sound : goal.returns-clause-sound
returns-clause-sound c =
    kept_where c.add_line.result (record { fits = c.short_drafts_fit.ensures.fits; some = c.short_drafts_fit.ensures.some; bound = c.short_drafts_fit.ensures.bound }) c.args.self.now c.add_line.new.scenario c.args.line.now _
    c.requires c.in_ok-said.ensures.fits c.add_line.ensures.added
