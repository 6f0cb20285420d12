-- What breaks no rule keeps a configuration sound.
use Rattle.voe_scenario.proofs.ConfigKept.{kept_where}
use Rattle.voe_scenario.proofs.config_text.ConfigReaderTakesLines.take_line.Goals as goal

pub returns-clause-sound : goal.returns-clause-sound
returns-clause-sound c =
    kept_where c.add_config_statement.result c.self.inside.config c.add_config_statement.new.config c.args.line.now _ (rw c.self.view_is c.requires)
    c.in_ok-said.ensures.fits c.add_config_statement.ensures.added
