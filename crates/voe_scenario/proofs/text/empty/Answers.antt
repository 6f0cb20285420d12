-- Nothing breaks a limit of nothing.
use Rattle.voe_scenario.proofs.Kept.{nothing_sound}
use Rattle.voe_scenario.proofs.text.empty.Goals as goal

pub returns-clause-sound : goal.returns-clause-sound
returns-clause-sound c = rw (c.new.ensures, c.new-2.ensures, c.new-3.ensures, c.new-4.ensures) nothing_sound
