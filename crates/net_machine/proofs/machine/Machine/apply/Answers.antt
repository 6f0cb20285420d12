-- What was done is told.
use Rattle.net_machine.proofs.machine.Machine.apply.Goals as goal

pub returns-in-Ok-clause-told : goal.returns-in-Ok-clause-told
returns-in-Ok-clause-told g c = rw (← c.self.view_is) c.in-Ok.ensures.told

pub returns-in-Ok-clause-steps : goal.returns-in-Ok-clause-steps
returns-in-Ok-clause-steps g c = rw (← c.self.view_is) c.in-Ok.ensures.steps
