use Rattle.voevent_cli.proofs.Wants.{does_all}
use Rattle.voevent_cli.proofs.top.offline.Goals as goal

pub returns-clause-complete : goal.returns-clause-complete
returns-clause-complete g c text told = rw c.code.ensures (does_all g.R.Trial.Disk g.R.Real.Disk c.args.words.now _ text _ _ c.finish.result told c.finish.ensures.ends.gave c.finish.ensures.ends.says)
