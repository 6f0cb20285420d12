use Rattle.voevent_cli.proofs.Wants.{wanted_above_net, wanted_above_init}
use Rattle.voevent_cli.proofs.prepare.refusal_above.Goals as goal

pub returns-in-Net : goal.returns-in-Net
returns-in-Net c = wanted_above_net c.args.command c.in-Net.is

pub returns-in-Init : goal.returns-in-Init
returns-in-Init c = wanted_above_init c.args.command c.in-Init.is
