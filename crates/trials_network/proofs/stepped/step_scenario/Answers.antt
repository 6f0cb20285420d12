-- The packets of a scenario are short.
use Rattle.voevent_cli.proofs.Ran.{all_packets}
use Rattle.trials_network.proofs.stepped.step_scenario.Goals as goal

pub new-requires-clause-packets : goal.new-requires-clause-packets
new-requires-clause-packets g c = rw c.as_slice.ensures (all_packets c.args.scenario.now.packets c.requires.so_far.short)
