-- The packets of a scenario are short.
use Rattle.trials_nodes.proofs.Packets.{all_packets}
use Rattle.trials_nodes.proofs.nodes.is_looked_at.Goals as goal

pub new-requires-clause-packets : goal.new-requires-clause-packets
new-requires-clause-packets c = rw c.as_slice.ensures (all_packets c.args.scenario.now.packets c.requires.so_far.short)
