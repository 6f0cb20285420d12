-- The name of a node is the name of an end.
use Rattle.std.proofs.Common.{arith, refl}
use Rattle.voe_scenario.proofs.NodeNames.{node_end}
use Rattle.voe_scenario.proofs.graph.node_name.Goals as goal

pub of-requires : goal.of-requires
of-requires c =
    let named = node_end c.args.node (omega arith) in
    rw (c.as_str.ensures.value, c.in_ok-text.ensures.ok, named) refl
