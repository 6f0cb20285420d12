-- An edge out of the node is taken, and another passed.
use Rattle.voe_scenario.proofs.Linked.{passed, taken_where}
use Rattle.voe_scenario.proofs.graph.take_edge.Goals as goal

pub returns-then-edge-node : goal.returns-then-edge-node
returns-then-edge-node c =
    taken_where c.add_link.result c.args.node c.args.edge.now c.args.links.now c.add_link.new.links c.args.earlier.now c.add_link.new.earlier
    c.if-edge-node.true c.add_link.ensures.link c.add_link.ensures.lower

pub returns-else-edge-node : goal.returns-else-edge-node
returns-else-edge-node c = passed c.args.node c.args.edge.now c.args.links.now c.args.earlier.now c.if-edge-node.false
