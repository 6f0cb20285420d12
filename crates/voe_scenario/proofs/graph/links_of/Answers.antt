-- Each edge leads on.
use Rattle.voe_scenario.proofs.Linked.{turned}
use Rattle.voe_scenario.proofs.graph.links_of.Goals as goal

pub loop-edge-preserved : goal.loop-edge-preserved
loop-edge-preserved c =
    turned c.args.node c.args.edges.now c.loop-edge.edge-index c.edge-item.result c.loop-edge.links c.take_edge.new.links c.loop-edge.earlier c.take_edge.new.earlier _
    c.loop-edge-test.true c.edge-item.is c.in_ok-take_edge.ensures c.loop-edge.invariant
