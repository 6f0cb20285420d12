-- The links so far, and those of the edges that are left.
use Rattle.std.proofs.Common.{◌≡◌, ◌++◌, [], drop}
use Rattle.voe_scenario.specs.Shapes.{edges_from, links_behind}
use Rattle.voe_scenario.proofs.graph.links_of.Given as goal

abbrev pub invariant-loop-edge : goal.invariant-loop-edge
invariant-loop-edge l =
    l.links ++ links_behind l.earlier (edges_from l.node (drop l.edge-index l.edges)) ≡ links_behind [] (edges_from l.node l.edges)
