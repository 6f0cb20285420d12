-- The ends so far, and those of the edges that are left.
use Rattle.std.proofs.Common.{◌≡◌, ◌++◌, drop, map}
use Rattle.voe_scenario.specs.Shapes.{ends_of}
use Rattle.voe_scenario.proofs.graph.all_ends.Given as goal

abbrev pub invariant-loop-edge : goal.invariant-loop-edge
invariant-loop-edge l = l.ends ++ map ends_of (drop l.edge-index l.edges) ≡ map ends_of l.edges
