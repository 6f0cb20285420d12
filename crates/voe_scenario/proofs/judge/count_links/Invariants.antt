-- The links so far, and those among the edges that are left.
use Rattle.std.proofs.Common.{◌≡◌, ◌+◌, ◌≤◌, length, drop, map}
use Rattle.std.specs.Prelude.{filter, ◌==◌}
use Rattle.voe_scenario.specs.Shapes.{ends_of}
use Rattle.voe_scenario.proofs.judge.count_links.Given as goal

abbrev pub invariant-loop-edge : goal.invariant-loop-edge
invariant-loop-edge l = record {
  counted : l.count + length (filter (λ edge. edge.upper == l.node) (map ends_of (drop l.edge-index l.edges))) ≡ length (filter (λ edge. edge.upper == l.node) (map ends_of l.edges));
  few : l.count ≤ l.edge-index;
}
