-- The edges so far are read, and nothing else of any is changed.
use Rattle.std.proofs.Common.{◌≡◌, length, map, take}
use Rattle.std.specs.List.{All}
use Rattle.voe_scenario.specs.Scenarios.{IsEdgeRead, unread_edge}
use Rattle.voe_scenario.proofs.text.read_edges.Given as goal

abbrev pub invariant-loop-at : goal.invariant-loop-at
invariant-loop-at l = record {
  same : map unread_edge l.edges ≡ map unread_edge l.fn.edges;
  many : length l.edges ≡ length l.fn.edges;
  read : All IsEdgeRead (take l.at l.edges);
}
