-- Each turn reads the filters of one edge.
use Rattle.std.proofs.Common.{◌∙◌, subst, length-set}
use Rattle.std.proofs.lemmas.List.{take_all}
use Rattle.std.specs.List.{All}
use Rattle.voe_scenario.specs.Scenarios.{IsEdgeRead}
use Rattle.voe_scenario.proofs.Filled.{one_more_read, one_more_same}
use Rattle.voe_scenario.proofs.text.read_edges.Goals as goal

pub loop-at-preserved : goal.loop-at-preserved
loop-at-preserved c = record {
  same = one_more_same c.loop-at.edges c.loop-at.at c.get_mut.result.now c.read_edge.new.edge c.get_mut.ensures.value c.in_ok-read_edge.ensures.same ∙ c.loop-at.invariant.same;
  many = length-set c.loop-at.edges c.loop-at.at c.read_edge.new.edge ∙ c.loop-at.invariant.many;
  read = one_more_read c.loop-at.edges c.loop-at.at c.get_mut.result.now c.read_edge.new.edge c.get_mut.ensures.value c.loop-at.invariant.read c.in_ok-read_edge.ensures.read;
}

pub returns-clause-read : goal.returns-clause-read
returns-clause-read c = subst (All IsEdgeRead) (take_all c.loop-at.at c.loop-at.edges (rw (c.len-at-end.ensures, ← c.loop-at.invariant.many) at c.loop-at-test.false)) c.loop-at.invariant.read
