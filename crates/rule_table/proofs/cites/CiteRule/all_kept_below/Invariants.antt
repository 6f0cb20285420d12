use Rattle.std.proofs.Common.{◌≡◌, drop}
use Rattle.std.specs.Prelude.{codes, filter}
use Rattle.std.specs.List.{list_all}
use Rattle.voe_tree.specs.Contents.{is_called, elements_in}
use Rattle.voe_tree.specs.Validity.{cited_in, citations_of}
use Rattle.rule_table.specs.Cites.{is_kept}
use Rattle.rule_table.proofs.cites.CiteRule.all_kept_below.Given as goal

abbrev pub invariant-loop-node : goal.invariant-loop-node
invariant-loop-node l =
    list_all (is_kept l.self) (cited_in (filter (is_called (codes "Citations")) (elements_in (drop l.node-index l.node-items))))
    ≡ list_all (is_kept l.self) (citations_of l.root)
