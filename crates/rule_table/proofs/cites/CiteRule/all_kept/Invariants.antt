use Rattle.std.proofs.Common.{◌≡◌, drop}
use Rattle.std.specs.Prelude.{codes, filter}
use Rattle.std.specs.List.{list_all}
use Rattle.voe_tree.specs.Contents.{children_called, is_called, elements_in}
use Rattle.rule_table.specs.Cites.{is_kept}
use Rattle.rule_table.proofs.cites.CiteRule.all_kept.Given as goal

abbrev pub invariant-loop-node : goal.invariant-loop-node
invariant-loop-node l =
    list_all (is_kept l.self) (filter (is_called (codes "EventIVORN")) (elements_in (drop l.node-index l.node-items)))
    ≡ list_all (is_kept l.self) (children_called l.section (codes "EventIVORN"))
