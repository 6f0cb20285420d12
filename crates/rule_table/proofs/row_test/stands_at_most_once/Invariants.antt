use Rattle.std.proofs.Common.{◌≡◌, ◌+◌, drop, length}
use Rattle.std.specs.Prelude.{filter, if◌then◌else◌}
use Rattle.voe_tree.specs.Contents.{children_called, is_called, elements_in}
use Rattle.rule_table.proofs.row_test.stands_at_most_once.Given as goal

abbrev pub invariant-loop-node : goal.invariant-loop-node
invariant-loop-node l =
    (if l.stood then 1 else 0) + length (filter (is_called l.name) (elements_in (drop l.node-index l.node-items)))
    ≡ length (children_called l.root l.name)
