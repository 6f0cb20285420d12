use Rattle.std.proofs.Common.{◌≡◌, drop}
use Rattle.std.specs.List.{list_any}
use Rattle.xml_lexer.specs.View.{all_spelled, spelled}
use Rattle.voe_tree.specs.Rules.{same_spelled}
use Rattle.voe_tree.proofs.names.is_spelled_in.Given as goal

abbrev pub invariant-loop-other : goal.invariant-loop-other
invariant-loop-other l =
    list_any (same_spelled (spelled l.first)) (all_spelled (drop l.other-index l.others)) ≡ list_any (same_spelled (spelled l.first)) (all_spelled l.others)
