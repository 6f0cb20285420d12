use Rattle.std.proofs.Common.{◌≡◌, drop}
use Rattle.std.specs.List.{list_any}
use Rattle.voe_tree.specs.Rules.{same_named}
use Rattle.voe_tree.proofs.names.is_named_in.Given as goal

abbrev pub invariant-loop-other : goal.invariant-loop-other
invariant-loop-other l = list_any (same_named l.first) (drop l.other-index l.others) ≡ list_any (same_named l.first) l.others
