use Rattle.std.proofs.Common.{◌≡◌, ◌++◌, drop}
use Rattle.std.specs.List.{flat_map}
use Rattle.voe_validity.specs.RemarkList.{number_if_held}
use Rattle.voe_validity.proofs.gather.numbers_held.Given as goal

abbrev pub invariant-loop-remark : goal.invariant-loop-remark
invariant-loop-remark l =
    l.numbers ++ flat_map (number_if_held l.root) (drop l.remark-index l.remarks) ≡ flat_map (number_if_held l.root) l.remarks
