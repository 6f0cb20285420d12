use Rattle.std.proofs.Common.{◌≡◌, length, ap, arith, ◌∙◌, List, Bool}
use Rattle.path_filter.proofs.LinkBits.{decided_len}
use Rattle.path_filter.proofs.links.LinkFilters.passing.Goals as goal

pub numbers_of-requires : goal.numbers_of-requires
numbers_of-requires c =
    let same : length c.as_slice.result.now ≡ length c.args.self.now.sets =
    ap (λ (l : List Bool). length l) c.as_slice.ensures ∙ decided_len c.in_ok-bits.bits c.args.self.now.sets c.args.tree.now.root c.in_ok-bits.ensures in
    omega (arith, same, c.requires)
