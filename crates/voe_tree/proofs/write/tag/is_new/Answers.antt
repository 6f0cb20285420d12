use Rattle.std.proofs.Common.{◌≡◌, arith, true}
use Rattle.voe_tree.specs.Canonical.{is_numbered}
use Rattle.voe_tree.proofs.WrittenNumbers.{new_among}
use Rattle.voe_tree.proofs.write.tag.is_new.Goals as goal

pub returns : goal.returns
returns c =
    let numbered : is_numbered c.args.space.now ≡ true = grind (arith, c.is_numbered.ensures, c.if-not-is_numbered.ensures, c.if-not-is_numbered.false) in
    new_among c.args.space.now c.args.spaces.now c.number_of.result (is_numbered c.args.space.now) c.number_of.ensures.value numbered
