use Rattle.std.proofs.Common.{◌<◌, length, arith, ap}
use Rattle.voe_tree.proofs.ValueLaws.{boundary_at_one}
use Rattle.voe_tree.proofs.values.split_byte.Goals as goal

pub split_at-requires : goal.split_at-requires
split_at-requires c =
    let some : 0 < length c.args.text.now = omega (arith, ap length c.as_bytes.ensures.value) in
    boundary_at_one c.args.text.now c.utf8.text some (c.requires some)
