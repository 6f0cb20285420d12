-- So it is with a number behind it.
use Rattle.std.proofs.Common.{arith, refl}
use Rattle.voe_scenario.proofs.NodeNames.{numbered_end}
use Rattle.voe_scenario.proofs.graph.numbered_name.Goals as goal

pub of-requires : goal.of-requires
of-requires c =
    let named = numbered_end c.args.node c.args.number (omega arith) (omega arith) in
    rw (c.as_str.ensures.value, c.in_ok-text.ensures.ok, named) refl
