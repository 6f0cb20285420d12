use Rattle.std.proofs.Common.{◌≡◌, ◌++◌, drop, map}
use Rattle.std.specs.List.{flat_map}
use Rattle.voe_tree.specs.Contents.{elements_in}
use Rattle.voe_packet.specs.Params.{param_of}
use Rattle.voe_packet.specs.Parts.{params_in}
use Rattle.voe_packet.proofs.parts.add_params.Given as goal

abbrev pub invariant-loop-node : goal.invariant-loop-node
invariant-loop-node l =
    l.params ++ map param_of (flat_map params_in (elements_in (drop l.node-index l.node-items)))
    ≡ l.initial.params ++ map param_of (flat_map params_in (elements_in l.what.children))
