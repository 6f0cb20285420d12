use Rattle.std.proofs.Common.{◌≡◌, ◌++◌, drop, map}
use Rattle.std.specs.Prelude.{codes, filter}
use Rattle.std.specs.List.{flat_map}
use Rattle.voe_tree.specs.Contents.{elements_in, is_called}
use Rattle.voe_packet.specs.Params.{param_of}
use Rattle.voe_packet.specs.Parts.{params_of, params_within}
use Rattle.voe_packet.proofs.parts.params_of.Given as goal

abbrev pub invariant-loop-node : goal.invariant-loop-node
invariant-loop-node l =
    l.params ++ map param_of (flat_map params_within (filter (is_called (codes "What")) (elements_in (drop l.node-index l.node-items))))
    ≡ map param_of (params_of l.root)
