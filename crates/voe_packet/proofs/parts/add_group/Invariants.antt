use Rattle.std.proofs.Common.{◌≡◌, ◌++◌, drop, map}
use Rattle.std.specs.Prelude.{codes, filter}
use Rattle.voe_tree.specs.Contents.{children_called, elements_in, is_called}
use Rattle.voe_packet.specs.Params.{param_of}
use Rattle.voe_packet.proofs.parts.add_group.Given as goal

abbrev pub invariant-loop-node : goal.invariant-loop-node
invariant-loop-node l =
    l.params ++ map param_of (filter (is_called (codes "Param")) (elements_in (drop l.node-index l.node-items)))
    ≡ l.initial.params ++ map param_of (children_called l.group (codes "Param"))
