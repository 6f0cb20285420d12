use Rattle.std.proofs.Common.{◌≡◌, ◌++◌, drop, map}
use Rattle.std.specs.Prelude.{codes, filter}
use Rattle.voe_tree.specs.Contents.{elements_in}
use Rattle.voe_packet.specs.Params.{param_of}
use Rattle.vtp_messages.specs.Parts.{children_local, has_local}
use Rattle.vtp_messages.proofs.read.add_params.Given as goal

abbrev pub invariant-loop-node : goal.invariant-loop-node
invariant-loop-node l =
    l.params ++ map param_of (filter (has_local (codes "Param")) (elements_in (drop l.node-index l.node-items)))
    ≡ l.initial.params ++ map param_of (children_local l.meta (codes "Param"))
