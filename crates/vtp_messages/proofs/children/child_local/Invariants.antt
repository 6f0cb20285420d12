use Rattle.std.proofs.Common.{◌≡◌, drop}
use Rattle.std.specs.Prelude.{find}
use Rattle.voe_tree.specs.Contents.{elements_in}
use Rattle.vtp_messages.specs.Parts.{child_local, has_local}
use Rattle.vtp_messages.proofs.children.child_local.Given as goal

abbrev pub invariant-loop-node : goal.invariant-loop-node
invariant-loop-node l = find (has_local l.local) (elements_in (drop l.node-index l.node-items)) ≡ child_local l.element l.local
