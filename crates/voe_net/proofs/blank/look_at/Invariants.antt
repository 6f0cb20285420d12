use Rattle.std.proofs.Common.{◌≡◌, ℕ, ◌<◌, Some}
use Rattle.std.specs.Prelude.{slice_get}
use Rattle.voe_net.specs.Looking.{AreLooked, NoneFailed}
use Rattle.voe_net.specs.Starting.{IsBlank}
use Rattle.voe_net.proofs.blank.look_at.Given as goal

abbrev pub invariant-loop-node : goal.invariant-loop-node
invariant-loop-node g l = record {
  looked : AreLooked g.D.Disk l.initial.disks l.disks;
  none_failed : NoneFailed g.D.Disk l.initial.disks l.disks;
  blank : (n : ℕ) (own : _) → n < l.node → slice_get l.initial.disks n ≡ Some own → IsBlank g.D.Disk own;
}
