use Rattle.std.proofs.Common.{◌≡◌, ◌+◌, ◌≤◌, ◌++◌, List, length, reverse, vec_capacity}
use Rattle.voe_net.specs.TakenBack.{AreTakenBack}
use Rattle.voe_net.proofs.take_back.give_back.Given as goal

abbrev pub invariant-loop-seat : goal.invariant-loop-seat
invariant-loop-seat g l = record {
  taken : (gone : List _) × (back : List _) × (l.fn.seats ≡ l.left.items ++ gone) × AreTakenBack g.D.Disk gone back
      × (l.disks.items ≡ l.initial.disks.items ++ reverse back);
  room : length l.left.items + length l.disks.items ≤ vec_capacity l.disks;
}

abbrev pub decreases-loop-seat : goal.decreases-loop-seat
decreases-loop-seat g l = length l.left.items
