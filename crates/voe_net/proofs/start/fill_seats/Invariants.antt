use Rattle.std.proofs.Common.{◌≡◌, ◌+◌, ◌++◌, List, length, reverse, vec_capacity}
use Rattle.voe_net.specs.Begun.{AreBegun}
use Rattle.voe_net.proofs.start.fill_seats.Given as goal

abbrev pub invariant-loop-disk : goal.invariant-loop-disk
invariant-loop-disk g l = record {
  made : (first : List _) × (reverse l.initial.disks.items ≡ first ++ reverse l.disks.items) × AreBegun g.D.Disk l.graph first l.seats.items;
  count : length l.seats.items + length l.disks.items ≡ length l.initial.disks.items;
  disks_room : vec_capacity l.disks ≡ vec_capacity l.initial.disks;
  seats_room : vec_capacity l.seats ≡ vec_capacity l.initial.seats;
}

abbrev pub decreases-loop-disk : goal.decreases-loop-disk
decreases-loop-disk g l = length l.disks.items
