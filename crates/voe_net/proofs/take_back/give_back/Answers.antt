-- The disks that were taken so far.
use Rattle.std.proofs.Common.{[], ◌∷◌, arith, ap, length, length-append}
use Rattle.voe_net.proofs.Backs.{taken-first, taken-on}
use Rattle.voe_net.proofs.take_back.give_back.Goals as goal

pub loop-seat-init : goal.loop-seat-init
loop-seat-init g c = record {
  taken = rw c.into_vec-left.ensures (taken-first g.D.Disk c.args.seats c.args.disks.now.items);
  room = rw c.into_vec-left.ensures c.requires;
}

pub loop-seat-preserved : goal.loop-seat-preserved
loop-seat-preserved g c = record {
  taken = taken-on g.D.Disk c.args.seats c.loop-seat.left.items c.pop.new.self.items c.in-Some.seat c.args.disks.now.items c.loop-seat.disks.items c.push_reserved.new.self.items
      c.into_disk.result c.loop-seat.invariant.taken c.in-Some.ensures.items
      (record { its = c.into_disk.ensures.its; kept = c.into_disk.ensures.kept; unarmed = c.into_disk.ensures.unarmed; faults = c.into_disk.ensures.faults; told = c.into_disk.ensures.told })
      c.push_reserved.ensures.items;
  room =
      let fewer = ap length c.in-Some.ensures.items in
      let more = ap length c.push_reserved.ensures.items in
      omega (arith, fewer, more, c.loop-seat.invariant.room, c.push_reserved.ensures.capacity, length-append c.pop.new.self.items (c.in-Some.seat ∷ []), length-append c.loop-seat.disks.items (c.into_disk.result ∷ []));
}
