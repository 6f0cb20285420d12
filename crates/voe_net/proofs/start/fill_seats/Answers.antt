-- The nodes that were made so far.
use Rattle.std.proofs.Common.{[], ◌∷◌, true, arith, ap, length, length-append, reverse}
use Rattle.voe_net.proofs.Backs.{made-on, next-there}
use Rattle.voe_net.proofs.start.fill_seats.Goals as goal

pub make_node-requires-clause-blank : goal.make_node-requires-clause-blank
make_node-requires-clause-blank g c =
    c.requires.blank (length c.loop-disk.invariant.made.0) c.in-Some.disk
    (next-there g.D.Disk c.args.graph.now (reverse c.args.disks.now.items) c.loop-disk.disks.items c.pop.new.self.items c.in-Some.disk c.loop-disk.seats.items c.loop-disk.invariant.made c.in-Some.ensures.items)

pub make_node-requires-clause-unarmed : goal.make_node-requires-clause-unarmed
make_node-requires-clause-unarmed g c =
    c.requires.unarmed (length c.loop-disk.invariant.made.0) c.in-Some.disk
    (next-there g.D.Disk c.args.graph.now (reverse c.args.disks.now.items) c.loop-disk.disks.items c.pop.new.self.items c.in-Some.disk c.loop-disk.seats.items c.loop-disk.invariant.made c.in-Some.ensures.items)

pub loop-disk-preserved : goal.loop-disk-preserved
loop-disk-preserved g c =
    let fewer = ap length c.in-Some.ensures.items in
    let more = ap length c.push_reserved.ensures.items in
    let left = length-append c.pop.new.self.items (c.in-Some.disk ∷ []) in
    record {
      made = made-on g.D.Disk c.args.graph.now (reverse c.args.disks.now.items) c.loop-disk.disks.items c.pop.new.self.items c.in-Some.disk c.loop-disk.seats.items
          c.push_reserved.new.self.items c.in-Ok.end _ c.loop-disk.invariant.made c.in-Some.ensures.items (omega arith) c.in-Ok.ensures.ok c.push_reserved.ensures.items;
      count = omega (arith, fewer, more, left, length-append c.loop-disk.seats.items (record { up = true; end = c.in-Ok.end } ∷ []), c.loop-disk.invariant.count);
      disks_room = omega (arith, c.pop.ensures.capacity, c.loop-disk.invariant.disks_room);
      seats_room = omega (arith, c.push_reserved.ensures.capacity, c.loop-disk.invariant.seats_room);
    }
