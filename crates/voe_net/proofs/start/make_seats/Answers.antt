-- The disks that come back.
use Rattle.std.proofs.Common.{arith, ap, length, reverse, sym, ◌∙◌, subst, List}
use Rattle.std.proofs.lemmas.List.{length-reverse, reverse-reverse}
use Rattle.std.specs.Prelude.{Option}
use Rattle.node_book.specs.Ends.{EndView}
use Rattle.net_machine.specs.declared.seat.Seat.{Seat}
use Rattle.voe_net.specs.Begun.{HasStopped}
use Rattle.voe_net.specs.TakenBack.{AreTakenBack}
use Rattle.voe_net.specs.Starting.{AreBack}
use Rattle.voe_net.proofs.Backs.{stopped-back, stopped-count}
use Rattle.voe_net.proofs.start.make_seats.Goals as goal

pub give_back-requires : goal.give_back-requires
give_back-requires g c =
    let count = stopped-count g.D.Disk c.args.graph.now (reverse c.reverse.new.self.items) c.fill_seats.new.disks.items c.fill_seats.new.seats.items c.in-Err.fault c.in-Err.ensures.err in
    omega (
      arith,
      count,
      ap length c.from_vec.ensures,
      length-reverse c.reverse.new.self.items,
      ap length c.reverse.ensures.items,
      length-reverse c.args.disks.now.items,
      c.fill_seats.ensures.capacity,
      c.reverse.ensures.capacity,
      c.requires.kept,
    )

pub returns-in-Err-clause-err : goal.returns-in-Err-clause-err
returns-in-Err-clause-err g c =
    let same = ap reverse c.reverse.ensures.items ∙ reverse-reverse c.args.disks.now.items in
    let stopped = subst (λ (all : List g.row.D.Denot). HasStopped g.D.Disk c.args.graph.now all c.fill_seats.new.disks.items c.fill_seats.new.seats.items c.in-Err.fault) same c.in-Err.ensures.err in
    let taken = subst (λ (seats : List (Seat (Option (EndView g.row.D.Denot)))). AreTakenBack g.D.Disk seats c.give_back.ensures.0) c.from_vec.ensures c.give_back.ensures.1 in
    let back = stopped-back g.D.Disk c.args.graph.now c.args.disks.now.items c.fill_seats.new.disks.items c.fill_seats.new.seats.items c.in-Err.fault c.give_back.ensures.0
    stopped taken c.requires.unarmed in
    subst (λ (all : List g.row.D.Denot). AreBack g.D.Disk c.args.disks.now.items all c.in-Err.fault) (sym c.give_back.ensures.2) back
