use Rattle.std.proofs.Common.{◌≡◌, Some, ap, ◌∙◌}
use Rattle.voe_world.specs.Parts.{Parts}
use Rattle.voevent_online.specs.Listening.{IsUnfit}
use Rattle.voevent_online.proofs.Listened.{loaded_says, possible, unloaded_says}
use Rattle.voevent_online.proofs.listening.listen.Goals as goal

module _ {So Si D Di Li Sp : Type 0} where
  disk_in : (p q : Parts So Si D Di Li Sp) → p ≡ q → p.disk ≡ q.disk
  disk_in p q e = ap (λ (x : Parts So Si D Di Li Sp). x.disk) e

  with_disk : (n : Parts So Si D Di Li Sp) (d e : D) → d ≡ e → record n { disk = Some d } ≡ record n { disk = Some e }
  with_disk n d e same = ap (λ (x : D). record n { disk = Some x }) same

pub returns-in-Ok-clause-tells : goal.returns-in-Ok-clause-tells
returns-in-Ok-clause-tells g c =
    let p = g.W.World.parts c.args.world.now in
    let m = g.W.World.parts c.take_disk-disk.new.world in
    let n = g.W.World.parts c.follow-status.new.world in
    let q = g.W.World.parts c.put_back.new.world in
    let after = c.follow-status.new.end in
    let back = c.put_back.ensures.parts ∙ with_disk n c.into_disk-disk.result after.disk c.into_disk-disk.ensures.disk in
    loaded_says g.W.D.Disk g.W.Si.Sink g.W.Di.L.Link g.W.Di.Dialer.returns g.W.Di.Dialer.fault_count p q
    c.moments_of.ensures c.args.count c.follow-status.result m n c.in-Ok.end after
    c.take_disk-disk.ensures.parts back c.follow-status.ensures.forward c.follow-status.ensures.follows
    (record {
      taken = c.take_disk-disk.result;
      taken_is = c.take_disk-disk.ensures.taken;
      unarmed = c.take_disk-disk.ensures.unarmed;
      kind = c.in-Ok.ensures.ok.1;
      readable = c.in-Ok.ensures.ok.2;
      loaded = c.in-Ok.ensures.ok.3;
      back_is = disk_in q (record n { disk = Some after.disk }) back;
      same = c.follow-status.ensures.same;
      sound = c.into_disk-disk.ensures.sound;
    })

pub returns-in-Err-clause-tells : goal.returns-in-Err-clause-tells
returns-in-Err-clause-tells g c =
    let p = g.W.World.parts c.args.world.now in
    let m = g.W.World.parts c.take_disk-disk.new.world in
    let n = g.W.World.parts c.put_back-in-Err.new.world in
    let q = g.W.World.parts c.answer_unloaded.new.world in
    let taken = c.take_disk-disk.result in
    unloaded_says g.W.D.Disk g.W.Si.Sink g.W.Di.L.Link g.W.Di.Dialer.returns g.W.Di.Dialer.fault_count p q
    c.args.count c.answer_unloaded.result m n taken c.in-Err.disk c.in-Err.fault
    c.take_disk-disk.ensures.parts c.put_back-in-Err.ensures.parts c.answer_unloaded.ensures.parts
    c.take_disk-disk.ensures.taken
    (possible g.W.D.Disk IsUnfit taken c.in-Err.disk c.in-Err.fault c.take_disk-disk.ensures.unarmed c.in-Err.ensures.err)
    c.in-Err.ensures.err c.answer_unloaded.ensures.answer
