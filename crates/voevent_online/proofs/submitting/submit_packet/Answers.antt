use Rattle.std.proofs.Common.{◌≡◌, Some, None, sym, ap, ◌∙◌, subst}
use Rattle.voe_world.specs.Parts.{Parts}
use Rattle.voevent_online.specs.Submitting.{IsNoAuthor}
use Rattle.voevent_online.proofs.Later.{becomes_later}
use Rattle.voevent_online.proofs.Listened.{possible}
use Rattle.voevent_online.proofs.Tried.{loaded_tells, unloaded_tells}
use Rattle.voevent_online.proofs.submitting.submit_packet.Goals as goal

module _ {So Si D Di Li Sp : Type 0} where
  with_disk : (n : Parts So Si D Di Li Sp) (d e : D) → d ≡ e → record n { disk = Some d } ≡ record n { disk = Some e }
  with_disk n d e same = ap (λ (x : D). record n { disk = Some x }) same

pub put_back-requires-clause-unarmed : goal.put_back-requires-clause-unarmed
put_back-requires-clause-unarmed g c = λ κs bounds.
    let m = g.W.World.parts c.take_disk-disk.new.world in
    let n = g.W.World.parts c.enter_in_time-outcome.new.world in
    let later = becomes_later g.W.D.Disk g.W.Di.L.Link g.W.Di.Dialer.returns g.W.Di.Dialer.fault_count c.as_slice-name.result.now c.args.packet.bytes c.enter_in_time-outcome.result
    (record { end = c.in-Ok.end; moment = m.moment; dialer = m.dialer })
    (record { end = c.enter_in_time-outcome.new.end; moment = n.moment; dialer = n.dialer })
    c.enter_in_time-outcome.ensures.becomes in
    subst (λ d. (g.W.D.Disk.arming d).calls ≡ None) (sym c.into_disk.ensures.disk) (later.same.same_disk.unarmed (c.in-Ok.ensures.ok.3.same_disk.unarmed c.take_disk-disk.ensures.unarmed))

pub returns-in-Ok-clause-tells : goal.returns-in-Ok-clause-tells
returns-in-Ok-clause-tells g c = λ first is given.
    let a = g.W.World.parts c.args.world.now in
    let m = g.W.World.parts c.take_disk-disk.new.world in
    let n = g.W.World.parts c.enter_in_time-outcome.new.world in
    let k = g.W.World.parts c.put_back.new.world in
    let q = g.W.World.parts c.conclude.new.world in
    let after = c.enter_in_time-outcome.new.end in
    loaded_tells g.W.So.Source g.W.Si.Sink g.W.D.Disk g.W.Di.L.Link g.W.Di.Dialer.returns g.W.Di.Dialer.fault_count first q
    c.enter_in_time-outcome.result c.conclude.result c.as_slice-name.result.now c.args.packet.identifier c.args.packet.bytes c.as_slice-name.ensures
    a m n k c.take_disk-disk.result c.in-Ok.end after
    is c.take_disk-disk.ensures.parts c.enter_in_time-outcome.ensures.rest
    (c.put_back.ensures.parts ∙ with_disk n c.into_disk.result after.disk c.into_disk.ensures.disk)
    c.conclude.ensures.parts given
    c.take_disk-disk.ensures.taken c.take_disk-disk.ensures.unarmed c.in-Ok.ensures.ok.1 c.in-Ok.ensures.ok.2 c.in-Ok.ensures.ok.3 c.into_disk.ensures.sound
    c.enter_in_time-outcome.ensures.becomes c.conclude.ensures.answer

pub returns-clause-tells : goal.returns-clause-tells
returns-clause-tells g c = λ first is given.
    let a = g.W.World.parts c.args.world.now in
    let m = g.W.World.parts c.take_disk-disk.new.world in
    let n = g.W.World.parts c.put_back-in-Err.new.world in
    let q = g.W.World.parts c.answer_unloaded.new.world in
    let taken = c.take_disk-disk.result in
    unloaded_tells g.W.So.Source g.W.Si.Sink g.W.D.Disk g.W.Di.L.Link g.W.Di.Dialer.returns g.W.Di.Dialer.fault_count first q
    c.answer_unloaded.result c.args.packet.identifier c.args.packet.bytes a m n taken c.in-Err.disk c.in-Err.fault
    is c.take_disk-disk.ensures.parts c.put_back-in-Err.ensures.parts c.answer_unloaded.ensures.parts given
    c.take_disk-disk.ensures.taken
    (possible g.W.D.Disk IsNoAuthor taken c.in-Err.disk c.in-Err.fault c.take_disk-disk.ensures.unarmed c.in-Err.ensures.err)
    c.in-Err.ensures.err c.answer_unloaded.ensures.answer
