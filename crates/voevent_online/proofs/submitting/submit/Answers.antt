use Rattle.std.proofs.Common.{subst}
use Rattle.voevent_online.specs.Packets.{IsNotGiven}
use Rattle.voevent_online.specs.declared.submit_packet.Unready.{Unready}
use Rattle.voevent_online.proofs.Tried.{refused_tells}
use Rattle.voevent_online.proofs.submitting.submit.Goals as goal

pub returns-in-Err-Refused-clause-tells : goal.returns-in-Err-Refused-clause-tells
returns-in-Err-Refused-clause-tells g c =
    let p = g.W.World.parts c.args.world.now in
    let a = g.W.World.parts c.read_packet.new.world in
    let q = g.W.World.parts c.refuse.new.world in
    refused_tells g.W.So.Source g.W.Si.Sink g.W.D.Disk g.W.Di.L.Link g.W.Di.Dialer.returns g.W.Di.Dialer.fault_count p q
    c.in-Err-Refused.refusal c.refuse.result a c.read_packet.ensures.parts c.refuse.ensures.parts (subst (λ (why : Unready). IsNotGiven g.W.So.Source why p.source a.source) c.in-Err-Refused.field-0-is c.in-Err-Refused.ensures.err) c.refuse.ensures.told
