use Rattle.std.proofs.Common.{sym, subst}
use Rattle.author_end.specs.declared.event.AuthorEvent.TheVariants.{Write}
use Rattle.vtp_server.specs.OneEnd.{IsAuthorStep}
use Rattle.voevent_online.specs.Held.{IsWriting}
use Rattle.voevent_online.specs.declared.submit_journal.Writing.{Writing}
use Rattle.voevent_online.proofs.WrittenPacket.{writes_so, writing_says}
use Rattle.voevent_online.proofs.submit_journal.write_packet.Goals as goal

pub returns : goal.returns
returns g c = λ identifier good.
    let old = c.args.end.now in
    let new = c.step.new.self in
    let e = c.step.ensures in
    let step : IsAuthorStep g.D.Disk old (Write c.args.packet) c.step.result new = record {
      config = e.config;
      sessions = e.sessions;
      steps = e.steps;
      same_disk = e.same_disk;
      sound = e.sound;
      was_down = e.was_down;
      happens = e.happens;
      rules = e.rules;
      no_memory = e.no_memory;
    } in
    subst (λ (w : Writing). IsWriting g.D.Disk identifier c.args.packet w old new) (sym c.writing_of.ensures)
    (writing_says g.D.Disk old new identifier c.args.packet c.step.result (writes_so g.D.Disk old new identifier c.args.packet c.step.result step c.requires.up good))
