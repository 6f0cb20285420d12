use Rattle.vtp_server.proofs.Heard.{heard}
use Rattle.vtp_server.proofs.reading.hear.Goals as goal

pub returns-in-None-clause-ok : goal.returns-in-None-clause-ok
returns-in-None-clause-ok c =
    heard c.args.session.now c.take.new.self c.next.new.self c.tick.new.self c.args.piece.now c.args.now c.in-Ok-next.act c.tick.result c.is_beat-is_beat_due.result c.in-Ok.ensures.ok c.in-Ok-next.ensures.ok c.in-None.ensures c.tick.ensures.value c.tick.ensures.state c.is_beat-is_beat_due.ensures
