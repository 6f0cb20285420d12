use Rattle.voevent_online.proofs.Opened.{answer_stands}
use Rattle.voevent_online.proofs.submit_journal.is_acknowledged.Goals as goal

pub returns : goal.returns
returns g c = answer_stands c.args.book.now.config c.args.identifier.now c.requires.kind c.args.book.now.notes c.has_ack.result c.requires.order c.requires.known c.requires.answered c.has_ack.ensures
