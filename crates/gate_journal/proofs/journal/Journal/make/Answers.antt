use Rattle.gate_journal.specs.Payloads.{payloads_in}
use Rattle.gate_journal.proofs.Sound.{empty_has}
use Rattle.gate_journal.proofs.journal.Journal.make.Goals as goal

pub appender_at-appender-requires : goal.appender_at-appender-requires
appender_at-appender-requires g c = (payloads_in c.in-Ok.payloads, empty_has g.D.Disk c.make_journal.new.disk c.end.result (payloads_in c.in-Ok.payloads) c.in-Ok.ensures c.end.ensures.place c.in-Ok-make_journal.ensures.stands)
