use Rattle.std.proofs.Common.{sym, ap, subst}
use Rattle.gate_journal.specs.Appender.{AppenderView, HasPayloads}
use Rattle.gate_journal.specs.Payloads.{payloads_in}
use Rattle.gate_journal.proofs.Sound.{up_has}
use Rattle.gate_journal.proofs.journal.Journal.load.Goals as goal

pub appender_at-appender-requires : goal.appender_at-appender-requires
appender_at-appender-requires g c = (payloads_in c.in-Ok.payloads, up_has g.D.Disk c.read_journal.new.disk c.end.result (payloads_in c.in-Ok.payloads) c.end.ensures.place c.in-Ok.ensures.stands)

pub invariant_of-result : goal.invariant_of-result
invariant_of-result g c =
    let has = up_has g.D.Disk c.read_journal.new.disk c.end.result (payloads_in c.in-Ok.payloads) c.end.ensures.place c.in-Ok.ensures.stands in
    subst (λ (a : AppenderView _). HasPayloads g.D.Disk a (payloads_in c.in-Ok.payloads)) (sym c.appender_at-appender.ensures) has

pub returns-in-Ok-clause-ok : goal.returns-in-Ok-clause-ok
returns-in-Ok-clause-ok g c =
    let has = up_has g.D.Disk c.read_journal.new.disk c.end.result (payloads_in c.in-Ok.payloads) c.end.ensures.place c.in-Ok.ensures.stands in
    let is = c.appender_at-appender.ensures in
    (ap (λ (a : AppenderView _). a.down) is, (subst (λ (a : AppenderView _). HasPayloads g.D.Disk a (payloads_in c.in-Ok.payloads)) (sym is) has).sound)
