use Rattle.std.proofs.Common.{◌≡◌, None, Some, sym, ap, subst, ◌∙◌}
use Rattle.voe_values.specs.declared.kind.NodeKind.{NodeKind}
use Rattle.net_model.specs.Flights.{heard}
use Rattle.net_model.specs.Rules.{NodeRules}
use Rattle.net_machine.specs.Works.{is_step}
use Rattle.net_machine.specs.declared.work.Work.TheVariants.{Hear}
use Rattle.author_end.specs.Author.{AreRightFor, fate_of, outcome_of}
use Rattle.author_end.specs.declared.event.AuthorEvent.TheVariants as event
use Rattle.voe_net.specs.Heard.{heard_of}
use Rattle.voe_net.specs.Told.{author_told}
use Rattle.voe_net.specs.Worked.{HasWorked}
use Rattle.voe_net.specs.declared.working.Worked.{Worked}
use Rattle.voe_net.proofs.EndWorks.{author_heard}
use Rattle.voe_net.proofs.Named.{author_no_step, author_none}
use Rattle.voe_net.proofs.Rested.{IsStill, lacked, passed, ready}
use Rattle.voe_net.proofs.Told.{has_worked}
use Rattle.voe_net.proofs.author_work.hear.Goals as goal

pub returns-in-Err : goal.returns-in-Err
returns-in-Err g c = λ session.
    let d = g.D.Disk in
    let end = c.args.end.now in
    let still : IsStill d = record { since_itself = g.met.D.Disk.since_itself; one_moment = g.met.D.Disk.one_moment; reserved_itself = g.met.D.Disk.reserved_itself } in
    lacked d end (Hear c.args.line session c.args.answer) (ready d still end c.requires.up c.requires.sound)

pub returns-in-Ok-None : goal.returns-in-Ok-None
returns-in-Ok-None g c = λ session.
    let d = g.D.Disk in
    let end = c.args.end.now in
    let line = c.args.line in
    let said = c.args.answer in
    let still : IsStill d = record { since_itself = g.met.D.Disk.since_itself; one_moment = g.met.D.Disk.one_moment; reserved_itself = g.met.D.Disk.reserved_itself } in
    let none : heard_of said ≡ None = sym c.in-Ok-None.ensures ∙ c.in-Ok-None.field-0-is in
    passed d end line session said (ready d still end c.requires.up c.requires.sound)
    (λ rules. ap (λ (k : NodeKind). heard rules end.notes end.sessions line session said (Some k)) c.requires.kind ∙ author_none end.config rules end.notes line said c.requires.sound.told.in_order none)
    (ap (λ (k : NodeKind). is_step k (Hear line session said)) c.requires.kind ∙ author_no_step line session said none)

pub returns : goal.returns
returns g c = λ session.
    let d = g.D.Disk in
    let old = c.args.end.now in
    let new = c.step.new.self in
    let line = c.args.line in
    let answer = c.args.answer in
    let heard = c.in-Ok-Some.heard in
    let step = c.step.result in
    let said = c.step.ensures in
    let up = c.requires.up in
    let some : heard_of answer ≡ Some heard = sym c.in-Ok-Some.ensures ∙ c.in-Ok-Some.field-0-is in
    let occasion = event.Answer line heard.identifier heard.ack in
    let P : Worked → Type 0 = λ w. HasWorked d (Hear line session answer) old new w in
    subst P (sym c.told.ensures)
    (has_worked d old new (Hear line session answer) (AreRightFor old.config occasion) (λ (rules : NodeRules). outcome_of rules old.notes occasion) step (fate_of step) (author_told step)
    (record {
      config_is = said.config;
      sessions_are = said.sessions;
      steps_are = said.steps;
      same_disk = said.same_disk;
      sound = said.sound;
      happens = said.happens up;
      rules = said.rules up;
      no_memory = said.no_memory;
    })
    (author_heard old line session answer heard step c.requires.kind some))
