use Rattle.std.proofs.Common.{◌≡◌, ℕ, inr, Bool, true, false, List, None, Some, refl, sym, ap, subst, ◌∙◌}
use Rattle.voe_values.specs.declared.kind.NodeKind.{NodeKind}
use Rattle.net_model.specs.Flights.{heard as notes_heard}
use Rattle.net_model.specs.Rules.{NodeRules}
use Rattle.net_machine.specs.Works.{is_step}
use Rattle.net_machine.specs.declared.work.Work.TheVariants.{Hear}
use Rattle.broker_end.specs.Broker.{AreRightFor, fate_of, outcome_of}
use Rattle.broker_end.specs.declared.event.BrokerEvent.TheVariants.{Acked}
use Rattle.voe_net.specs.Heard.{heard_of}
use Rattle.voe_net.specs.Told.{broker_told}
use Rattle.voe_net.specs.Worked.{HasWorked}
use Rattle.voe_net.specs.declared.working.Worked.{Worked}
use Rattle.voe_net.proofs.EndWorks.{broker_heard}
use Rattle.voe_net.proofs.Named.{broker_nak, broker_no_step, broker_none, nay, yea}
use Rattle.voe_net.proofs.Rested.{IsStill, lacked, passed, ready}
use Rattle.voe_net.proofs.Told.{any_rules, has_worked}
use Rattle.voe_net.proofs.broker_work.hear.Goals as goal

pub returns-in-Err : goal.returns-in-Err
returns-in-Err g c =
    let d = g.D.Disk in
    let end = c.args.end.now in
    let still : IsStill d = record { since_itself = g.met.D.Disk.since_itself; one_moment = g.met.D.Disk.one_moment; reserved_itself = g.met.D.Disk.reserved_itself } in
    lacked d end (Hear c.args.link c.args.session c.args.answer) (ready d still end c.requires.up c.requires.sound)

pub returns-in-Ok-None : goal.returns-in-Ok-None
returns-in-Ok-None g c =
    let d = g.D.Disk in
    let end = c.args.end.now in
    let link = c.args.link in
    let session = c.args.session in
    let said = c.args.answer in
    let still : IsStill d = record { since_itself = g.met.D.Disk.since_itself; one_moment = g.met.D.Disk.one_moment; reserved_itself = g.met.D.Disk.reserved_itself } in
    let none : heard_of said ≡ None = sym c.in-Ok-None.ensures ∙ c.in-Ok-None.field-0-is in
    passed d end link session said (ready d still end c.requires.up c.requires.sound)
    (λ rules. ap (λ (k : NodeKind). notes_heard rules end.notes end.sessions link session said (Some k)) c.requires.kind ∙ broker_none end.config rules end.notes end.sessions link session said c.requires.sound.told.in_order none)
    (ap (λ (k : NodeKind). is_step k (Hear link session said)) c.requires.kind ∙ broker_no_step link session said none)

pub returns-then-not-heard : goal.returns-then-not-heard
returns-then-not-heard g c =
    let d = g.D.Disk in
    let end = c.args.end.now in
    let link = c.args.link in
    let session = c.args.session in
    let said = c.args.answer in
    let heard = c.in-Ok-Some.heard in
    let still : IsStill d = record { since_itself = g.met.D.Disk.since_itself; one_moment = g.met.D.Disk.one_moment; reserved_itself = g.met.D.Disk.reserved_itself } in
    let some : heard_of said ≡ Some heard = sym c.in-Ok-Some.ensures ∙ c.in-Ok-Some.field-0-is in
    let nak = broker_nak link session said heard some (nay heard.ack c.if-not-heard.true) in
    passed d end link session said (ready d still end c.requires.up c.requires.sound)
    (λ rules. ap (λ (k : NodeKind). notes_heard rules end.notes end.sessions link session said (Some k)) c.requires.kind ∙ nak.0 rules end.notes end.sessions)
    (ap (λ (k : NodeKind). is_step k (Hear link session said)) c.requires.kind ∙ nak.1)

pub returns : goal.returns
returns g c =
    let d = g.D.Disk in
    let old = c.args.end.now in
    let new = c.step.new.self in
    let link = c.args.link in
    let session = c.args.session in
    let answer = c.args.answer in
    let heard = c.in-Ok-Some.heard in
    let step = c.step.result in
    let said = c.step.ensures in
    let up = c.requires.up in
    let shows : List ℕ → Bool = λ bytes. false in
    let some : heard_of answer ≡ Some heard = sym c.in-Ok-Some.ensures ∙ c.in-Ok-Some.field-0-is in
    let occasion = Acked link session heard.identifier in
    let ack : heard.ack ≡ true = yea heard.ack c.if-not-heard.false in
    let P : Worked → Type 0 = λ w. HasWorked d (Hear link session answer) old new w in
    subst P (sym c.told.ensures)
    (has_worked d old new (Hear link session answer) (λ (rules : NodeRules). AreRightFor old.config old.notes occasion rules shows) (λ (rules : NodeRules). outcome_of rules shows old.config old.notes old.sessions occasion) step (fate_of step) (broker_told step)
    (record {
      config_is = said.config;
      sessions_are = said.sessions up;
      steps_are = said.steps;
      same_disk = said.same_disk;
      sound = said.sound;
      happens = λ rules right. said.happens up rules shows right;
      rules = inr (any_rules old.config, λ notes note. refl);
      no_memory = λ lacks. (said.no_memory lacks).0;
    })
    (broker_heard old shows link session answer heard step c.requires.kind some ack))
