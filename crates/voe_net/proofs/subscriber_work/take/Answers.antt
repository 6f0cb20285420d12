use Rattle.std.proofs.Common.{sym, subst}
use Rattle.net_model.specs.Rules.{NodeRules}
use Rattle.net_machine.specs.declared.work.Work.TheVariants.{Take}
use Rattle.subscriber_end.specs.Subscriber.{AreRightFor, fate_of, outcome_of}
use Rattle.subscriber_end.specs.declared.event.SubscriberEvent.TheVariants.{Packet}
use Rattle.voe_net.specs.Told.{subscriber_told}
use Rattle.voe_net.specs.Worked.{HasWorked}
use Rattle.voe_net.specs.declared.working.Worked.{Worked}
use Rattle.voe_net.proofs.EndWorks.{subscriber_took}
use Rattle.voe_net.proofs.Told.{has_worked}
use Rattle.voe_net.proofs.subscriber_work.take.Goals as goal

pub returns : goal.returns
returns g c = λ from_line.
    let d = g.D.Disk in
    let old = c.args.end.now in
    let new = c.step.new.self in
    let packet = c.args.packet in
    let step = c.step.result in
    let said = c.step.ensures in
    let up = c.requires.up in
    let P : Worked → Type 0 = λ w. HasWorked d (Take from_line packet) old new w in
    subst P (sym c.told.ensures)
    (has_worked d old new (Take from_line packet) (AreRightFor old.config (Packet packet)) (λ (rules : NodeRules). outcome_of rules old.notes (Packet packet)) step (fate_of step) (subscriber_told step)
    (record {
      config_is = said.config;
      sessions_are = said.sessions;
      steps_are = said.steps;
      same_disk = said.same_disk;
      sound = said.sound;
      happens = said.happens up;
      rules = said.rules up;
      no_memory = said.no_memory;
    })
    (subscriber_took old from_line packet step c.requires.kind))
