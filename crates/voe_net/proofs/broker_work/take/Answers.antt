use Rattle.std.proofs.Common.{ℕ, Bool, false, List, sym, subst}
use Rattle.net_model.specs.Rules.{NodeRules}
use Rattle.net_machine.specs.declared.work.Work.TheVariants.{Take}
use Rattle.broker_end.specs.Broker.{AreRightFor, fate_of, is_line, outcome_of}
use Rattle.broker_end.specs.declared.event.BrokerEvent.TheVariants.{Packet}
use Rattle.voe_net.specs.Told.{broker_told}
use Rattle.voe_net.specs.Worked.{HasWorked}
use Rattle.voe_net.specs.declared.working.Worked.{Worked}
use Rattle.voe_net.proofs.EndWorks.{broker_took}
use Rattle.voe_net.proofs.Told.{has_worked}
use Rattle.voe_net.proofs.broker_work.take.Goals as goal

pub returns : goal.returns
returns g c =
    let d = g.D.Disk in
    let old = c.args.end.now in
    let new = c.step.new.self in
    let from = c.args.from in
    let packet = c.args.packet in
    let step = c.step.result in
    let said = c.step.ensures in
    let up = c.requires.up in
    let shows : List ℕ → Bool = λ bytes. false in
    let work = Take (is_line from) packet in
    let P : Worked → Type 0 = λ w. HasWorked d work old new w in
    subst P (sym c.told.ensures)
    (has_worked d old new work (λ (rules : NodeRules). AreRightFor old.config old.notes (Packet from packet) rules shows) (λ (rules : NodeRules). outcome_of rules shows old.config old.notes old.sessions (Packet from packet)) step (fate_of step) (broker_told step)
    (record {
      config_is = said.config;
      sessions_are = said.sessions up;
      steps_are = said.steps;
      same_disk = said.same_disk;
      sound = said.sound;
      happens = λ rules right. said.happens up rules shows right;
      rules = said.rules up;
      no_memory = λ lacks. (said.no_memory lacks).0;
    })
    (broker_took old shows from packet step c.requires.kind))
