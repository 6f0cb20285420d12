use Rattle.std.proofs.Common.{sym, subst}
use Rattle.net_model.specs.Rules.{NodeRules}
use Rattle.net_machine.specs.declared.work.Work.TheVariants.{Write}
use Rattle.author_end.specs.Author.{AreRightFor, fate_of, outcome_of}
use Rattle.author_end.specs.declared.event.AuthorEvent.TheVariants as event
use Rattle.voe_net.specs.Told.{author_told}
use Rattle.voe_net.specs.Worked.{HasWorked}
use Rattle.voe_net.specs.declared.working.Worked.{Worked}
use Rattle.voe_net.proofs.EndWorks.{author_wrote}
use Rattle.voe_net.proofs.Told.{has_worked}
use Rattle.voe_net.proofs.author_work.write.Goals as goal

pub returns : goal.returns
returns g c =
    let d = g.D.Disk in
    let old = c.args.end.now in
    let new = c.step.new.self in
    let packet = c.args.packet in
    let step = c.step.result in
    let said = c.step.ensures in
    let up = c.requires.up in
    let P : Worked → Type 0 = λ w. HasWorked d (Write packet) old new w in
    subst P (sym c.told.ensures)
    (has_worked d old new (Write packet) (AreRightFor old.config (event.Write packet)) (λ (rules : NodeRules). outcome_of rules old.notes (event.Write packet)) step (fate_of step) (author_told step)
    (record {
      config_is = said.config;
      sessions_are = said.sessions;
      steps_are = said.steps;
      same_disk = said.same_disk;
      sound = said.sound;
      happens = said.happens up;
      rules = said.rules up;
      no_memory = said.no_memory;
    })
    (author_wrote old packet step))
