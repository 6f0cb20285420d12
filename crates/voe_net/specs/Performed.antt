-- What the network is told of an end's work, of its next packet and of a session.
use Rattle.std.specs.Prelude.{◌≡◌, ◌<◌, ◌+◌, ◌^◌, ℕ, true, List, Option, Result, IfOk, IfSome, OnOk, is_some}
use Rattle.std.specs.Option.{option_map}
use Rattle.voe_disk.specs.declared.disk.Disk.{Ghosts}
use Rattle.voe_values.specs.declared.kind.NodeKind.TheVariants.{Broker}
use Rattle.net_model.specs.Notes.{first_from, to_send}
use Rattle.net_model.specs.Rules.{NodeRules}
use Rattle.net_model.specs.Steps.{last_of}
use Rattle.net_model.specs.declared.state.Verdict.{Verdict}
use Rattle.node_book.specs.Ends.{EndView}
use Rattle.net_machine.specs.Counts.{HasCause, Rose}
use Rattle.net_machine.specs.Ends.{joining}
use Rattle.net_machine.specs.Works.{IsAbout, OnlyBrings, is_asking, is_step, sent_of, work_answer, worked}
use Rattle.net_machine.specs.declared.fault.EndFault.{EndFault}
use Rattle.net_machine.specs.declared.work.Work.{Work}
use Rattle.voe_net.specs.Nodes.{TellsCrash, faults_of, show, steps_of}
use Rattle.voe_net.specs.Right.{IsRight}

-- The work was done by the rules, or the disk has failed or there was no memory.
pub record HasPerformed {D : Type 0} (disk : Ghosts D) (work : Work) (old new : Option (EndView D)) (result : Result (Option Verdict) EndFault) : Type 0 where
  pub value : IfOk result (λ answer. (rules : NodeRules) (packets : List (List ℕ)) → IsAbout work packets → IsRight (show old).config packets rules
      → (show new ≡ worked rules (show old) work) × (answer ≡ work_answer rules (show old) work))
  pub only : OnOk result (OnlyBrings work (show old) (show new))
  pub answers : IfOk result (λ answer. is_some answer ≡ is_asking work)
  pub steps : OnOk result (is_step (show old).config.kind work ≡ true → Rose (steps_of old) (steps_of new))
  pub told : OnOk result (TellsCrash disk old → TellsCrash disk new)
  pub faults : HasCause (faults_of disk old) (faults_of disk new) result

-- The first packet was found that is open or owed, if there is one.
pub record HasFound {D : Type 0} (disk : Ghosts D) (number after : ℕ) (old new : Option (EndView D)) (result : Result (Option (ℕ × List ℕ)) EndFault) : Type 0 where
  pub found : IfOk result (λ found. found ≡ option_map sent_of (first_from (to_send (show old).notes number) after 0 (show old).notes))
  pub small : IfOk result (λ found. IfSome found (λ first. first.0 + 1 < 2 ^ 64))
  pub same : OnOk result (show new ≡ show old)
  pub steps : OnOk result (Rose (steps_of old) (steps_of new))
  pub told : OnOk result (TellsCrash disk old → TellsCrash disk new)
  pub faults : HasCause (faults_of disk old) (faults_of disk new) result

-- A session of a link was begun; a line has none.
pub record HasJoined {D : Type 0} (disk : Ghosts D) (number : ℕ) (old new : Option (EndView D)) (result : Result ℕ EndFault) : Type 0 where
  pub joined : OnOk result (show new ≡ joining (show old) number)
  pub session : IfOk result (λ session. session ≡ last_of (joining (show old) number).sessions number)
  pub steps : OnOk result ((show old).config.kind ≡ Broker → Rose (steps_of old) (steps_of new))
  pub told : OnOk result (TellsCrash disk old → TellsCrash disk new)
  pub faults : HasCause (faults_of disk old) (faults_of disk new) result
