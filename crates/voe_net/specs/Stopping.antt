-- What becomes of a node whose disk stops.
use Rattle.std.specs.Prelude.{◌≡◌, ◌≤◌, ◌⊎◌, ℕ, Bool, true, false, List, Some, Result, IfErr}
use Rattle.voe_disk.specs.declared.disk.Disk.{Ghosts}
use Rattle.net_model.specs.Rules.{NodeRules}
use Rattle.net_model.specs.Runs.{is_kept}
use Rattle.node_book.specs.Ends.{EndView}
use Rattle.net_machine.specs.Counts.{Rose}
use Rattle.net_machine.specs.Ends.{crashed}
use Rattle.net_machine.specs.declared.fault.EndFault.{EndFault}
use Rattle.net_machine.specs.declared.fault.EndFault.TheVariants.{Disk}
use Rattle.net_machine.specs.Works.{IsAbout, OnlyBrings, cut_short}
use Rattle.net_machine.specs.declared.work.Work.{Work}
use Rattle.voe_net.specs.Kept.{HasKind, end_of}
use Rattle.voe_net.specs.Nodes.{TellsCrash, show}
use Rattle.voe_net.specs.Right.{IsRight}
use Rattle.voe_net.specs.Worked.{kind_of}
use Rattle.voe_net.specs.declared.kept.Kept.{Kept}
use Rattle.voe_net.specs.declared.working.Worked.{Worked}
use Rattle.voe_net.specs.declared.working.Worked.TheVariants.{Answered, Fallen, NoMemory}

-- The disk of the node is armed so, and all else is as it was.
pub record IsArmedNode {D : Type 0} (disk : Ghosts D) (old new : Kept D) (calls fill : ℕ) : Type 0 where
  pub same_kind : kind_of new ≡ kind_of old
  pub kind : HasKind old → HasKind new
  pub config_is : (end_of new).config ≡ (end_of old).config
  pub notes_are : (end_of new).notes ≡ (end_of old).notes
  pub sessions_are : (end_of new).sessions ≡ (end_of old).sessions
  pub down_is : (end_of new).down ≡ (end_of old).down
  pub arming : disk.arming (end_of new).disk ≡ record { calls = Some calls; fill = fill }
  pub exact_image : (byte : ℕ) → disk.crash_image (end_of new).disk byte ≡ disk.crash_image (end_of old).disk byte
  pub faults : disk.faults (end_of new).disk ≡ disk.faults (end_of old).disk

-- the end has answered, or its disk has stopped: a crash then leaves the records before the work, or these with the work's
abbrev pub IsWhole : Worked → Type 0
IsWhole (Answered answer) = Unit {0}
IsWhole (Fallen stopped) = stopped ≡ true
IsWhole NoMemory = ⊥

-- what the count of faults does once the work is over: a failure of the disk is told where the work told it, or the count
-- rose since
pub record HasCauseAfter {T : Type 0} (worked : Worked) (before now : ℕ) (result : Result T EndFault) : Type 0 where
  pub later : before ≤ now
  pub fault : IfErr result (λ fault. fault ≡ Disk → (worked ≡ Fallen false) ⊎ Rose before now)

-- The end has crashed during the work. The record was kept or not; where the disk tells what a crash leaves, it was kept
-- exactly where the model says so.
pub record IsStopped {D : Type 0} (disk : Ghosts D) (calls fill : ℕ) (work : Work) (old new : EndView D) : Type 0 where
  pub exact : TellsCrash disk (Some old) → (rules : NodeRules) (packets : List (List ℕ)) → IsAbout work packets → IsRight (show (Some old)).config packets rules
      → show (Some new) ≡ cut_short (is_kept calls fill) rules (show (Some old)) work
  pub either : (rules : NodeRules) (packets : List (List ℕ)) → IsAbout work packets → IsRight (show (Some old)).config packets rules
      → (outlives : Bool) × (show (Some new) ≡ cut_short outlives rules (show (Some old)) work)
  pub only : OnlyBrings work (crashed (show (Some old))) (show (Some new))
  pub told : TellsCrash disk (Some old) → TellsCrash disk (Some new)
