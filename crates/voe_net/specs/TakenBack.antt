-- What a disk is that is taken out of its node.
use Rattle.std.specs.Prelude.{◌≡◌, ℕ, true, List, Option, Some, None, IsSome}
use Rattle.voe_disk.specs.declared.disk.Disk.{Ghosts}
use Rattle.gate_journal.specs.Journal.{EachFile}
use Rattle.node_notes.specs.Forms.{is_config}
use Rattle.node_book.specs.Ends.{EndView}
use Rattle.node_book.specs.Keeps.{Keeps}
use Rattle.net_machine.specs.declared.seat.Seat.{Seat}
use Rattle.voe_net.specs.Each.{Each}
use Rattle.voe_net.specs.Nodes.{TellsCrash, disk_in, faults_of, show}

-- The disk is the end's own, isn't armed and has failed as often as the node says. Where the node shows a configuration that keeps to its
-- form, the disk keeps that and the node's records.
pub record IsTakenBack {D : Type 0} (disk : Ghosts D) (end : Option (EndView D)) (own : D) : Type 0 where
  pub its : disk_in end ≡ Some own
  pub kept : is_config (show end).config ≡ true → EachFile disk own (λ file. Keeps file (show end).config (show end).notes)
  pub unarmed : (disk.arming own).calls ≡ None
  pub faults : disk.faults own ≡ faults_of disk end
  pub told : TellsCrash disk end → (fill : ℕ) → IsSome (disk.crash_image own fill)

-- so is each of these, of the node at its place
abbrev pub AreTakenBack : {D : Type 0} → Ghosts D → List (Seat (Option (EndView D))) → List D → Type 0
AreTakenBack disk seats disks = Each (λ n seat own. IsTakenBack disk seat.end own) seats disks
