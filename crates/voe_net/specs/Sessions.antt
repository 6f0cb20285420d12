-- The beginning of sessions.
use Rattle.std.specs.Prelude.{◌≡◌, ℕ, None}
use Rattle.voe_disk.specs.declared.disk.Disk.{Ghosts}
use Rattle.node_book.specs.Ends.{EndView}

-- Nothing has changed but the sessions and the number of steps; the disk may have more room.
pub record IsJoined {D : Type 0} (disk : Ghosts D) (old new : EndView D) : Type 0 where
  pub config_is : new.config ≡ old.config
  pub notes_are : new.notes ≡ old.notes
  pub is_up : new.down ≡ None
  pub arming : disk.arming new.disk ≡ disk.arming old.disk
  pub faults : disk.faults new.disk ≡ disk.faults old.disk
  pub exact_image : (fill : ℕ) → disk.crash_image new.disk fill ≡ disk.crash_image old.disk fill
