-- The making, loading and arming of an end.
use Rattle.std.specs.Prelude.{◌≡◌, ◌⊎◌, ◌↔◌, ℕ, List, [], Option, Some, None, IfSome}
use Rattle.voe_disk.specs.Disk.{IsDurable, OneStep, Rose}
use Rattle.voe_disk.specs.Runs.{LeavesOnly, Untouched}
use Rattle.voe_disk.specs.declared.disk.Disk.{Ghosts}
use Rattle.gate_journal.specs.Device.{IsSameDisk}
use Rattle.net_model.specs.declared.note.Note.{Note}
use Rattle.node_notes.specs.declared.config.Config.{Config}
use Rattle.node_book.specs.Fault.{IsMissing}
use Rattle.node_book.specs.Keeps.{Keeps}
use Rattle.node_book.specs.Making.{IsFree, IsMakeRefusal, IsMaking, IsMakingSoFar}
use Rattle.node_book.specs.Reading.{IsRefusal}
use Rattle.node_book.specs.declared.fault.BookFault.{BookFault}
use Rattle.node_book.specs.declared.fault.BookFault.TheVariants.{DiskFault, Stopped, NoMemory, BadNote}
use Rattle.node_book.specs.Ends.{EndView, IsSound}

-- The disk had no journal, or one with no payload. It keeps this configuration and no note, and after the first sync a
-- crash at any moment left no more and no less.
pub record IsMade {D : Type 0} (disk : Ghosts D) (config : Config) (old : D) (end : EndView D) : Type 0 where
  pub config_is : end.config ≡ config
  pub notes_are : end.notes ≡ []
  pub steps_are : end.steps ≡ 0
  pub is_up : end.down ≡ None
  pub sound : IsSound disk end
  pub was_free : IfSome (disk.reads old) IsFree
  pub moments : IsMaking disk config old end.disk
  pub same_disk : IsSameDisk disk old end.disk
  pub same_count : disk.faults end.disk ≡ disk.faults old

-- Why an end was not made, and what is left of the disk.
pub record IsNotMade {D : Type 0} (disk : Ghosts D) (config : Config) (old new : D) (fault : BookFault) : Type 0 where
  pub refused : IsMakeRefusal fault (disk.reads old)
  pub reading : IsMissing fault → (disk.reads new ≡ disk.reads old) × IsDurable (disk.reads new) (disk.may_leave new) × LeavesOnly disk old new (disk.may_leave old)
  pub moments : IsMakingSoFar disk config old new
  pub same_disk : IsSameDisk disk old new
  pub same_count : (fault ≡ DiskFault → ⊥) → disk.faults new ≡ disk.faults old
  pub rose : fault ≡ DiskFault → Rose (disk.faults old) (disk.faults new)
  pub stopped : fault ≡ Stopped → (disk.arming new).calls ≡ Some 0

-- The disk keeps the configuration and the notes, and reads as before.
pub record IsLoaded {D : Type 0} (disk : Ghosts D) (old : D) (end : EndView D) : Type 0 where
  pub steps_are : end.steps ≡ 0
  pub is_up : end.down ≡ None
  pub sound : IsSound disk end
  pub told : IfSome (disk.reads old) (λ file. Keeps file end.config end.notes)
  pub reading : disk.reads end.disk ≡ disk.reads old
  pub durable : IsDurable (disk.reads end.disk) (disk.may_leave end.disk)
  pub moments : LeavesOnly disk old end.disk (disk.may_leave old)
  pub same_disk : IsSameDisk disk old end.disk
  pub same_count : disk.faults end.disk ≡ disk.faults old

-- the file keeps a configuration of this sort
abbrev pub KeepsSuch : (Config → Type 0) → List ℕ → Type 0
KeepsSuch IsSuch file = (config : Config) × (notes : List Note) × Keeps file config notes × IsSuch config

-- The file is refused as a book is, or at place 16 where its configuration is unfit for the end.
abbrev pub IsEndRefusal : (Config → Type 0) → BookFault → Option (List ℕ) → Type 0
IsEndRefusal IsUnfit fault reading = IsRefusal fault reading ⊎ ((fault ≡ BadNote 16) × IfSome reading (KeepsSuch IsUnfit))

-- Why an end was not loaded. The disk reads as before.
pub record IsNotLoaded {D : Type 0} (disk : Ghosts D) (IsUnfit : Config → Type 0) (old new : D) (fault : BookFault) : Type 0 where
  pub refused : IsEndRefusal IsUnfit fault (disk.reads old)
  pub reading : disk.reads new ≡ disk.reads old
  pub durable : IsMissing fault → IsDurable (disk.reads new) (disk.may_leave new)
  pub no_memory : fault ≡ NoMemory → Untouched disk old new ⊎ IsDurable (disk.reads new) (disk.may_leave new)
  pub moments : LeavesOnly disk old new (disk.may_leave old)
  pub same_disk : IsSameDisk disk old new
  pub same_count : (fault ≡ DiskFault → ⊥) → disk.faults new ≡ disk.faults old
  pub rose : fault ≡ DiskFault → Rose (disk.faults old) (disk.faults new)
  pub stopped : fault ≡ Stopped → (disk.arming new).calls ≡ Some 0

-- The disk is armed so, and all else is as it was.
pub record IsArmed {D : Type 0} (disk : Ghosts D) (old new : EndView D) (calls fill : ℕ) : Type 0 where
  pub config_is : new.config ≡ old.config
  pub notes_are : new.notes ≡ old.notes
  pub sessions_are : new.sessions ≡ old.sessions
  pub steps_are : new.steps ≡ old.steps
  pub down_is : new.down ≡ old.down
  pub sound : IsSound disk new
  pub arming : disk.arming new.disk ≡ record { calls = Some calls; fill = fill }
  pub reading : disk.reads new.disk ≡ disk.reads old.disk
  pub images : (image : List ℕ) → disk.may_leave new.disk image ↔ disk.may_leave old.disk image
  pub exact_image : (byte : ℕ) → disk.crash_image new.disk byte ≡ disk.crash_image old.disk byte
  pub failing : disk.failing new.disk ≡ disk.failing old.disk
  pub faults : disk.faults new.disk ≡ disk.faults old.disk
  pub moments : OneStep disk.is_since disk.left_since disk.may_leave old.disk new.disk
