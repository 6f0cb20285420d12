-- The making of a book.
use Rattle.std.specs.Prelude.{◌≡◌, ◌⊎◌, ℕ, List, [], Option, IfSome}
use Rattle.voe_disk.specs.Disk.{IsDurable}
use Rattle.voe_disk.specs.Runs.{LeavesOnly}
use Rattle.voe_disk.specs.declared.disk.Disk.{Ghosts}
use Rattle.gate_journal.specs.Format.{Stands}
use Rattle.gate_journal.specs.Reading.{IsUnmade, IsRefusal as IsJournalRefusal}
use Rattle.gate_journal.specs.declared.fault.JournalFault.TheVariants as journal
use Rattle.node_notes.specs.declared.config.Config.{Config}
use Rattle.node_book.specs.Keeps.{Keeps}
use Rattle.node_book.specs.declared.fault.BookFault.{BookFault}
use Rattle.node_book.specs.declared.fault.BookFault.TheVariants.{Unmade, NotJournal, Damaged, Full, AlreadyMade, DiskFault, Stopped, NoMemory, BadNote}

-- the file is no journal yet, or one with no payload
abbrev pub IsFree : List ℕ → Type 0
IsFree file = IsUnmade file ⊎ Stands file []

-- the file is a journal with a payload
abbrev pub HasPayload : List ℕ → Type 0
HasPayload file = (payloads : List (List ℕ)) × Stands file payloads × (payloads ≡ [] → ⊥)

-- why a book was not made, by what the disk read
abbrev pub IsMakeRefusal : BookFault → Option (List ℕ) → Type 0
IsMakeRefusal Unmade reading = ⊥
IsMakeRefusal (NotJournal place) reading = IsJournalRefusal (journal.NotJournal place) reading
IsMakeRefusal (Damaged place) reading = IsJournalRefusal (journal.Damaged place) reading
IsMakeRefusal Full reading = ⊥
IsMakeRefusal AlreadyMade reading = IfSome reading HasPayload
IsMakeRefusal DiskFault reading = Unit {0}
IsMakeRefusal Stopped reading = Unit {0}
IsMakeRefusal NoMemory reading = Unit {0}
IsMakeRefusal (BadNote place) reading = ⊥

-- no journal yet, one with no payload, or one that keeps the configuration and no note
abbrev pub IsOnTheWay : Config → List ℕ → Type 0
IsOnTheWay config image = IsFree image ⊎ Keeps image config []

-- The first sync has succeeded. From then on each crash leaves no journal yet, one with no payload, or one that keeps
-- the configuration and no note.
pub record IsMaking {D : Type 0} (disk : Ghosts D) (config : Config) (old new : D) : Type 0 where
  pub synced : D
  pub until : LeavesOnly disk old synced (disk.may_leave old)
  pub durable : IsDurable (disk.reads synced) (disk.may_leave synced)
  pub same : disk.reads synced ≡ disk.reads old
  pub moments : LeavesOnly disk synced new (IsOnTheWay config)

-- the making, at any point of it
abbrev pub IsMakingSoFar : {D : Type 0} → Ghosts D → Config → D → D → Type 0
IsMakingSoFar disk config old new = LeavesOnly disk old new (disk.may_leave old) ⊎ IsMaking disk config old new
