-- What `init` does with its input and the real disk.
use Rattle.std.specs.Prelude.{◌≡◌, ◌⊎◌, ℕ, List, [], Some, None, Err, Ok, IfSome, codes}
use Rattle.std.specs.declared.option.Option.{Option}
use Rattle.gate_journal.specs.Journal.{EachFile}
use Rattle.node_book.specs.Keeps.{Keeps}
use Rattle.node_book.specs.Making.{IsFree, IsMakeRefusal}
use Rattle.node_book.specs.declared.fault.BookFault.{BookFault}
use Rattle.node_book.specs.declared.fault.BookFault.TheVariants as book
use Rattle.node_notes.specs.declared.config.Config.{Config}
use Rattle.voe_disk.specs.Disk.{Rose}
use Rattle.voe_disk.specs.declared.disk.Disk.{Ghosts}
use Rattle.voe_scenario.specs.Configs.{IsConfigOf}
use Rattle.voe_scenario.specs.Lines.{Refusal as BadLine}
use Rattle.voevent_cli.specs.Outcomes.{done, refused}
use Rattle.voevent_cli.specs.Racks.{Disks, AreSame, OnReal}
use Rattle.voevent_cli.specs.declared.outcome.Outcome.{Outcome}
use Rattle.voevent_cli.specs.declared.prepare.Hindrance.{Hindrance}
use Rattle.voevent_cli.specs.declared.prepare.Hindrance.TheVariants.{ReadFault, DiskFault, NoMemory}
use Rattle.voevent_cli.specs.declared.refusal.Refusal.{Refusal}
use Rattle.voevent_cli.specs.declared.refusal.Refusal.TheVariants.{Scenario, Foreign, Damaged, Made}

-- the refusal of a disk on which no journal was made: it has another file (G2), a damaged journal (G3) or a whole one (G5)
abbrev pub refusal_of_making : BookFault → Option Refusal
refusal_of_making (book.NotJournal place) = Some (Foreign place)
refusal_of_making (book.Damaged place) = Some (Damaged place)
refusal_of_making book.AlreadyMade = Some Made
refusal_of_making book.Unmade = None
refusal_of_making book.Full = None
refusal_of_making book.DiskFault = None
refusal_of_making book.Stopped = None
refusal_of_making book.NoMemory = None
refusal_of_making (book.BadNote place) = None

-- the faults that the making of a book on a disk that is not armed may have
abbrev pub IsPossible : BookFault → Type 0
IsPossible (book.NotJournal place) = Unit {0}
IsPossible (book.Damaged place) = Unit {0}
IsPossible book.AlreadyMade = Unit {0}
IsPossible book.DiskFault = Unit {0}
IsPossible book.NoMemory = Unit {0}
IsPossible book.Unmade = ⊥
IsPossible book.Full = ⊥
IsPossible book.Stopped = ⊥
IsPossible (book.BadNote place) = ⊥

-- the disk has failed, or there was no memory
abbrev pub IsNoJournal : BookFault → Hindrance → Type 0
IsNoJournal fault ReadFault = ⊥
IsNoJournal fault DiskFault = fault ≡ book.DiskFault
IsNoJournal fault NoMemory = fault ≡ book.NoMemory

-- the disk's count of faults rose, or there was no memory
abbrev pub IsHindered : {D : Type 0} → Ghosts D → D → D → Hindrance → Type 0
IsHindered disk old new ReadFault = ⊥
IsHindered disk old new DiskFault = Rose (disk.faults old) (disk.faults new)
IsHindered disk old new NoMemory = Unit {0}

-- The disk had no journal, or one with no payload. What it reads now, and whatever a crash leaves of it, keeps the configuration
-- and no note.
pub record IsMadeOn {D : Type 0} (disk : Ghosts D) (config : Config) (old new : D) : Type 0 where
  pub was_free : IfSome (disk.reads old) IsFree
  pub keeps : EachFile disk new (λ file. Keeps file config [])

-- the disk is refused for what it reads, and reads the same
pub record IsRefusedDisk {D : Type 0} (disk : Ghosts D) (refusal : Refusal) (old new : D) : Type 0 where
  pub fault : BookFault
  pub shown : refusal_of_making fault ≡ Some refusal
  pub cause : IsMakeRefusal fault (disk.reads old)
  pub same : disk.reads new ≡ disk.reads old

-- a journal was made for the configuration, or the disk is refused
abbrev pub MakesOn : {D : Type 0} → Ghosts D → Config → Outcome → D → D → Type 0
MakesOn disk config outcome old new =
    ((outcome ≡ done (codes "made\n")) × IsMadeOn disk config old new)
    ⊎ ((refusal : Refusal) × (outcome ≡ refused refusal) × IsRefusedDisk disk refusal old new)

-- a line of the input is refused and no disk was called, or its configuration went to the real disk
abbrev pub Inits : {T D : Type 0} → Ghosts D → List ℕ → Disks T D → Disks T D → Outcome → Type 0
Inits disk input before now outcome =
    ((line : BadLine) × IsConfigOf input (Err line) × (outcome ≡ refused (Scenario line.number line.line)) × AreSame before now)
    ⊎ ((config : Config) × IsConfigOf input (Ok config) × OnReal (MakesOn disk config outcome) before now)
