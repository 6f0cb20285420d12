-- What is answered where the disk's journal was not loaded.
use Rattle.std.specs.Prelude.{◌≡◌, Some, None}
use Rattle.std.specs.declared.option.Option.{Option}
use Rattle.node_book.specs.declared.fault.BookFault.{BookFault}
use Rattle.node_book.specs.declared.fault.BookFault.TheVariants as book
use Rattle.voe_outside.specs.declared.stream.Sink.{Ghosts as SinkGhosts}
use Rattle.voevent_online.specs.Lines.{refusal_line, status_of_refusal}
use Rattle.voevent_online.specs.Telling.{Tells}
use Rattle.voevent_online.specs.declared.refusal.Refusal.{Refusal}
use Rattle.voevent_online.specs.declared.refusal.Refusal.TheVariants.{Unmade, Foreign, Damaged, BadNote}
use Rattle.voevent_online.specs.declared.status.Status.{Status}
use Rattle.voevent_online.specs.declared.status.Status.TheVariants.{DiskFault, NoMemory}

-- the refusal of what the disk holds, which is no journal (G1), another file (G2), a damaged journal (G3) or one with a bad
-- payload (G6)
abbrev pub refusal_of_loading : BookFault → Option Refusal
refusal_of_loading book.Unmade = Some Unmade
refusal_of_loading (book.NotJournal place) = Some (Foreign place)
refusal_of_loading (book.Damaged place) = Some (Damaged place)
refusal_of_loading (book.BadNote place) = Some (BadNote place)
refusal_of_loading book.Full = None
refusal_of_loading book.AlreadyMade = None
refusal_of_loading book.DiskFault = None
refusal_of_loading book.Stopped = None
refusal_of_loading book.NoMemory = None

-- the faults that the loading of an end may have from a disk that is not armed
abbrev pub IsPossible : BookFault → Type 0
IsPossible book.Unmade = Unit {0}
IsPossible (book.NotJournal place) = Unit {0}
IsPossible (book.Damaged place) = Unit {0}
IsPossible (book.BadNote place) = Unit {0}
IsPossible book.DiskFault = Unit {0}
IsPossible book.NoMemory = Unit {0}
IsPossible book.Full = ⊥
IsPossible book.AlreadyMade = ⊥
IsPossible book.Stopped = ⊥

-- the status where nothing is refused
abbrev pub status_unloaded : BookFault → Status
status_unloaded book.DiskFault = DiskFault
status_unloaded _ = NoMemory

-- a refusal's line with its status, or this status with no line
abbrev pub AnswersBy : {K : Type 0} → SinkGhosts K → Option Refusal → Status → Status → K → K → Type 0
AnswersBy sink (Some refusal) other status old new = Tells sink (status_of_refusal refusal) (refusal_line refusal) status old new
AnswersBy sink None other status old new = (status ≡ other) × (new ≡ old)

-- what is answered where the loading failed so
abbrev pub AnswersUnloaded : {K : Type 0} → SinkGhosts K → BookFault → Status → K → K → Type 0
AnswersUnloaded sink fault status old new = AnswersBy sink (refusal_of_loading fault) (status_unloaded fault) status old new
