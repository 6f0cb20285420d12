-- What becomes of a step.
use Rattle.std.specs.Prelude.{◌≡◌, ◌⊎◌, ℕ, ◌<◌, ◌≤◌, Bool, IfSome, true, false, if◌then◌else◌, List, [], ◌++◌, slice_get, Option, Some, None}
use Rattle.voe_disk.specs.Disk.{Rose}
use Rattle.voe_disk.specs.Runs.{LeavesOnly, Untouched}
use Rattle.voe_disk.specs.declared.disk.Disk.{Ghosts}
use Rattle.gate_journal.specs.Device.{IsSameDisk}
use Rattle.gate_journal.specs.Format.{is_kept}
use Rattle.net_model.specs.Notes.{Offer, Placed, offer}
use Rattle.net_model.specs.Rules.{NodeRules}
use Rattle.net_model.specs.Steps.{Outcome}
use Rattle.net_model.specs.declared.note.Note.{Note}
use Rattle.net_model.specs.declared.note.Note.TheVariants.{Wrote, Acked, Refused, Accept, Done, Enter}
use Rattle.node_notes.specs.declared.config.Config.{Config}
use Rattle.node_book.specs.Keeps.{Keeps, has_room}
use Rattle.node_book.specs.Fault.{ComesFromDisk}
use Rattle.node_book.specs.declared.fault.BookFault.{BookFault}
use Rattle.node_book.specs.declared.fault.BookFault.TheVariants as book
use Rattle.node_book.specs.Ends.{EndView, IsSound, fail_of}
use Rattle.node_book.specs.declared.added.Added.{Added}
use Rattle.node_book.specs.declared.added.Added.TheVariants.{Kept, Full, Down, NoMemory}
use Rattle.node_book.specs.declared.given.Given.{Given}

-- what an answer says of the end: it has answered, it is down, or there was no memory
pub data Fate : Type 0 where
  answered : Fate
  is_down : ℕ → Bool → Fate
  lacked_memory : Fate

-- the notes before a step, or these with the step's
abbrev pub KeepsEither : Config → List Note → List Note → List ℕ → Type 0
KeepsEither config notes added image = Keeps image config notes ⊎ Keeps image config (notes ++ added)

-- The end has answered what the outcome says, and holds its note. Without a note no device was called; with one a disk
-- that was armed was so for four calls or more.
pub record HasAnswered {D A : Type 0} (disk : Ghosts D) (old new : EndView D) (outcome : Outcome A) (answer : A) : Type 0 where
  pub answer_is : answer ≡ outcome.answer
  pub notes_are : new.notes ≡ old.notes ++ outcome.added
  pub still_up : new.down ≡ None
  pub moments : LeavesOnly disk old.disk new.disk (KeepsEither old.config old.notes outcome.added)
  pub no_call : outcome.added ≡ [] → new.disk ≡ old.disk
  pub enough : (outcome.added ≡ [] → ⊥) → IfSome (disk.arming old.disk).calls (λ calls. 4 ≤ calls)
  pub same_count : disk.faults new.disk ≡ disk.faults old.disk

-- why an end goes down: the disk's count rose, or the disk was armed for fewer than four calls and has stopped
abbrev pub HasCause : {D : Type 0} → Ghosts D → D → D → Bool → Type 0
HasCause disk old new false = Rose (disk.faults old) (disk.faults new)
HasCause disk old new true = ((disk.arming new).calls ≡ Some 0) × (calls : ℕ) × ((disk.arming old).calls ≡ Some calls) × (calls < 4)

-- The disk has failed while the outcome's note was added. The end doesn't hold the note; a crash may leave it. Where the
-- disk has stopped and tells what a crash leaves, that has the note exactly where four calls have passed, or three and
-- the crash's byte opens the gate.
pub record HasFallen {D A : Type 0} (disk : Ghosts D) (old new : EndView D) (outcome : Outcome A) (faults : ℕ) (stopped : Bool) : Type 0 where
  pub adds_note : outcome.added ≡ [] → ⊥
  pub notes_are : new.notes ≡ old.notes
  pub fell : new.down ≡ Some (fail_of stopped)
  pub count_is : faults ≡ disk.faults new.disk
  pub cause : HasCause disk old.disk new.disk stopped
  pub moments : LeavesOnly disk old.disk new.disk (KeepsEither old.config old.notes outcome.added)
  pub exact : stopped ≡ true → (fill : ℕ) (image : List ℕ) → disk.crash_image new.disk fill ≡ Some image
      → Keeps image old.config (if is_kept (disk.arming old.disk).calls fill then old.notes ++ outcome.added else old.notes)

-- Nothing has changed; there may be more room.
pub record IsUnchanged {D : Type 0} (disk : Ghosts D) (old new : EndView D) : Type 0 where
  pub notes_are : new.notes ≡ old.notes
  pub still_up : new.down ≡ None
  pub untouched : Untouched disk old.disk new.disk

-- what becomes of a step of an end that is up, by what its answer says of the end
abbrev pub Happens : {D A : Type 0} → Ghosts D → EndView D → EndView D → Outcome A → A → Fate → Type 0
Happens disk old new outcome answer answered = HasAnswered disk old new outcome answer
Happens disk old new outcome answer (is_down faults stopped) = HasFallen disk old new outcome faults stopped
Happens disk old new outcome answer lacked_memory = IsUnchanged disk old new

-- what no step changes but its number and a broker's sessions
pub record KeepsRest {D : Type 0} (disk : Ghosts D) (old new : EndView D) : Type 0 where
  pub config_is : new.config ≡ old.config
  pub sessions_are : new.sessions ≡ old.sessions
  pub steps_are : new.steps ≡ old.steps
  pub same_disk : IsSameDisk disk old.disk new.disk
  pub sound : IsSound disk new

-- The end is up and sound, a crash at this moment leaves its notes, and no call of the device was made since.
pub record IsReady {D : Type 0} (disk : Ghosts D) (end : EndView D) : Type 0 where
  pub up : end.down ≡ None
  pub sound : IsSound disk end
  pub rests : LeavesOnly disk end.disk end.disk (λ image. Keeps image end.config end.notes)
  pub untouched : Untouched disk end.disk end.disk

-- the rules' journal is the book of this configuration
abbrev pub HasRoomOf : Config → NodeRules → Type 0
HasRoomOf config rules = (notes : List Note) (note : Note) → rules.has_room notes note ≡ has_room config notes note

abbrev pub fate_of_added : Added → Fate
fate_of_added Kept = answered
fate_of_added Full = answered
fate_of_added (Down fallen) = is_down fallen.faults fallen.stopped
fate_of_added NoMemory = lacked_memory

-- a packet with the place of its note
abbrev pub placed : Given → Placed
placed given = (given.at, offer given.identifier given.packet)

-- the packet that a note has, of those that are sent on
abbrev pub offered_by : Note → Option Offer
offered_by (Wrote identifier packet) = Some (offer identifier packet)
offered_by (Accept identifier links packet) = Some (offer identifier packet)
offered_by (Enter identifier packet) = None
offered_by (Acked line identifier) = None
offered_by (Refused line identifier) = None
offered_by (Done link identifier) = None

abbrev pub offered_in : Option Note → Option Offer
offered_in None = None
offered_in (Some note) = offered_by note

-- the packet of the note at a place
abbrev pub offered_at : List Note → ℕ → Option Offer
offered_at notes at = offered_in (slice_get notes at)

-- the book had no room, its disk has failed, or memory was wanting
abbrev pub IsNotAdded : BookFault → Type 0
IsNotAdded fault = (fault ≡ book.Full) ⊎ ComesFromDisk fault

-- what that says of the note, the disk having this count of faults
abbrev pub added_of : ℕ → BookFault → Added
added_of faults book.Unmade = Full
added_of faults (book.NotJournal place) = Full
added_of faults (book.Damaged place) = Full
added_of faults book.Full = Full
added_of faults book.AlreadyMade = Full
added_of faults book.DiskFault = Down (record { faults = faults; stopped = false })
added_of faults book.Stopped = Down (record { faults = faults; stopped = true })
added_of faults book.NoMemory = NoMemory
added_of faults (book.BadNote place) = Full
