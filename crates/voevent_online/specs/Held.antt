-- The packet in the author's journal, and the answer that stands there.
use Rattle.std.specs.Prelude.{◌≡◌, ◌⊎◌, ℕ, ◌==◌, ◌&&◌, Bool, true, false, List, [], ◌∷◌, ◌++◌, Option, Some, None}
use Rattle.std.specs.List.{list_any}
use Rattle.std.specs.Str.{bytes_eq}
use Rattle.sha1.specs.Sha1.{sha1}
use Rattle.voe_disk.specs.Disk.{Rose}
use Rattle.voe_disk.specs.declared.disk.Disk.{Ghosts as DiskGhosts}
use Rattle.net_model.specs.Notes.{knows}
use Rattle.net_model.specs.declared.note.Note.{Note}
use Rattle.net_model.specs.declared.note.Note.TheVariants.{Wrote, Acked, Refused}
use Rattle.net_model.specs.declared.step.AuthorStep.{AuthorStep}
use Rattle.net_model.specs.declared.step.AuthorStep.TheVariants as step
use Rattle.node_notes.specs.Held.{has_other_digest, packet_held}
use Rattle.node_book.specs.Ends.{EndView, IsSound}
use Rattle.node_book.specs.Keeps.{has_room}
use Rattle.vtp_server.specs.OneEnd.{IsSameEnd}
use Rattle.voevent_online.specs.declared.submit_journal.Writing.{Writing}
use Rattle.voevent_online.specs.declared.submit_journal.Writing.TheVariants as writing

-- ---- answers

-- the note is an acknowledgement of this identifier on this line, or else a refusal
abbrev pub gives_answer : Bool → ℕ → List ℕ → Note → Bool
gives_answer true line identifier (Acked own_line own) = own_line == line && bytes_eq identifier own
gives_answer true line identifier _ = false
gives_answer false line identifier (Refused own_line own) = own_line == line && bytes_eq identifier own
gives_answer false line identifier _ = false

-- there is a note, and it is
abbrev pub answer_in : Bool → ℕ → List ℕ → Option Note → Bool
answer_in ack line identifier None = false
answer_in ack line identifier (Some note) = gives_answer ack line identifier note

-- one of the notes is
abbrev pub has_answer : Bool → ℕ → List ℕ → List Note → Bool
has_answer ack line identifier notes = list_any (gives_answer ack line identifier) notes

-- ---- the packet

-- what an author's step says of a packet that was to be written; no other comes of a good packet than want of memory
abbrev pub writing_of : AuthorStep → Writing
writing_of step.Wrote = writing.Held
writing_of step.Known = writing.Held
writing_of step.Full = writing.Full
writing_of (step.Down faults stopped) = writing.Down
writing_of _ = writing.NoMemory

-- the notes have another packet under this identifier, by its digest
abbrev pub holds_other : List Note → List ℕ → List ℕ → Bool
holds_other notes identifier packet = has_other_digest sha1 (packet_held notes identifier) packet

module _ {D : Type 0} (disk : DiskGhosts D) where
  -- the identifier stood in the journal
  pub record WasKnown (identifier : List ℕ) (old new : EndView D) : Type 0 where
    pub known : knows old.notes identifier ≡ true
    pub notes : new.notes ≡ old.notes

  -- it did not, and the journal had room for the packet
  pub record HasNewRoom (identifier packet : List ℕ) (old : EndView D) : Type 0 where
    pub is_new : knows old.notes identifier ≡ false
    pub room : has_room old.config old.notes (Wrote identifier packet) ≡ true

  -- the packet's record was added
  pub record IsWritten (identifier packet : List ℕ) (old new : EndView D) : Type 0 where
    pub had_room : HasNewRoom identifier packet old
    pub notes : new.notes ≡ old.notes ++ Wrote identifier packet ∷ []

  -- the packet stands in the journal, whose end is up
  pub record IsHeld (identifier packet : List ℕ) (old new : EndView D) : Type 0 where
    pub either : WasKnown identifier old new ⊎ IsWritten identifier packet old new
    pub up : new.down ≡ None
    pub same : IsSameEnd disk old new
    pub sound : IsSound disk new

  -- the packet is new, and the journal has no room for its record
  pub record LacksRoom (identifier packet : List ℕ) (old new : EndView D) : Type 0 where
    pub is_new : knows old.notes identifier ≡ false
    pub no_room : has_room old.config old.notes (Wrote identifier packet) ≡ false
    pub notes : new.notes ≡ old.notes
    pub up : new.down ≡ None
    pub same : IsSameEnd disk old new

  -- the disk has failed while the packet's record was added, and its count rose
  pub record HasFallenAt (identifier packet : List ℕ) (old new : EndView D) : Type 0 where
    pub had_room : HasNewRoom identifier packet old
    pub notes : new.notes ≡ old.notes
    pub same : IsSameEnd disk old new
    pub rose : (disk.arming old.disk).calls ≡ None → Rose (disk.faults old.disk) (disk.faults new.disk)

  -- there was no memory to write it
  pub record IsUnwritten (old new : EndView D) : Type 0 where
    pub notes : new.notes ≡ old.notes
    pub up : new.down ≡ None
    pub same : IsSameEnd disk old new

  -- what became of a packet that was to be written
  abbrev pub IsWriting : List ℕ → List ℕ → Writing → EndView D → EndView D → Type 0
  IsWriting identifier packet writing.Held old new = IsHeld identifier packet old new
  IsWriting identifier packet writing.Full old new = LacksRoom identifier packet old new
  IsWriting identifier packet writing.Down old new = HasFallenAt identifier packet old new
  IsWriting identifier packet writing.NoMemory old new = IsUnwritten old new
