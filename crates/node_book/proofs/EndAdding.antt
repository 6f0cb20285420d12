-- What becomes of a note that is added to a book.
use Rattle.std.proofs.Common.{◌≡◌, ◌⊎◌, inl, inr, ℕ, ◌<◌, Bool, true, false, List, [], Some, None, refl, sym, ◌∙◌, ap, subst}
use Rattle.std.proofs.lemmas.List.{append-nil}
use Rattle.voe_disk.specs.Disk.{Rose}
use Rattle.voe_disk.specs.Runs.{LeavesOnly, Untouched}
use Rattle.voe_disk.specs.declared.disk.Disk.{Ghosts}
use Rattle.voe_disk.specs.declared.fail.DiskFail.TheVariants.{Fault, Stopped}
use Rattle.net_model.specs.Steps.{adds}
use Rattle.net_model.specs.declared.note.Note.{Note}
use Rattle.node_book.specs.Book.{BookView}
use Rattle.node_book.specs.Fault.{ComesFromDisk}
use Rattle.node_book.specs.Keeps.{Keeps, KeepsBeforeOrAfter, has_room, kept_notes}
use Rattle.node_book.specs.declared.fault.BookFault.{BookFault}
use Rattle.node_book.specs.declared.fault.BookFault.TheVariants as book
use Rattle.node_book.specs.Ends.{EndView, book_of}
use Rattle.node_book.specs.EndSteps.{HasAnswered, HasFallen, Happens, IsNotAdded, IsReady, IsUnchanged, KeepsEither, added_of, fate_of_added}
use Rattle.node_book.specs.declared.added.Added.TheVariants.{Kept, Full}

-- the note was not added
pub record NotAdded {D : Type 0} (disk : Ghosts D) (old new : BookView D) (note : Note) (fault : BookFault) : Type 0 where
  pub causes : IsNotAdded fault
  pub notes_are : new.notes ≡ old.notes
  pub full : fault ≡ book.Full → has_room old.config old.notes note ≡ false
  pub room : has_room old.config old.notes note ≡ false → fault ≡ book.Full
  pub unchanged : fault ≡ book.Full → new ≡ old
  pub no_memory : fault ≡ book.NoMemory → Untouched disk old.disk new.disk × (new.down ≡ None)
  pub rose : fault ≡ book.DiskFault → (new.down ≡ Some Fault) × ((old.down ≡ Some Fault) ⊎ Rose (disk.faults old.disk) (disk.faults new.disk))
  pub stopped : fault ≡ book.Stopped → (new.down ≡ Some Stopped) × ((old.down ≡ Some Stopped) ⊎ ((disk.arming new.disk).calls ≡ Some 0))
  pub few : fault ≡ book.Stopped → old.down ≡ None → (calls : ℕ) × ((disk.arming old.disk).calls ≡ Some calls) × (calls < 4)
  pub moments : old.down ≡ None → LeavesOnly disk old.disk new.disk (KeepsBeforeOrAfter old.config old.notes note)
  pub exact : fault ≡ book.Stopped → old.down ≡ None → (fill : ℕ) (image : List ℕ) → disk.crash_image new.disk fill ≡ Some image
      → Keeps image old.config (kept_notes (disk.arming old.disk).calls fill old.notes note)

module _ {D : Type 0} (disk : Ghosts D) (old new : EndView D) (note : Note) (ready : IsReady disk old) where
  -- the book's disk is as it was
  full_happens : (room : Bool) → has_room old.config old.notes note ≡ room → NotAdded disk (book_of old) (book_of new) note book.Full
      → HasAnswered disk old new (adds room note Kept Full) Full
  full_happens true is facts = absurd (let bad : true ≡ false = sym is ∙ facts.full refl in cc)
  full_happens false is facts =
      let same : book_of new ≡ book_of old = facts.unchanged refl in
      let same_disk : new.disk ≡ old.disk = ap (λ (b : BookView D). b.disk) same in
      record {
        answer_is = refl;
        notes_are = facts.notes_are ∙ sym (append-nil old.notes);
        still_up = ap (λ (b : BookView D). b.down) same ∙ ready.up;
        moments = subst (λ (d : D). LeavesOnly disk old.disk d (KeepsEither old.config old.notes [])) (sym same_disk)
            (record { later = ready.rests.later; each = λ image left. inl (ready.rests.each image left) });
        no_call = λ none. same_disk;
        enough = λ some. absurd (some refl);
        same_count = ap disk.faults same_disk;
      }

  rose_in : (disk_rose : (old.down ≡ Some Fault) ⊎ Rose (disk.faults old.disk) (disk.faults new.disk)) → Rose (disk.faults old.disk) (disk.faults new.disk)
  rose_in (inl was) = absurd (let up = ready.up in cc)
  rose_in (inr rose) = rose

  stopped_in : ((old.down ≡ Some Stopped) ⊎ ((disk.arming new.disk).calls ≡ Some 0)) → (disk.arming new.disk).calls ≡ Some 0
  stopped_in (inl was) = absurd (let up = ready.up in cc)
  stopped_in (inr stopped) = stopped

  fault_happens : (room : Bool) → has_room old.config old.notes note ≡ room → NotAdded disk (book_of old) (book_of new) note book.DiskFault
      → HasFallen disk old new (adds room note Kept Full) (disk.faults new.disk) false
  fault_happens false is facts = absurd (let bad : book.DiskFault ≡ book.Full = facts.room is in cc)
  fault_happens true is facts = record {
    adds_note = λ none. cc;
    notes_are = facts.notes_are;
    fell = (facts.rose refl).0;
    count_is = refl;
    cause = rose_in ((facts.rose refl).1);
    moments = facts.moments ready.up;
    exact = λ bad. absurd (cc);
  }

  stop_happens : (room : Bool) → has_room old.config old.notes note ≡ room → NotAdded disk (book_of old) (book_of new) note book.Stopped
      → HasFallen disk old new (adds room note Kept Full) (disk.faults new.disk) true
  stop_happens false is facts = absurd (let bad : book.Stopped ≡ book.Full = facts.room is in cc)
  stop_happens true is facts = record {
    adds_note = λ none. cc;
    notes_are = facts.notes_are;
    fell = (facts.stopped refl).0;
    count_is = refl;
    cause = (let few = facts.few refl ready.up in (stopped_in ((facts.stopped refl).1), few.0, few.1, few.2));
    moments = facts.moments ready.up;
    exact = λ same. facts.exact refl ready.up;
  }

  no_memory_happens : NotAdded disk (book_of old) (book_of new) note book.NoMemory → IsUnchanged disk old new
  no_memory_happens facts = record { notes_are = facts.notes_are; still_up = (facts.no_memory refl).1; untouched = (facts.no_memory refl).0 }

  neither : (fault : BookFault) → (fault ≡ book.Full → ⊥) → (ComesFromDisk fault → ⊥) → IsNotAdded fault → ⊥
  neither fault one other (inl full) = one full
  neither fault one other (inr comes) = other comes

  pub not_added : (fault : BookFault) → NotAdded disk (book_of old) (book_of new) note fault
      → Happens disk old new (adds (has_room old.config old.notes note) note Kept Full) (added_of (disk.faults new.disk) fault) (fate_of_added (added_of (disk.faults new.disk) fault))
  not_added book.Unmade facts = absurd (neither book.Unmade (λ e. cc) (λ x. x) facts.causes)
  not_added (book.NotJournal place) facts = absurd (neither (book.NotJournal place) (λ e. cc) (λ x. x) facts.causes)
  not_added (book.Damaged place) facts = absurd (neither (book.Damaged place) (λ e. cc) (λ x. x) facts.causes)
  not_added book.Full facts = full_happens _ refl facts
  not_added book.AlreadyMade facts = absurd (neither book.AlreadyMade (λ e. cc) (λ x. x) facts.causes)
  not_added book.DiskFault facts = fault_happens _ refl facts
  not_added book.Stopped facts = stop_happens _ refl facts
  not_added book.NoMemory facts = no_memory_happens facts
  not_added (book.BadNote place) facts = absurd (neither (book.BadNote place) (λ e. cc) (λ x. x) facts.causes)
