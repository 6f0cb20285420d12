-- Ends that are up and sound.
use Rattle.std.proofs.Common.{◌≡◌, inl, ℕ, Bool, true, false, List, [], ◌++◌, refl, sym, ◌∙◌, ap, arith}
use Rattle.std.proofs.lemmas.List.{append-nil}
use Rattle.voe_disk.specs.Runs.{LeavesOnly}
use Rattle.voe_disk.specs.declared.disk.Disk.{Ghosts}
use Rattle.gate_journal.specs.Device.{IsSameDisk}
use Rattle.net_model.specs.Steps.{Outcome, adds}
use Rattle.net_model.specs.declared.note.Note.{Note}
use Rattle.node_notes.specs.declared.config.Config.{Config}
use Rattle.node_book.specs.Keeps.{Keeps}
use Rattle.node_book.specs.Ends.{EndView, after_step}
use Rattle.node_book.specs.EndSteps.{Fate, HasAnswered, HasFallen, Happens, IsReady, IsUnchanged, KeepsEither, KeepsRest, answered, is_down, lacked_memory}
use Rattle.node_book.specs.declared.added.Added.TheVariants.{Kept, Full}

module _ {D : Type 0} (disk : Ghosts D) where
  same_disk_itself : (state : D) → IsSameDisk disk state state
  same_disk_itself state = record {
    tells = (λ x. x, λ x. x);
    tells_images = (λ x. x, λ x. x);
    tells_exact = λ fill. (λ x. x, λ x. x);
    fill = refl;
    unarmed = λ none. none;
    faults = omega arith;
  }

  -- the end where nothing is done
  pub rest_itself : (end : EndView D) → IsReady disk end → KeepsRest disk end end
  rest_itself end ready = record { config_is = refl; sessions_are = refl; steps_are = refl; same_disk = same_disk_itself end.disk; sound = ready.sound }

  -- where nothing was done, nothing has changed
  pub unchanged_itself : (end : EndView D) → IsReady disk end → IsUnchanged disk end end
  unchanged_itself end ready = record { notes_are = refl; still_up = ready.up; untouched = ready.untouched }

  either_of : (config : Config) (notes added : List Note) (old new : D) → LeavesOnly disk old new (λ image. Keeps image config notes) → LeavesOnly disk old new (KeepsEither config notes added)
  either_of config notes added old new left = record { later = left.later; each = λ image now. inl (left.each image now) }

  -- an answer without a note
  pub says_so : {A : Type 0} (end : EndView D) (outcome : Outcome A) (answer : A) → IsReady disk end → outcome.added ≡ [] → answer ≡ outcome.answer → HasAnswered disk end end outcome answer
  says_so end outcome answer ready none same = record {
    answer_is = same;
    notes_are = sym (ap (λ (added : List Note). end.notes ++ added) none ∙ append-nil end.notes);
    still_up = ready.up;
    moments = either_of end.config end.notes outcome.added end.disk end.disk ready.rests;
    no_call = λ empty. refl;
    enough = λ some. absurd (some none);
    same_count = refl;
  }

  -- What became of a note is what became of the step that adds it.
  pub when_kept : {A : Type 0} (old new : EndView D) (room : Bool) (note : Note) (noted full : A)
      → HasAnswered disk old new (adds room note Kept Full) Kept → HasAnswered disk old new (adds room note noted full) noted
  when_kept old new true note noted full h = record { answer_is = refl; notes_are = h.notes_are; still_up = h.still_up; moments = h.moments; no_call = h.no_call; enough = h.enough; same_count = h.same_count }
  when_kept old new false note noted full h = absurd (let bad : Kept ≡ Full = h.answer_is in cc)

  pub when_full : {A : Type 0} (old new : EndView D) (room : Bool) (note : Note) (noted full : A)
      → HasAnswered disk old new (adds room note Kept Full) Full → HasAnswered disk old new (adds room note noted full) full
  when_full old new true note noted full h = absurd (let bad : Full ≡ Kept = h.answer_is in cc)
  when_full old new false note noted full h = record { answer_is = refl; notes_are = h.notes_are; still_up = h.still_up; moments = h.moments; no_call = h.no_call; enough = h.enough; same_count = h.same_count }

  pub when_down : {A : Type 0} (old new : EndView D) (room : Bool) (note : Note) (noted full : A) (faults : ℕ) (stopped : Bool)
      → HasFallen disk old new (adds room note Kept Full) faults stopped → HasFallen disk old new (adds room note noted full) faults stopped
  when_down old new true note noted full faults stopped h = record { adds_note = h.adds_note; notes_are = h.notes_are; fell = h.fell; count_is = h.count_is; cause = h.cause; moments = h.moments; exact = h.exact }
  when_down old new false note noted full faults stopped h = absurd (h.adds_note refl)

  answered_before : {A : Type 0} (end new : EndView D) (outcome : Outcome A) (answer : A) → HasAnswered disk (after_step end) new outcome answer → HasAnswered disk end new outcome answer
  answered_before end new outcome answer h = record { answer_is = h.answer_is; notes_are = h.notes_are; still_up = h.still_up; moments = h.moments; no_call = h.no_call; enough = h.enough; same_count = h.same_count }

  fallen_before : {A : Type 0} (end new : EndView D) (outcome : Outcome A) (faults : ℕ) (stopped : Bool) → HasFallen disk (after_step end) new outcome faults stopped
      → HasFallen disk end new outcome faults stopped
  fallen_before end new outcome faults stopped h = record { adds_note = h.adds_note; notes_are = h.notes_are; fell = h.fell; count_is = h.count_is; cause = h.cause; moments = h.moments; exact = h.exact }

  -- counting a step changes nothing of what becomes of it
  pub before_step : {A : Type 0} (end new : EndView D) (outcome : Outcome A) (answer : A) (fate : Fate) → Happens disk (after_step end) new outcome answer fate
      → Happens disk end new outcome answer fate
  before_step end new outcome answer answered h = answered_before end new outcome answer h
  before_step end new outcome answer (is_down faults stopped) h = fallen_before end new outcome faults stopped h
  before_step end new outcome answer lacked_memory h = record { notes_are = h.notes_are; still_up = h.still_up; untouched = h.untouched }
