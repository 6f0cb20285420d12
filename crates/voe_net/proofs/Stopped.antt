-- What a stop leaves of a node.
use Rattle.std.proofs.Common.{◌≡◌, inr, ℕ, ◌≤◌, Bool, true, false, List, [], ◌∷◌, ◌++◌, Some, refl, sym, ◌∙◌, ap, subst}
use Rattle.std.specs.Prelude.{IfSome, if◌then◌else◌, cond, nat_le, ◌==◌, ◌&&◌, ◌||◌}
use Rattle.std.proofs.lemmas.Bool.{le-leb}
use Rattle.std.proofs.lemmas.List.{append-nil}
use Rattle.voe_disk.specs.Disk.{Arming}
use Rattle.voe_disk.specs.Runs.{Moments, at_last}
use Rattle.voe_disk.specs.declared.disk.Disk.{Ghosts}
use Rattle.gate_journal.specs.Format as journal
use Rattle.net_model.specs.Runs as model
use Rattle.net_model.specs.Steps.{Outcome}
use Rattle.net_model.specs.declared.note.Note.{Note}
use Rattle.node_notes.specs.declared.config.Config.{Config}
use Rattle.node_book.specs.Ends.{EndView, IsSound}
use Rattle.node_book.specs.EndSteps.{HasAnswered, HasFallen, KeepsEither}
use Rattle.node_book.specs.Keeps.{Keeps}

-- the two crates say the same of a stop
pub same_kept : (calls fill : ℕ) → journal.is_kept (Some calls) fill ≡ model.is_kept calls fill
same_kept calls fill = kept_at (nat_le 4 calls) (calls == 3) (fill == 1)
  where
    kept_at : (a b c : Bool) → (a || (b && c)) ≡ cond a true (cond b c false)
    kept_at true b c = refl
    kept_at false true c = refl
    kept_at false false c = refl

-- the records after a stop
abbrev pub after_stop : Bool → List Note → List Note → List Note
after_stop kept notes added = if kept then notes ++ added else notes

-- what is known of a disk on which records were to be added
pub record HasRun {D : Type 0} (disk : Ghosts D) (calls fill : ℕ) (config : Config) (notes added : List Note) (state : D) : Type 0 where
  pub either : (image : List ℕ) → disk.may_leave state image → KeepsEither config notes added image
  pub exact : (image : List ℕ) → disk.crash_image state fill ≡ Some image → Keeps image config (after_stop (model.is_kept calls fill) notes added)

module _ {D : Type 0} (disk : Ghosts D) (moments : Moments disk) (exact_counts : (state : D) (fill : ℕ) (image : List ℕ) → disk.crash_image state fill ≡ Some image → disk.may_leave state image)
    (calls fill : ℕ) (old new : EndView D) (armed : disk.arming old.disk ≡ record { calls = Some calls; fill = fill }) (same : new.config ≡ old.config) where
  enough_kept : (added : List Note) (image : List ℕ) → ((added ≡ [] → ⊥) → IfSome (disk.arming old.disk).calls (λ n. 4 ≤ n)) → Keeps image old.config (old.notes ++ added)
      → Keeps image old.config (after_stop (model.is_kept calls fill) old.notes added)
  enough_kept [] image enough keeps = either_way (model.is_kept calls fill)
    where
      either_way : (b : Bool) → Keeps image old.config (after_stop b old.notes [])
      either_way true = keeps
      either_way false = subst (λ (l : List Note). Keeps image old.config l) (append-nil old.notes) keeps
  enough_kept (note ∷ added) image enough keeps =
      let four : 4 ≤ calls = subst (λ (a : Arming). IfSome a.calls (λ n. 4 ≤ n)) armed (enough (λ none. cc)) in
      let kept : model.is_kept calls fill ≡ true = ap (λ (b : Bool). cond b true (cond (calls == 3) (fill == 1) false)) (le-leb 4 calls four) in
      subst (λ (b : Bool). Keeps image old.config (after_stop b old.notes (note ∷ added))) (sym kept) keeps

  -- the end has answered
  pub answered_ran : {A : Type 0} (outcome : Outcome A) (answer : A) → IsSound disk new → HasAnswered disk old new outcome answer → HasRun disk calls fill old.config old.notes outcome.added new.disk
  answered_ran outcome answer sound h =
      let holds : (image : List ℕ) → disk.may_leave new.disk image → Keeps image old.config (old.notes ++ outcome.added) = λ image left.
      subst (λ (c : Config). Keeps image c (old.notes ++ outcome.added)) same
      (subst (λ (l : List Note). Keeps image new.config l) h.notes_are ((sound.up h.still_up).images image left)) in
      record {
        either = λ image left. inr (holds image left);
        exact = λ image is. enough_kept outcome.added image h.enough (holds image (exact_counts new.disk fill image is));
      }

  -- the disk has stopped
  pub fallen_ran : {A : Type 0} (outcome : Outcome A) (faults : ℕ) → HasFallen disk old new outcome faults true → HasRun disk calls fill old.config old.notes outcome.added new.disk
  fallen_ran outcome faults h = record {
    either = at_last disk moments (KeepsEither old.config old.notes outcome.added) old.disk new.disk h.moments;
    exact = λ image is.
        let its : journal.is_kept (disk.arming old.disk).calls fill ≡ model.is_kept calls fill = ap (λ (a : Arming). journal.is_kept a.calls fill) armed ∙ same_kept calls fill in
        subst (λ (b : Bool). Keeps image old.config (after_stop b old.notes outcome.added)) its (h.exact refl fill image is);
  }
