use Rattle.std.proofs.Common.{◌≡◌, ◌<◌, true, Some, None, Err, List, ℕ, sym, ap, subst, ◌∙◌}
use Rattle.voe_disk.specs.Runs.{LeavesOnly}
use Rattle.gate_journal.specs.Fault.{fault_of}
use Rattle.node_book.specs.declared.fault.BookFault.{BookFault}
use Rattle.node_book.specs.Fault.{book_fault}
use Rattle.node_notes.specs.Forms.{is_next}
use Rattle.node_book.specs.Keeps.{Keeps, KeepsBeforeOrAfter, kept_notes}
use Rattle.node_book.specs.Book.{BookView}
use Rattle.node_book.specs.Records.{payloads_in}
use Rattle.node_book.proofs.Telling.{either_keeps, kept_keeps, kept_tells}
use Rattle.node_book.proofs.book.Book.add.Goals as goal

pub returns-in-Ok-clause-any_moment : goal.returns-in-Ok-clause-any_moment
returns-in-Ok-clause-any_moment g c =
    let d = g.D.Disk in
    let P : BookView _ → Type 0 = λ v. is_next v.config v.notes c.args.note ≡ true → v.down ≡ None → LeavesOnly d v.disk c.append_note.new.journal.disk (KeepsBeforeOrAfter v.config v.notes c.args.note) in
    subst P c.self.view_is (λ next up.
    let left = c.append_note.ensures.any_moment up in
    record { later = left.later; each = λ image at. either_keeps (payloads_in c.self.inside.records) c.self.inside.records.config c.self.inside.records.notes.items c.args.note (kept_tells c.self.inside.records c.self.invariant.kept) next image (left.each image at) }) c.requires

pub returns-in-Err-clause-any_moment : goal.returns-in-Err-clause-any_moment
returns-in-Err-clause-any_moment g c =
    let d = g.D.Disk in
    let P : BookView _ → Type 0 = λ v. is_next v.config v.notes c.args.note ≡ true → v.down ≡ None → LeavesOnly d v.disk c.append_note.new.journal.disk (KeepsBeforeOrAfter v.config v.notes c.args.note) in
    subst P c.self.view_is (λ next up.
    let left = c.append_note.ensures.any_moment up in
    record { later = left.later; each = λ image at. either_keeps (payloads_in c.self.inside.records) c.self.inside.records.config c.self.inside.records.notes.items c.args.note (kept_tells c.self.inside.records c.self.invariant.kept) next image (left.each image at) }) c.requires

pub returns-in-Ok-clause-down : goal.returns-in-Ok-clause-down
returns-in-Ok-clause-down g c fail is =
    let was = ap (λ (v : BookView _). v.down) c.self.view_is ∙ is in
    let h = c.append_note.ensures.down fail was in
    let both = sym c.in-Ok.is ∙ h.0 in
    absurd cc

pub returns-in-Err-clause-down : goal.returns-in-Err-clause-down
returns-in-Err-clause-down g c fail is =
    let was = ap (λ (v : BookView _). v.down) c.self.view_is ∙ is in
    let h = c.append_note.ensures.down fail was in
    let both = sym c.in-Err.is ∙ h.0 in
    let same : c.in-Err.fault ≡ book_fault (fault_of fail) = cc in
    let journal = h.1 in
    let config = c.append_note.ensures.config in
    let notes = c.append_note.ensures.notes in
    (ap (λ (f : BookFault). Err (c.args.note, f)) same, (λ i. record { disk = (journal i).disk; config = config i; notes = notes i; down = (journal i).down }) ∙ c.self.view_is)

pub returns-in-Err-clause-few : goal.returns-in-Err-clause-few
returns-in-Err-clause-few g c is =
    let d = g.D.Disk in
    let P : BookView _ → Type 0 = λ v. v.down ≡ None → (calls : ℕ) × ((d.arming v.disk).calls ≡ Some calls) × (calls < 4) in
    subst P c.self.view_is (λ up. c.in-Err.ensures.few (λ i. Err (is i)) up)

pub returns-in-Err-clause-stopped_image : goal.returns-in-Err-clause-stopped_image
returns-in-Err-clause-stopped_image g c is =
    let d = g.D.Disk in
    let inside = c.self.inside in
    let P : BookView _ → Type 0 = λ v. is_next v.config v.notes c.args.note ≡ true → v.down ≡ None → (fill : ℕ) (image : List ℕ) → d.crash_image c.append_note.new.journal.disk fill ≡ Some image
    → Keeps image v.config (kept_notes (d.arming v.disk).calls fill v.notes c.args.note) in
    subst P c.self.view_is (λ next up fill image left.
    kept_keeps (payloads_in inside.records) inside.records.config inside.records.notes.items c.args.note (kept_tells inside.records c.self.invariant.kept) next (d.arming inside.journal.disk).calls fill image (c.in-Err.ensures.stopped_image (λ i. Err (is i)) up fill image left)) c.requires
