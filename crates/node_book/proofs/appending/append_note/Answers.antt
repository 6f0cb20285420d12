use Rattle.std.proofs.Common.{◌≡◌, ◌∙◌, [], ◌∷◌, ◌++◌, true, Result, Ok, Err, List, ℕ, length, sym, ap, subst, arith}
use Rattle.std.specs.Prelude.{OnErr}
use Rattle.std.proofs.lemmas.Bool.{and_parts}
use Rattle.std.proofs.lemmas.Result.{err_from_is_err_and}
use Rattle.voe_disk.specs.Runs.{LeavesOnly}
use Rattle.gate_journal.specs.Appender.{HasPayloads}
use Rattle.gate_journal.specs.Format.{kept, Stands, StandsBeforeOrAfter}
use Rattle.gate_journal.specs.declared.fault.JournalFault.{JournalFault}
use Rattle.gate_journal.specs.declared.fault.JournalFault.TheVariants as journal
use Rattle.node_notes.specs.Forms.{keeps_form, may_follow}
use Rattle.node_notes.specs.Spelling.{note_payload}
use Rattle.node_notes.specs.Tells.{payloads_of}
use Rattle.node_notes.proofs.Shapes.{note_spells, note_small}
use Rattle.node_book.specs.declared.fault.BookFault.TheVariants.{Full, Stopped}
use Rattle.node_book.specs.Keeps.{has_room}
use Rattle.node_book.specs.Records.{payloads_in}
use Rattle.node_book.proofs.Rooms.{journal_fits, was_full, was_stopped}
use Rattle.node_book.proofs.Telling.{payloads_of-append}
use Rattle.node_book.proofs.appending.append_note.Goals as goal

pub write_note-requires : goal.write_note-requires
write_note-requires g c =
    let parts = and_parts (keeps_form c.args.records.now.config c.args.note.now) (may_follow c.args.records.now.notes.items c.args.note.now) c.requires.next in
    note_spells c.args.records.now.config c.args.note.now c.requires.on_disk.kept.config_fits parts.0

pub append-requires-clause-few : goal.append-requires-clause-few
append-requires-clause-few g c =
    let parts = and_parts (keeps_form c.args.records.now.config c.args.note.now) (may_follow c.args.records.now.notes.items c.args.note.now) c.requires.next in
    let small = note_small c.args.records.now.config c.args.note.now c.requires.on_disk.kept.config_fits parts.0 in
    let is : c.deref.result.now ≡ note_payload c.args.note.now = c.deref.ensures.value ∙ c.in_ok-payload.ensures in
    omega (arith, small.few, ap length is)

pub returns-in_err-append-clause-full : goal.returns-in_err-append-clause-full
returns-in_err-append-clause-full g c =
    let config = c.args.records.now.config in
    let notes = c.args.records.now.notes.items in
    let note = c.args.note.now in
    let room : has_room config notes note ≡ true = cc in
    let is : c.deref.result.now ≡ note_payload note = c.deref.ensures.value ∙ c.in_ok-payload.ensures in
    let p = err_from_is_err_and c.from_residual-in_err-append.result c.from_residual-in_err-append.ensures.1 in (
      (λ full.
          let same : p.0 ≡ Full = (let both = sym p.1 ∙ full in cc) in
          let fault = was_full c.in_err-append.field-0.0 (sym p.2 ∙ same) in
          let over = c.append.ensures.full.0 (c.in_err-append.was ∙ ap (λ (f : JournalFault). Err f) fault) in
          absurd (journal_fits config notes note c.args.journal.now.end (length c.deref.result.now) c.requires.on_disk.has.end (ap length is) room over.1)),
      (λ lacks. absurd (let both = sym room ∙ lacks.1 in cc)),
    )

on_err : {T E : Type 0} {X : Type 0} (r : Result T E) → X → OnErr r X
on_err (Ok x) holds = tt
on_err (Err e) holds = holds

pub returns-in_err-append-clause-err : goal.returns-in_err-append-clause-err
returns-in_err-append-clause-err g c = on_err c.from_residual-in_err-append.result (c.in_err-append.ensures.err (payloads_in c.args.records.now) c.requires.on_disk.has)

pub returns-in_err-append-clause-any_moment : goal.returns-in_err-append-clause-any_moment
returns-in_err-append-clause-any_moment g c up =
    let d = g.D.Disk in
    let had = payloads_in c.args.records.now in
    let is : c.deref.result.now ≡ note_payload c.args.note.now = c.deref.ensures.value ∙ c.in_ok-payload.ensures in
    subst (λ (l : List ℕ). LeavesOnly d c.args.journal.now.disk c.append.new.self.disk (StandsBeforeOrAfter had l)) is (c.append.ensures.any_moment up had c.requires.on_disk.has)

pub returns-clause-any_moment : goal.returns-clause-any_moment
returns-clause-any_moment g c up =
    let d = g.D.Disk in
    let had = payloads_in c.args.records.now in
    let is : c.deref.result.now ≡ note_payload c.args.note.now = c.deref.ensures.value ∙ c.in_ok-payload.ensures in
    subst (λ (l : List ℕ). LeavesOnly d c.args.journal.now.disk c.append.new.self.disk (StandsBeforeOrAfter had l)) is (c.append.ensures.any_moment up had c.requires.on_disk.has)

pub returns-in_err-append-clause-stopped_image : goal.returns-in_err-append-clause-stopped_image
returns-in_err-append-clause-stopped_image g c stop up fill image left =
    let d = g.D.Disk in
    let had = payloads_in c.args.records.now in
    let is : c.deref.result.now ≡ note_payload c.args.note.now = c.deref.ensures.value ∙ c.in_ok-payload.ensures in
    let p = err_from_is_err_and c.from_residual-in_err-append.result c.from_residual-in_err-append.ensures.1 in
    let same : p.0 ≡ Stopped = (let both = sym p.1 ∙ stop in cc) in
    let fault = was_stopped c.in_err-append.field-0.0 (sym p.2 ∙ same) in
    let was : c.append.result ≡ Err journal.Stopped = c.in_err-append.was ∙ ap (λ (f : JournalFault). Err f) fault in
    subst (λ (l : List ℕ). Stands image (kept (d.arming c.args.journal.now.disk).calls fill had l)) is (c.append.ensures.stopped_image was up had c.requires.on_disk.has fill image left)

pub returns-clause-ok : goal.returns-clause-ok
returns-clause-ok g c =
    let d = g.D.Disk in
    let config = c.args.records.now.config in
    let notes = c.args.records.now.notes.items in
    let note = c.args.note.now in
    let is : c.deref.result.now ≡ note_payload note = c.deref.ensures.value ∙ c.in_ok-payload.ensures in
    let all = ap (λ (l : List ℕ). payloads_of config notes ++ l ∷ []) is ∙ sym (payloads_of-append config notes note) in
    subst (λ (l : List (List ℕ)). HasPayloads d c.append.new.self l) all (c.in_ok-append.ensures.ok (payloads_of config notes) c.requires.on_disk.has)
