use Rattle.std.proofs.Common.{◌≡◌, Err, sym, ap, subst, ◌∙◌}
use Rattle.std.specs.Prelude.{Result}
use Rattle.net_model.specs.Steps.{adds}
use Rattle.net_model.specs.declared.note.Note.{Note}
use Rattle.node_book.specs.Keeps.{has_room}
use Rattle.node_book.specs.declared.fault.BookFault.{BookFault}
use Rattle.node_book.specs.declared.fault.BookFault.TheVariants as book
use Rattle.node_book.specs.Ends.{EndView}
use Rattle.node_book.specs.EndSteps.{Happens, IsReady, fate_of_added}
use Rattle.node_book.specs.declared.added.Added.{Added}
use Rattle.node_book.specs.declared.added.Added.TheVariants.{Kept, Full}
use Rattle.node_book.proofs.EndAdding.{NotAdded, not_added}
use Rattle.node_book.proofs.end_book.EndBook.add.Goals as goal

abbrev refused : Note → BookFault → Result (Unit {0}) (Note × BookFault)
refused note fault = Err (note, fault)

refusal : (x note : Note) (fault other : BookFault) → x ≡ note → fault ≡ other → refused x fault ≡ refused note other
refusal x note fault other e f = ap (λ (n : Note). refused n fault) e ∙ ap (λ (k : BookFault). refused note k) f

fault_in : (x note : Note) (fault other : BookFault) → refused x fault ≡ refused note other → fault ≡ other
fault_in x note fault other e = ap part e
  where
    part : Result (Unit {0}) (Note × BookFault) → BookFault
    part (Err p) = p.1
    part _ = fault

pub returns-in-Err-clause-happens : goal.returns-in-Err-clause-happens
returns-in-Err-clause-happens g c =
    let d = g.D.Disk in
    let note = c.args.note in
    let fault = c.in-Err.fault in
    let said = c.in-Err.ensures in
    let old : EndView _ = record { disk = c.self.inside.book.disk; config = c.self.inside.book.config; notes = c.self.inside.book.notes; sessions = c.self.inside.sessions; steps = c.self.inside.steps; down = c.self.inside.book.down } in
    let new : EndView _ = record { disk = c.add.new.self.disk; config = c.add.new.self.config; notes = c.add.new.self.notes; sessions = c.self.inside.sessions; steps = c.self.inside.steps; down = c.add.new.self.down } in
    let P : EndView _ → Type 0 = λ v. IsReady d v → Happens d v new (adds (has_room v.config v.notes note) note Kept Full) c.not_added.result (fate_of_added c.not_added.result) in
    subst P c.self.view_is
    (λ ready.
    let facts : NotAdded d c.self.inside.book c.add.new.self note fault = record {
      causes = said.causes;
      notes_are = said.err.1;
      full = λ is. ((said.full.0) (refusal _ note fault book.Full said.err.0 is)).1;
      room = λ none. fault_in _ note fault book.Full ((said.full.1) (ready.up, none));
      unchanged = said.full_unchanged;
      no_memory = said.no_memory;
      rose = said.fault;
      stopped = said.stopped;
      few = said.few;
      moments = said.any_moment;
      exact = said.stopped_image;
    } in
    let Q : Added → Type 0 = λ a. Happens d old new (adds (has_room old.config old.notes note) note Kept Full) a (fate_of_added a) in
    subst Q (sym c.not_added.ensures) (not_added d old new note ready fault facts))
    c.requires.ready
