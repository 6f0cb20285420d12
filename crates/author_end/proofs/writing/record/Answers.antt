use Rattle.std.proofs.Common.{◌≡◌, ℕ, Bool, true, false, List, refl, sym, ap, subst, ◌∙◌}
use Rattle.std.specs.Prelude.{cond}
use Rattle.net_model.specs.Notes.{knows}
use Rattle.net_model.specs.Rules.{NodeRules}
use Rattle.net_model.specs.Steps.{Outcome, adds, says, write_judged}
use Rattle.net_model.specs.declared.note.Note.{Note}
use Rattle.net_model.specs.declared.note.Note.TheVariants.{Wrote}
use Rattle.net_model.specs.declared.step.AuthorStep.{AuthorStep}
use Rattle.net_model.specs.declared.step.AuthorStep.TheVariants as a
use Rattle.net_model.specs.declared.step.Judged.TheVariants.{Good}
use Rattle.node_notes.specs.declared.config.Config.{Config}
use Rattle.node_book.specs.Keeps.{has_room}
use Rattle.node_book.specs.EndSteps.{HasAnswered, HasFallen, HasRoomOf}
use Rattle.node_book.proofs.EndReady.{says_so, when_down, when_full, when_kept}
use Rattle.node_book.proofs.EndReplies.{known_at, wrote_next}
use Rattle.author_end.proofs.writing.record.Goals as goal

new_write : (rules : NodeRules) (config : Config) (notes : List Note) (packet identifier : List ℕ) → HasRoomOf config rules → knows notes identifier ≡ false
    → write_judged rules notes packet (Good identifier) ≡ adds (has_room config notes (Wrote identifier packet)) (Wrote identifier packet) a.Wrote a.Full
new_write rules config notes packet identifier right new =
    ap (λ (b : Bool). cond b (says a.Known) (adds (rules.has_room notes (Wrote identifier packet)) (Wrote identifier packet) a.Wrote a.Full)) new
    ∙ ap (λ (b : Bool). adds b (Wrote identifier packet) a.Wrote a.Full) (right notes (Wrote identifier packet))

known_write : (rules : NodeRules) (notes : List Note) (packet identifier : List ℕ) → knows notes identifier ≡ true
    → write_judged rules notes packet (Good identifier) ≡ says a.Known
known_write rules notes packet identifier known =
    ap (λ (b : Bool). cond b (says a.Known) (adds (rules.has_room notes (Wrote identifier packet)) (Wrote identifier packet) a.Wrote a.Full)) known

pub add-requires-clause-next : goal.add-requires-clause-next
add-requires-clause-next g c =
    let end = c.args.end.now in
    let new = known_at end c.book.result.now c.as_slice.result.now c.args.identifier false c.book.ensures c.as_slice.ensures c.if-knows.ensures in
    wrote_next end.config end.notes c.args.identifier c.args.packet c.requires.kind c.requires.identifier c.requires.packet new

pub returns-then-knows-clause-happens : goal.returns-then-knows-clause-happens
returns-then-knows-clause-happens g c = λ rules right.
    let end = c.args.end.now in
    let i = c.args.identifier in
    let known = known_at end c.book.result.now c.as_slice.result.now i true c.book.ensures c.as_slice.ensures c.if-knows.ensures in
    let P : Outcome AuthorStep → Type 0 = λ o. HasAnswered g.D.Disk end end o a.Known in
    subst P (sym (known_write rules end.notes c.args.packet i known)) (says_so g.D.Disk end (says a.Known) a.Known c.requires.ready refl refl)

pub returns-in-Kept-clause-happens : goal.returns-in-Kept-clause-happens
returns-in-Kept-clause-happens g c = λ rules right.
    let d = g.D.Disk in
    let end = c.args.end.now in
    let i = c.args.identifier in
    let note = Wrote i c.args.packet in
    let room = has_room end.config end.notes note in
    let new = known_at end c.book.result.now c.as_slice.result.now i false c.book.ensures c.as_slice.ensures c.if-knows.ensures in
    let P : Outcome AuthorStep → Type 0 = λ o. HasAnswered d end c.add.new.self o a.Wrote in
    subst P (sym (new_write rules end.config end.notes c.args.packet i right new)) (when_kept d end c.add.new.self room note a.Wrote a.Full c.in-Kept.ensures.happens)

pub returns-in-Full-clause-happens : goal.returns-in-Full-clause-happens
returns-in-Full-clause-happens g c = λ rules right.
    let d = g.D.Disk in
    let end = c.args.end.now in
    let i = c.args.identifier in
    let note = Wrote i c.args.packet in
    let room = has_room end.config end.notes note in
    let new = known_at end c.book.result.now c.as_slice.result.now i false c.book.ensures c.as_slice.ensures c.if-knows.ensures in
    let P : Outcome AuthorStep → Type 0 = λ o. HasAnswered d end c.add.new.self o a.Full in
    subst P (sym (new_write rules end.config end.notes c.args.packet i right new)) (when_full d end c.add.new.self room note a.Wrote a.Full c.in-Full.ensures.happens)

pub returns-in-Down-clause-happens : goal.returns-in-Down-clause-happens
returns-in-Down-clause-happens g c = λ rules right.
    let d = g.D.Disk in
    let end = c.args.end.now in
    let i = c.args.identifier in
    let faults = c.in-Down.fallen.faults in
    let stopped = c.in-Down.fallen.stopped in
    let note = Wrote i c.args.packet in
    let room = has_room end.config end.notes note in
    let new = known_at end c.book.result.now c.as_slice.result.now i false c.book.ensures c.as_slice.ensures c.if-knows.ensures in
    let P : Outcome AuthorStep → Type 0 = λ o. HasFallen d end c.add.new.self o faults stopped in
    subst P (sym (new_write rules end.config end.notes c.args.packet i right new)) (when_down d end c.add.new.self room note a.Wrote a.Full faults stopped c.in-Down.ensures.happens)
