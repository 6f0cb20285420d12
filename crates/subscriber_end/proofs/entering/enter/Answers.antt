use Rattle.std.proofs.Common.{◌≡◌, ℕ, true, false, List, Some, refl, sym, subst}
use Rattle.net_model.specs.Steps.{Outcome, adds, says}
use Rattle.net_model.specs.declared.note.Note.TheVariants.{Enter}
use Rattle.net_model.specs.declared.state.NakCode.TheVariants.{Full as NoRoom}
use Rattle.net_model.specs.declared.state.Verdict.{Verdict}
use Rattle.net_model.specs.declared.state.Verdict.TheVariants.{Ack, Nak}
use Rattle.net_model.specs.declared.step.SubscriberStep.TheVariants.{Answer}
use Rattle.node_notes.specs.Forms.{is_next}
use Rattle.node_book.specs.Keeps.{has_room}
use Rattle.node_book.specs.EndSteps.{HasAnswered, HasFallen}
use Rattle.node_book.specs.declared.added.Added.TheVariants.{Kept, Full}
use Rattle.node_book.proofs.EndReady.{says_so, when_down, when_full, when_kept}
use Rattle.node_book.proofs.EndReplies.{enter_next, known_at, known_reply, mapped, mapped_fall, new_reply}
use Rattle.subscriber_end.specs.Subscriber.{replies}
use Rattle.subscriber_end.proofs.entering.enter.Goals as goal

pub add-requires-clause-next : goal.add-requires-clause-next
add-requires-clause-next g c =
    let end = c.args.end.now in
    let new = known_at end c.book.result.now c.as_slice.result.now c.args.identifier false c.book.ensures c.as_slice.ensures c.if-knows.ensures in
    subst (λ (i : List ℕ). is_next end.config end.notes (Enter i c.args.packet) ≡ true) (sym c.in-Ok.ensures)
    (enter_next end.config end.notes c.args.identifier c.args.packet c.requires.kind c.requires.identifier c.requires.packet new)

pub returns-then-knows-clause-happens : goal.returns-then-knows-clause-happens
returns-then-knows-clause-happens g c = λ rules right.
    let end = c.args.end.now in
    let i = c.args.identifier in
    let known = known_at end c.book.result.now c.as_slice.result.now i true c.book.ensures c.as_slice.ensures c.if-knows.ensures in
    let P : Outcome Verdict → Type 0 = λ o. HasAnswered g.D.Disk end end (replies o) (Answer (Ack i)) in
    subst P (sym (known_reply rules end.notes false c.args.packet i (Enter i c.args.packet) known))
    (says_so g.D.Disk end (replies (says (Ack i))) (Answer (Ack i)) c.requires.ready refl refl)

pub returns-in-Kept-clause-happens : goal.returns-in-Kept-clause-happens
returns-in-Kept-clause-happens g c = λ rules right.
    let d = g.D.Disk in
    let end = c.args.end.now in
    let i = c.args.identifier in
    let note = Enter i c.args.packet in
    let room = has_room end.config end.notes note in
    let new = known_at end c.book.result.now c.as_slice.result.now i false c.book.ensures c.as_slice.ensures c.if-knows.ensures in
    let H : List ℕ → Type 0 = λ k. HasAnswered d end c.add.new.self (adds (has_room end.config end.notes (Enter k c.args.packet)) (Enter k c.args.packet) Kept Full) Kept in
    let h = subst H c.in-Ok.ensures c.in-Kept.ensures.happens in
    let P : Outcome Verdict → Type 0 = λ o. HasAnswered d end c.add.new.self (replies o) (Answer (Ack i)) in
    subst P (sym (new_reply rules end.config end.notes false c.args.packet i note right new))
    (mapped d end c.add.new.self Answer (adds room note (Ack i) (Nak (Some i) NoRoom)) (Ack i) (when_kept d end c.add.new.self room note (Ack i) (Nak (Some i) NoRoom) h))

pub returns-in-Full-clause-happens : goal.returns-in-Full-clause-happens
returns-in-Full-clause-happens g c = λ rules right.
    let d = g.D.Disk in
    let end = c.args.end.now in
    let i = c.args.identifier in
    let note = Enter i c.args.packet in
    let room = has_room end.config end.notes note in
    let new = known_at end c.book.result.now c.as_slice.result.now i false c.book.ensures c.as_slice.ensures c.if-knows.ensures in
    let H : List ℕ → Type 0 = λ k. HasAnswered d end c.add.new.self (adds (has_room end.config end.notes (Enter k c.args.packet)) (Enter k c.args.packet) Kept Full) Full in
    let h = subst H c.in-Ok.ensures c.in-Full.ensures.happens in
    let P : Outcome Verdict → Type 0 = λ o. HasAnswered d end c.add.new.self (replies o) (Answer (Nak (Some i) NoRoom)) in
    subst P (sym (new_reply rules end.config end.notes false c.args.packet i note right new))
    (mapped d end c.add.new.self Answer (adds room note (Ack i) (Nak (Some i) NoRoom)) (Nak (Some i) NoRoom) (when_full d end c.add.new.self room note (Ack i) (Nak (Some i) NoRoom) h))

pub returns-in-Down-clause-happens : goal.returns-in-Down-clause-happens
returns-in-Down-clause-happens g c = λ rules right.
    let d = g.D.Disk in
    let end = c.args.end.now in
    let i = c.args.identifier in
    let faults = c.in-Down.fallen.faults in
    let stopped = c.in-Down.fallen.stopped in
    let note = Enter i c.args.packet in
    let room = has_room end.config end.notes note in
    let new = known_at end c.book.result.now c.as_slice.result.now i false c.book.ensures c.as_slice.ensures c.if-knows.ensures in
    let H : List ℕ → Type 0 = λ k. HasFallen d end c.add.new.self (adds (has_room end.config end.notes (Enter k c.args.packet)) (Enter k c.args.packet) Kept Full) faults stopped in
    let h = subst H c.in-Ok.ensures c.in-Down.ensures.happens in
    let P : Outcome Verdict → Type 0 = λ o. HasFallen d end c.add.new.self (replies o) faults stopped in
    subst P (sym (new_reply rules end.config end.notes false c.args.packet i note right new))
    (mapped_fall d end c.add.new.self Answer (adds room note (Ack i) (Nak (Some i) NoRoom)) faults stopped (when_down d end c.add.new.self room note (Ack i) (Nak (Some i) NoRoom) faults stopped h))
