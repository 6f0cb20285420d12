use Rattle.std.proofs.Common.{◌≡◌, ℕ, true, List, sym, subst, ◌∙◌}
use Rattle.std.specs.Prelude.{IsUtf8}
use Rattle.net_model.specs.Steps.{Outcome, adds}
use Rattle.net_model.specs.declared.note.Note.TheVariants.{Done}
use Rattle.net_model.specs.declared.step.BrokerStep.{BrokerStep}
use Rattle.net_model.specs.declared.step.BrokerStep.TheVariants as b
use Rattle.node_notes.specs.Forms.{is_next}
use Rattle.node_book.specs.Keeps.{has_room}
use Rattle.node_book.specs.EndSteps.{HasFallen}
use Rattle.node_book.specs.declared.added.Added.TheVariants.{Kept, Full}
use Rattle.node_book.proofs.EndReady.{when_down}
use Rattle.node_book.proofs.EndReplies.{done_next, named, open_at}
use Rattle.broker_end.proofs.LastSessions.{acked_is}
use Rattle.broker_end.proofs.sessions.acked.Goals as goal

pub add-requires-clause-next : goal.add-requires-clause-next
add-requires-clause-next g c =
    let end = c.args.end.now in
    let i = c.args.identifier.now in
    let bytes : c.as_bytes-name.result.now ≡ i = c.as_bytes-name.ensures.value ∙ c.as_str.ensures.text in
    let opened = open_at end c.book.result.now c.args.link c.as_bytes-name.result.now i true c.book.ensures bytes c.if-not-is_open.ensures in
    let text : IsUtf8 i = subst IsUtf8 bytes c.as_bytes-name.ensures.utf8 in
    let own : c.in-Ok.identifier ≡ i = c.in-Ok.ensures ∙ bytes in
    let P : List ℕ → Type 0 = λ k. is_next end.config end.notes (Done c.args.link k) ≡ true in
    subst P (sym own) (done_next end.config end.notes c.args.link i c.requires.kind (named i text c.as_str.ensures.identifier) c.requires.link opened)

pub returns-in-Down-clause-happens : goal.returns-in-Down-clause-happens
returns-in-Down-clause-happens g c = λ rules right.
    let d = g.D.Disk in
    let end = c.args.end.now in
    let link = c.args.link in
    let i = c.args.identifier.now in
    let faults = c.in-Down.fallen.faults in
    let stopped = c.in-Down.fallen.stopped in
    let bytes : c.as_bytes-name.result.now ≡ i = c.as_bytes-name.ensures.value ∙ c.as_str.ensures.text in
    let opened = open_at end c.book.result.now link c.as_bytes-name.result.now i true c.book.ensures bytes c.if-not-is_open.ensures in
    let own : c.in-Ok.identifier ≡ i = c.in-Ok.ensures ∙ bytes in
    let H : List ℕ → Type 0 = λ k. HasFallen d end c.add.new.self (adds (has_room end.config end.notes (Done link k)) (Done link k) Kept Full) faults stopped in
    let h = subst H own c.in-Down.ensures.happens in
    let P : Outcome BrokerStep → Type 0 = λ o. HasFallen d end c.add.new.self o faults stopped in
    subst P (sym (acked_is rules end.config end.notes end.sessions link c.args.session c.last_session-newer.result i right c.last_session-newer.ensures c.if-session-newer.false opened))
    (when_down d end c.add.new.self (has_room end.config end.notes (Done link i)) (Done link i) b.Noted b.Full faults stopped h)
