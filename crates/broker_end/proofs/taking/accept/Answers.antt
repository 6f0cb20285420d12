use Rattle.std.proofs.Common.{◌≡◌, inl, inr, ℕ, true, false, List, length, Some, refl, sym, subst}
use Rattle.net_model.specs.Notes.{passing}
use Rattle.net_model.specs.Steps.{Outcome, adds, known_answer, reply_to, says}
use Rattle.net_model.specs.declared.note.Note.TheVariants.{Accept}
use Rattle.net_model.specs.declared.state.NakCode.TheVariants.{Full as NoRoom}
use Rattle.net_model.specs.declared.state.Verdict.{Verdict}
use Rattle.net_model.specs.declared.state.Verdict.TheVariants.{Ack, Nak}
use Rattle.net_model.specs.declared.step.BrokerStep.{BrokerStep}
use Rattle.net_model.specs.declared.step.BrokerStep.TheVariants.{Answer}
use Rattle.node_notes.specs.Forms.{is_next}
use Rattle.node_book.specs.Keeps.{has_room}
use Rattle.node_book.specs.EndSteps.{HasAnswered, HasFallen, Happens}
use Rattle.node_book.specs.declared.added.Added.TheVariants.{Kept, Full}
use Rattle.node_book.proofs.EndReady.{says_so, when_down, when_full, when_kept}
use Rattle.node_book.proofs.EndReplies.{accept_next, known_at, known_reply, mapped, mapped_fall, new_reply}
use Rattle.broker_end.specs.Broker.{fate_of, is_line, replies}
use Rattle.broker_end.proofs.Packets.{few_sets, links_are, links_rise}
use Rattle.broker_end.proofs.taking.accept.Goals as goal

pub returns-then-knows-clause-decided : goal.returns-then-knows-clause-decided
returns-then-knows-clause-decided g c =
    inr (inl (known_at c.args.end.now c.book.result.now c.as_slice.result.now c.args.identifier true c.book.ensures c.as_slice.ensures c.if-knows.ensures))

pub returns-then-knows-clause-happens : goal.returns-then-knows-clause-happens
returns-then-knows-clause-happens g c = λ rules digests room passes.
    let end = c.args.end.now in
    let i = c.args.identifier in
    let note = Accept i (passing rules 0 (length end.config.links) c.args.packet) c.args.packet in
    let known = known_at end c.book.result.now c.as_slice.result.now i true c.book.ensures c.as_slice.ensures c.if-knows.ensures in
    let verdict = known_answer rules end.notes (is_line c.args.from) c.args.packet i in
    let P : Outcome Verdict → Type 0 = λ o. HasAnswered g.D.Disk end end (replies o) (Answer verdict) in
    let R : BrokerStep → Type 0 = λ r. Happens g.D.Disk end end (replies (says verdict)) r (fate_of r) in
    let here = says_so g.D.Disk end (replies (says verdict)) (Answer verdict) c.requires.ready refl refl in
    let Q : Outcome Verdict → Type 0 = λ o. Happens g.D.Disk end end (replies o) c.answer_known.result (fate_of c.answer_known.result) in
    subst Q (sym (known_reply rules end.notes (is_line c.args.from) c.args.packet i note known)) (subst R (sym (c.answer_known.ensures rules digests)) here)

pub passing-requires : goal.passing-requires
passing-requires g c = few_sets c.args.end.now.config c.args.filters.now.sets c.requires.ready.sound.told.config_fits c.requires.filters

pub add-requires-clause-next : goal.add-requires-clause-next
add-requires-clause-next g c =
    let end = c.args.end.now in
    let new = known_at end c.book.result.now c.as_slice.result.now c.args.identifier false c.book.ensures c.as_slice.ensures c.if-knows.ensures in
    let rising = links_rise end.config.links c.args.filters.now.sets c.args.tree.now.root c.in-Ok.links c.requires.filters c.in-Ok.ensures in
    subst (λ (i : List ℕ). is_next end.config end.notes (Accept i c.in-Ok.links c.args.packet) ≡ true) (sym c.in-Ok-copy.ensures)
    (accept_next end.config end.notes c.args.identifier c.args.packet c.in-Ok.links c.requires.kind c.requires.identifier c.requires.packet rising new)

pub returns-in-Kept-clause-happens : goal.returns-in-Kept-clause-happens
returns-in-Kept-clause-happens g c = λ rules digests right passes.
    let d = g.D.Disk in
    let end = c.args.end.now in
    let i = c.args.identifier in
    let packet = c.args.packet in
    let links = passing rules 0 (length end.config.links) packet in
    let note = Accept i links packet in
    let room = has_room end.config end.notes note in
    let new = known_at end c.book.result.now c.as_slice.result.now i false c.book.ensures c.as_slice.ensures c.if-knows.ensures in
    let same = links_are rules end.config.links c.args.filters.now.sets c.args.tree.now.root packet c.in-Ok.links c.requires.filters c.in-Ok.ensures c.requires.tree (passes new) in
    let H : List ℕ → Type 0 = λ k. HasAnswered d end c.add.new.self (adds (has_room end.config end.notes (Accept k c.in-Ok.links packet)) (Accept k c.in-Ok.links packet) Kept Full) Kept in
    let L : List ℕ → Type 0 = λ l. HasAnswered d end c.add.new.self (adds (has_room end.config end.notes (Accept i l packet)) (Accept i l packet) Kept Full) Kept in
    let h = subst L same (subst H c.in-Ok-copy.ensures c.in-Kept.ensures.happens) in
    let P : Outcome Verdict → Type 0 = λ o. HasAnswered d end c.add.new.self (replies o) (Answer (Ack i)) in
    subst P (sym (new_reply rules end.config end.notes (is_line c.args.from) packet i note right new))
    (mapped d end c.add.new.self Answer (adds room note (Ack i) (Nak (Some i) NoRoom)) (Ack i) (when_kept d end c.add.new.self room note (Ack i) (Nak (Some i) NoRoom) h))

pub returns-in-Full-clause-happens : goal.returns-in-Full-clause-happens
returns-in-Full-clause-happens g c = λ rules digests right passes.
    let d = g.D.Disk in
    let end = c.args.end.now in
    let i = c.args.identifier in
    let packet = c.args.packet in
    let links = passing rules 0 (length end.config.links) packet in
    let note = Accept i links packet in
    let room = has_room end.config end.notes note in
    let new = known_at end c.book.result.now c.as_slice.result.now i false c.book.ensures c.as_slice.ensures c.if-knows.ensures in
    let same = links_are rules end.config.links c.args.filters.now.sets c.args.tree.now.root packet c.in-Ok.links c.requires.filters c.in-Ok.ensures c.requires.tree (passes new) in
    let H : List ℕ → Type 0 = λ k. HasAnswered d end c.add.new.self (adds (has_room end.config end.notes (Accept k c.in-Ok.links packet)) (Accept k c.in-Ok.links packet) Kept Full) Full in
    let L : List ℕ → Type 0 = λ l. HasAnswered d end c.add.new.self (adds (has_room end.config end.notes (Accept i l packet)) (Accept i l packet) Kept Full) Full in
    let h = subst L same (subst H c.in-Ok-copy.ensures c.in-Full.ensures.happens) in
    let P : Outcome Verdict → Type 0 = λ o. HasAnswered d end c.add.new.self (replies o) (Answer (Nak (Some i) NoRoom)) in
    let here = subst P (sym (new_reply rules end.config end.notes (is_line c.args.from) packet i note right new))
    (mapped d end c.add.new.self Answer (adds room note (Ack i) (Nak (Some i) NoRoom)) (Nak (Some i) NoRoom) (when_full d end c.add.new.self room note (Ack i) (Nak (Some i) NoRoom) h)) in
    let R : BrokerStep → Type 0 = λ r. Happens d end c.add.new.self (replies (reply_to rules end.notes (is_line c.args.from) packet i note)) r (fate_of r) in
    subst R (sym c.refuse.ensures) here

pub returns-in-Down-clause-happens : goal.returns-in-Down-clause-happens
returns-in-Down-clause-happens g c = λ rules digests right passes.
    let d = g.D.Disk in
    let end = c.args.end.now in
    let i = c.args.identifier in
    let packet = c.args.packet in
    let faults = c.in-Down.fallen.faults in
    let stopped = c.in-Down.fallen.stopped in
    let links = passing rules 0 (length end.config.links) packet in
    let note = Accept i links packet in
    let room = has_room end.config end.notes note in
    let new = known_at end c.book.result.now c.as_slice.result.now i false c.book.ensures c.as_slice.ensures c.if-knows.ensures in
    let same = links_are rules end.config.links c.args.filters.now.sets c.args.tree.now.root packet c.in-Ok.links c.requires.filters c.in-Ok.ensures c.requires.tree (passes new) in
    let H : List ℕ → Type 0 = λ k. HasFallen d end c.add.new.self (adds (has_room end.config end.notes (Accept k c.in-Ok.links packet)) (Accept k c.in-Ok.links packet) Kept Full) faults stopped in
    let L : List ℕ → Type 0 = λ l. HasFallen d end c.add.new.self (adds (has_room end.config end.notes (Accept i l packet)) (Accept i l packet) Kept Full) faults stopped in
    let h = subst L same (subst H c.in-Ok-copy.ensures c.in-Down.ensures.happens) in
    let P : Outcome Verdict → Type 0 = λ o. HasFallen d end c.add.new.self (replies o) faults stopped in
    subst P (sym (new_reply rules end.config end.notes (is_line c.args.from) packet i note right new))
    (mapped_fall d end c.add.new.self Answer (adds room note (Ack i) (Nak (Some i) NoRoom)) faults stopped (when_down d end c.add.new.self room note (Ack i) (Nak (Some i) NoRoom) faults stopped h))
