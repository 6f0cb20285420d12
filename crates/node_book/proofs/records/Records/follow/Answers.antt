use Rattle.std.proofs.Common.{List, sym, subst, length}
use Rattle.std.proofs.lemmas.Bool.{and_parts}
use Rattle.net_model.specs.declared.note.Note.{Note}
use Rattle.node_notes.specs.Forms.{keeps_form, may_follow}
use Rattle.node_book.specs.Index.{IsIndexOf}
use Rattle.node_book.proofs.Below.{acked_below, refused_below, done_below}
use Rattle.node_book.proofs.records.Records.follow.Goals as goal

pub answer-requires-clause-indexed : goal.answer-requires-clause-indexed
answer-requires-clause-indexed c =
    let config = c.args.self.now.config in
    let keeps = (and_parts (keeps_form config c.args.note.now) (may_follow c.args.self.now.notes.items c.args.note.now) c.requires.next).0 in
    let low = acked_below config c.args.note.now c.in-Acked.line _ keeps c.in-Acked.is in
    (length config.links, subst (λ (l : List Note). IsIndexOf l (length config.links) c.args.self.now.index) (sym c.deref-in-Acked.ensures.value) c.requires.kept.indexed, low)

pub answer-requires-in-Refused-clause-indexed : goal.answer-requires-in-Refused-clause-indexed
answer-requires-in-Refused-clause-indexed c =
    let config = c.args.self.now.config in
    let keeps = (and_parts (keeps_form config c.args.note.now) (may_follow c.args.self.now.notes.items c.args.note.now) c.requires.next).0 in
    let low = refused_below config c.args.note.now c.in-Refused.line _ keeps c.in-Refused.is in
    (length config.links, subst (λ (l : List Note). IsIndexOf l (length config.links) c.args.self.now.index) (sym c.deref-in-Refused.ensures.value) c.requires.kept.indexed, low)

pub answer-requires-in-Done-clause-indexed : goal.answer-requires-in-Done-clause-indexed
answer-requires-in-Done-clause-indexed c =
    let config = c.args.self.now.config in
    let keeps = (and_parts (keeps_form config c.args.note.now) (may_follow c.args.self.now.notes.items c.args.note.now) c.requires.next).0 in
    let low = done_below config c.args.note.now c.in-Done.link _ keeps c.in-Done.is in
    (length config.links, subst (λ (l : List Note). IsIndexOf l (length config.links) c.args.self.now.index) (sym c.deref-in-Done.ensures.value) c.requires.kept.indexed, low)
