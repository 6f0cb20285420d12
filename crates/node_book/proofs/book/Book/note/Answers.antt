use Rattle.std.proofs.Common.{List, [], sym, subst}
use Rattle.net_model.specs.declared.note.Note.{Note}
use Rattle.node_notes.specs.Tells.{AreInOrder}
use Rattle.node_book.proofs.Identified.{identified}
use Rattle.node_book.proofs.book.Book.note.Goals as goal

pub returns-clause-identifier : goal.returns-clause-identifier
returns-clause-identifier g c =
    let config = c.self.inside.records.config in
    let order = subst (λ (notes : List Note). AreInOrder config [] notes) (sym c.deref.ensures.value) c.self.invariant.kept.in_order in
    identified config c.deref.result.now c.args.at c.get.result order c.get.ensures.lookup.1 c.get.ensures.lookup.3
