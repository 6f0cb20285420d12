use Rattle.std.proofs.Common.{◌≡◌, ap, ◌∙◌}
use Rattle.voe_values.specs.declared.kind.NodeKind.TheVariants.{Author}
use Rattle.node_book.specs.Book.{BookView}
use Rattle.voevent_online.proofs.submitting.settle.Goals as goal

module _ {D : Type 0} where
  kind_in : (book same : BookView D) → book ≡ same → same.config.kind ≡ Author → book.config.kind ≡ Author
  kind_in book same e is = ap (λ (b : BookView D). b.config.kind) e ∙ is

pub standing_answer-requires-clause-kind : goal.standing_answer-requires-clause-kind
standing_answer-requires-clause-kind g c =
    let end = c.args.end.now in
    kind_in c.book-else-is_open.result.now (record { disk = end.disk; config = end.config; notes = end.notes; down = end.down }) c.book-else-is_open.ensures c.requires.kind
