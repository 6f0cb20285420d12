use Rattle.std.proofs.Common.{[], refl}
use Rattle.node_book.specs.Index.{brought_by, open_places}
use Rattle.node_book.proofs.Following.{follow_same}
use Rattle.node_book.proofs.index.Index.new.Goals as goal

pub returns : goal.returns
unfolding brought_by open_places
returns c = record {
  known = c.new.ensures;
  count = c.in_ok-new.ensures.count;
  opened = follow_same c.in_ok-new.field-0.edges.items (λ k. []) (open_places []) c.in_ok-new.ensures.none (λ k. refl);
}
