use Rattle.std.proofs.Common.{◌∙◌, ◌++◌, ◌∷◌, [], cond, ap, sym, length}
use Rattle.sha1.specs.Sha1.{sha1}
use Rattle.node_book.specs.Index.{found_in, hands, open_places}
use Rattle.node_book.proofs.KnownPlaces.{brought_more, not_found}
use Rattle.node_book.proofs.OpenPlaces.{open_brought}
use Rattle.node_book.proofs.Following.{follow_same}
use Rattle.node_book.proofs.index.Index.bring.Goals as goal

pub insert-requires-clause-new : goal.insert-requires-clause-new
insert-requires-clause-new c =
    let may = c.requires.next in
    (λ i. found_in (c.requires.copied i) (c.requires.indexed.1.known i)) ∙ not_found may.config c.args.notes.now c.args.note.now may.next c.requires.brings

pub returns : goal.returns
returns c edges indexed =
    let may = c.requires.next in
    let notes = c.args.notes.now in
    let note = c.args.note.now in
    let bytes = c.of-digest.ensures ∙ ap sha1 (c.packet_of.ensures c.requires.brings) in
    record {
      known = c.insert.ensures ∙ (λ i. indexed.known i ++ (c.requires.copied i, record { at = length notes; digest = record { bytes = bytes i } }) ∷ []) ∙ sym (brought_more notes note c.requires.brings);
      count = c.open.ensures.count ∙ indexed.count;
      opened = follow_same c.open.new.self.edges.items (λ k. open_places notes k ++ cond (hands k note) (length notes ∷ []) []) (open_places (notes ++ note ∷ []))
          (c.open.ensures.opened (open_places notes) indexed.opened)
          (λ k. sym (open_brought may.config notes note k may.in_order may.next c.requires.brings));
    }
