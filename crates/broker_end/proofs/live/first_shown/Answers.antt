use Rattle.std.proofs.Common.{◌≡◌, [], Some, sym, ap, ◌∙◌}
use Rattle.std.specs.Prelude.{slice_get}
use Rattle.node_book.specs.Book.{BookView}
use Rattle.broker_end.proofs.Shown.{short_at}
use Rattle.broker_end.proofs.live.first_shown.Goals as goal

pub is_shown-requires : goal.is_shown-requires
is_shown-requires g c =
    let end = c.args.end.now in
    let at = c.loop-at.at in
    let is : slice_get end.notes at ≡ Some c.in-Some.note.now =
    sym (c.in-Some.ensures.note ∙ ap (λ (k : BookView _). slice_get k.notes at) c.book-in-loop-at.ensures) in
    short_at end.config [] end.notes at c.in-Some.note.now c.requires.ready.sound.told.in_order is
