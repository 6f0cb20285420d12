use Rattle.std.proofs.Common.{◌≡◌, ◌↔◌, ◌++◌, drop}
use Rattle.voe_tree.specs.Contents.{string_of}
use Rattle.filter_text.specs.Filter.{Text}
use Rattle.path_filter.specs.Cursors.{Fits, left, texts_of}
use Rattle.path_filter.proofs.pieces.+take_element.Given as goal

abbrev pub invariant-loop-child : goal.invariant-loop-child
invariant-loop-child l = record {
  fits : Fits l.cursor;
  same : (after : Text) → (left l.fn.cursor ≡ string_of l.element ++ after) ↔ (left l.cursor ≡ texts_of (drop l.child-index l.child-items) ++ after);
}
