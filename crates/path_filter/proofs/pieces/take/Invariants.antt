use Rattle.std.proofs.Common.{◌≡◌, ◌↔◌, ◌+◌, ◌++◌, length}
use Rattle.filter_text.specs.Filter.{Text}
use Rattle.path_filter.specs.Cursors.{Fits, left, steps_left}
use Rattle.path_filter.proofs.pieces.take.Given as goal

abbrev pub decreases-loop-wanted : goal.decreases-loop-wanted
decreases-loop-wanted l = length l.wanted + steps_left l.cursor

abbrev pub invariant-loop-wanted : goal.invariant-loop-wanted
invariant-loop-wanted l = record {
  fits : Fits l.cursor;
  same : (after : Text) → (left l.fn.cursor ≡ l.fn.wanted ++ after) ↔ (left l.cursor ≡ l.wanted ++ after);
}
