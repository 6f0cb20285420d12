use Rattle.std.proofs.Common.{◌≡◌}
use Rattle.path_filter.specs.Cursors.{Fits, left, steps_left}
use Rattle.path_filter.proofs.pieces.is_at_end.Given as goal

abbrev pub decreases-loop-cursor : goal.decreases-loop-cursor
decreases-loop-cursor l = steps_left l.cursor

abbrev pub invariant-loop-cursor : goal.invariant-loop-cursor
invariant-loop-cursor l = record {
  fits : Fits l.cursor;
  same : left l.cursor ≡ left l.fn.cursor;
}
