-- The lines that are left lead on from what was taken so far.
use Rattle.std.proofs.Common.{◌+◌, ◌≤◌, length}
use Rattle.voe_scenario.specs.Words.{lines_of}
use Rattle.voe_scenario.proofs.Turns.{LeadOn, lines_left, left_of}
use Rattle.voe_scenario.proofs.lines.take_lines.Given as goal

abbrev pub invariant-loop-rest : goal.invariant-loop-rest
invariant-loop-rest g l = record {
  leads : LeadOn g.R.TakesLines.refuses g.R.TakesLines.with_line l.fn.reader (lines_of l.fn.text) l.reader (l.place + 1) (lines_left l.rest);
  sound : g.R.TakesLines.sound l.reader;
  counted : l.place + left_of l.rest ≤ length l.fn.text + 1;
}

abbrev pub decreases-loop-rest : goal.decreases-loop-rest
decreases-loop-rest g l = left_of l.rest
