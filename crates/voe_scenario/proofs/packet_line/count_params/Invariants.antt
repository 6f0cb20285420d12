-- What the words so far gave, and what is left gives the rest.
use Rattle.std.proofs.Common.{◌≡◌, ◌+◌, ◌≤◌, length}
use Rattle.voe_scenario.specs.Statements.{words_in}
use Rattle.voe_scenario.proofs.Turns.{left_of}
use Rattle.voe_scenario.proofs.packet_line.count_params.Given as goal

abbrev pub invariant-loop-rest : goal.invariant-loop-rest
invariant-loop-rest l = record {
  counted : l.count + length (words_in l.rest) ≡ length (words_in l.fn.words);
  few : l.count + left_of l.rest ≤ left_of l.fn.words;
}

abbrev pub decreases-loop-rest : goal.decreases-loop-rest
decreases-loop-rest l = left_of l.rest
