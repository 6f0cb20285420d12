-- What the words so far gave, and what is left gives the rest.
use Rattle.std.proofs.Common.{◌≡◌, ◌++◌, map}
use Rattle.voe_scenario.specs.Grammar.{param_in}
use Rattle.voe_scenario.specs.Statements.{words_in}
use Rattle.voe_scenario.proofs.Turns.{left_of}
use Rattle.voe_scenario.proofs.packet_line.read_params.Given as goal

abbrev pub invariant-loop-rest : goal.invariant-loop-rest
invariant-loop-rest l = l.params ++ map param_in (words_in l.rest) ≡ map param_in (words_in l.fn.words)

abbrev pub decreases-loop-rest : goal.decreases-loop-rest
decreases-loop-rest l = left_of l.rest
