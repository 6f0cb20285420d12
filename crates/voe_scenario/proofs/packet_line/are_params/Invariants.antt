-- What the words so far gave, and what is left gives the rest.
use Rattle.std.proofs.Common.{◌≡◌}
use Rattle.std.specs.List.{list_all}
use Rattle.voe_scenario.specs.Grammar.{has_equals}
use Rattle.voe_scenario.specs.Statements.{words_in}
use Rattle.voe_scenario.proofs.Turns.{left_of}
use Rattle.voe_scenario.proofs.packet_line.are_params.Given as goal

abbrev pub invariant-loop-rest : goal.invariant-loop-rest
invariant-loop-rest l = list_all has_equals (words_in l.rest) ≡ list_all has_equals (words_in l.fn.words)

abbrev pub decreases-loop-rest : goal.decreases-loop-rest
decreases-loop-rest l = left_of l.rest
