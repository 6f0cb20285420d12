-- What the words so far gave, and what is left gives the rest.
use Rattle.std.proofs.Common.{◌≡◌, map}
use Rattle.std.specs.List.{list_all}
use Rattle.voe_scenario.specs.Grammar.{param_in}
use Rattle.voe_scenario.specs.Refusals.{has_param_name}
use Rattle.voe_scenario.specs.Statements.{words_in}
use Rattle.voe_scenario.proofs.Turns.{left_of}
use Rattle.voe_scenario.proofs.packet_line.have_param_names.Given as goal

abbrev pub invariant-loop-rest : goal.invariant-loop-rest
invariant-loop-rest l = list_all has_param_name (map param_in (words_in l.rest)) ≡ list_all has_param_name (map param_in (words_in l.fn.words))

abbrev pub decreases-loop-rest : goal.decreases-loop-rest
decreases-loop-rest l = left_of l.rest
