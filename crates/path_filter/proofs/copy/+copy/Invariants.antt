use Rattle.std.proofs.Common.{◌≡◌, take}
use Rattle.path_filter.proofs.copy.+copy.Given as goal

abbrev pub invariant-copy_steps-loop-step : goal.invariant-copy_steps-loop-step
invariant-copy_steps-loop-step l = l.made ≡ take l.step-index l.steps

abbrev pub invariant-copy_conditions-loop-condition : goal.invariant-copy_conditions-loop-condition
invariant-copy_conditions-loop-condition l = l.made ≡ take l.condition-index l.conditions
