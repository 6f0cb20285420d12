use Rattle.std.proofs.Common.{◌+◌, ◌*◌, map, take}
use Rattle.filter_text.specs.Size.{size_of_condition, size_of_conditions, size_of_operand, size_of_path, size_of_steps, steps_in_conditions}
use Rattle.filter_text.specs.View.{condition_of, conditions_of, operand_of, path_of, steps_of}
use Rattle.path_filter.specs.Plan.{AreGuards, check_of, checks_of, newest}
use Rattle.path_filter.specs.Planned.{AllMean, Grows, inner_steps}
use Rattle.path_filter.proofs.lay_out.+planning.Given as goal

abbrev pub decreases-plan_conditions : goal.decreases-plan_conditions
decreases-plan_conditions l = 2 * size_of_conditions (conditions_of (map condition_of l.conditions.now))

abbrev pub decreases-plan_condition : goal.decreases-plan_condition
decreases-plan_condition l = 2 * size_of_condition (condition_of l.condition.now)

abbrev pub decreases-plan_alone : goal.decreases-plan_alone
decreases-plan_alone l = 2 * size_of_operand (operand_of l.operand.now) + 1

abbrev pub decreases-plan_compared : goal.decreases-plan_compared
decreases-plan_compared l = 2 * (size_of_operand (operand_of l.left.now) + size_of_operand (operand_of l.right.now)) + 1

abbrev pub decreases-plan_comparison : goal.decreases-plan_comparison
decreases-plan_comparison l = 2 * (size_of_operand (operand_of l.left.now) + size_of_operand (operand_of l.right.now)) + 2

abbrev pub decreases-plan_side : goal.decreases-plan_side
decreases-plan_side l = 2 * size_of_operand (operand_of l.operand.now) + 1

abbrev pub decreases-plan_guards : goal.decreases-plan_guards
decreases-plan_guards l = 2 * size_of_steps (steps_of l.steps.now)

abbrev pub decreases-plan_found : goal.decreases-plan_found
decreases-plan_found l = 2 * size_of_path (path_of l.path.now) + 1

abbrev pub decreases-plan_path : goal.decreases-plan_path
decreases-plan_path l = 2 * size_of_path (path_of l.path.now)

abbrev pub decreases-plan_steps : goal.decreases-plan_steps
decreases-plan_steps l = 2 * size_of_steps (steps_of l.steps.now)

abbrev pub decreases-plan_next : goal.decreases-plan_next
decreases-plan_next l = 2 * size_of_steps (steps_of l.others.now) + 1

abbrev pub invariant-plan_conditions-loop-condition : goal.invariant-plan_conditions-loop-condition
invariant-plan_conditions-loop-condition l = record {
  grows : Grows (newest l.fn.plan) (newest l.plan) (steps_in_conditions (conditions_of (map condition_of (take l.condition-index l.conditions))));
  means : AllMean (newest l.plan) (checks_of (map check_of l.checks)) (conditions_of (map condition_of (take l.condition-index l.conditions)));
}

abbrev pub invariant-plan_guards-loop-step : goal.invariant-plan_guards-loop-step
invariant-plan_guards-loop-step l = record {
  grows : Grows (newest l.fn.plan) (newest l.plan) (inner_steps (steps_of (take l.step-index l.steps)));
  guards : AreGuards (newest l.plan) (steps_of (take l.step-index l.steps)) (checks_of (map check_of l.guards));
}
