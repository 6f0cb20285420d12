use Rattle.std.proofs.Common.{◌≡◌, ◌+◌, ◌*◌, ◌++◌, drop, true, false}
use Rattle.std.specs.Prelude.{codes}
use Rattle.filter_text.specs.Filter.{arrived}
use Rattle.filter_text.specs.View.{condition_of, front_of, operand_of, path_of, steps_of}
use Rattle.filter_text.specs.MachineView.{conditions_view}
use Rattle.filter_text.specs.Size.{size_of_path, size_of_steps, size_of_conditions, size_of_condition, size_of_operand}
use Rattle.filter_text.specs.Writing.{bracketed_text, listed_text, path_text, steps_text}
use Rattle.filter_text.proofs.Written.{listed_from}
use Rattle.filter_text.proofs.write.+write.Given as goal

abbrev pub decreases-write_step : goal.decreases-write_step
decreases-write_step l = 2 * size_of_steps (front_of l.step.now arrived)

abbrev pub decreases-write_steps : goal.decreases-write_steps
decreases-write_steps l = 2 * size_of_path (path_of l.path.now)

abbrev pub decreases-write_bracketed : goal.decreases-write_bracketed
decreases-write_bracketed l = 2 * size_of_conditions (conditions_view l.conditions.now)

abbrev pub decreases-write_condition : goal.decreases-write_condition
decreases-write_condition l = 2 * size_of_condition (condition_of l.condition.now)

abbrev pub decreases-write_part : goal.decreases-write_part
decreases-write_part l = 2 * size_of_condition (condition_of l.condition.now) + 1

abbrev pub decreases-write_alternatives : goal.decreases-write_alternatives
decreases-write_alternatives l = 2 * size_of_conditions (conditions_view l.list.now)

abbrev pub decreases-write_requirements : goal.decreases-write_requirements
decreases-write_requirements l = 2 * size_of_conditions (conditions_view l.list.now)

abbrev pub decreases-write_operand : goal.decreases-write_operand
decreases-write_operand l = 2 * size_of_operand (operand_of l.operand.now)

abbrev pub invariant-write_steps-loop-step : goal.invariant-write_steps-loop-step
invariant-write_steps-loop-step l = l.out ++ steps_text l.separated (steps_of (drop l.step-index l.step-items)) ≡ l.initial.out ++ path_text (path_of l.path)

abbrev pub invariant-write_bracketed-loop-condition : goal.invariant-write_bracketed-loop-condition
invariant-write_bracketed-loop-condition l = l.out ++ bracketed_text (conditions_view (drop l.condition-index l.conditions)) ≡ l.initial.out ++ bracketed_text (conditions_view l.conditions)

abbrev pub invariant-write_alternatives-loop-i : goal.invariant-write_alternatives-loop-i
invariant-write_alternatives-loop-i l = l.out ++ listed_from l.i (codes " or ") false (conditions_view (drop l.i l.list)) ≡ l.initial.out ++ listed_text (codes " or ") false (conditions_view l.list)

abbrev pub invariant-write_requirements-loop-i : goal.invariant-write_requirements-loop-i
invariant-write_requirements-loop-i l = l.out ++ listed_from l.i (codes " and ") true (conditions_view (drop l.i l.list)) ≡ l.initial.out ++ listed_text (codes " and ") true (conditions_view l.list)
