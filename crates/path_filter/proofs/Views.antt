-- The data of a filter, one level at a time.
use Rattle.std.proofs.Common.{◌≡◌, sym, ◌∙◌, ap, List, map}
use Rattle.filter_text.specs.Filter.{Text, Path, path, step, Condition, any_of, all_of, not_so, alone, compare, Operand, found, literal}
use Rattle.filter_text.specs.View.{Front, condition_of, conditions_of, operand_of, path_of, front_of, steps_of, axis_of, part_of, test_of, comparison_of, condition_data, operand_data, path_data, step_data}
use Rattle.filter_text.specs.declared.filter.Path.{Path as CodePath, out-Path, fold_out-Path}
use Rattle.filter_text.specs.declared.filter.Step.{Step as CodeStep, fold_out-Step}
use Rattle.filter_text.specs.declared.filter.Condition.{Condition as CodeCondition}
use Rattle.filter_text.specs.declared.filter.Condition.TheVariants as conditions
use Rattle.filter_text.specs.declared.filter.Condition.TheOpen.{Condition-F, Operand-F}
use Rattle.filter_text.specs.declared.filter.Condition.TheFolds.{fold-roll-Condition, fold-roll-Operand}
use Rattle.filter_text.specs.declared.filter.Operand.{Operand as CodeOperand}
use Rattle.filter_text.specs.declared.filter.Operand.TheVariants as operands
use Rattle.filter_text.specs.declared.filter.Comparison.{Comparison as CodeComparison}

pub path-out : (p : CodePath) → path_of p ≡ path (out-Path p).is_absolute (steps_of (out-Path p).steps)
path-out p = fold_out-Path Condition Operand Path Front condition_data operand_data path_data step_data p

pub front-out : (s : CodeStep) → front_of s ≡ step (axis_of s.axis) (part_of s.part) (test_of s.test) (conditions_of (map condition_of s.conditions))
front-out s = fold_out-Step Condition Operand Path Front condition_data operand_data path_data step_data s

pub any_of-out : (cs : List CodeCondition) → condition_of (conditions.AnyOf cs) ≡ any_of (conditions_of (map condition_of cs))
any_of-out cs = ap condition_of (sym (conditions.rolls-AnyOf cs)) ∙ fold-roll-Condition Condition Operand Path Front condition_data operand_data path_data step_data (Condition-F.AnyOf cs)

pub all_of-out : (cs : List CodeCondition) → condition_of (conditions.AllOf cs) ≡ all_of (conditions_of (map condition_of cs))
all_of-out cs = ap condition_of (sym (conditions.rolls-AllOf cs)) ∙ fold-roll-Condition Condition Operand Path Front condition_data operand_data path_data step_data (Condition-F.AllOf cs)

pub not-out : (c : CodeCondition) → condition_of (conditions.Not c) ≡ not_so (condition_of c)
not-out c = ap condition_of (sym (conditions.rolls-Not c)) ∙ fold-roll-Condition Condition Operand Path Front condition_data operand_data path_data step_data (Condition-F.Not c)

pub holds-out : (o : CodeOperand) → condition_of (conditions.Holds o) ≡ alone (operand_of o)
holds-out o = ap condition_of (sym (conditions.rolls-Holds o)) ∙ fold-roll-Condition Condition Operand Path Front condition_data operand_data path_data step_data (Condition-F.Holds o)

pub compare-out : (a : CodeOperand) (how : CodeComparison) (b : CodeOperand) → condition_of (conditions.Compare a how b) ≡ compare (operand_of a) (comparison_of how) (operand_of b)
compare-out a how b = ap condition_of (sym (conditions.rolls-Compare a how b)) ∙ fold-roll-Condition Condition Operand Path Front condition_data operand_data path_data step_data (Condition-F.Compare a how b)

pub found-out : (p : CodePath) → operand_of (operands.Path p) ≡ found (path_of p)
found-out p = ap operand_of (sym (operands.rolls-Path p)) ∙ fold-roll-Operand Condition Operand Path Front condition_data operand_data path_data step_data (Operand-F.Path p)

pub literal-out : (t : Text) → operand_of (operands.Literal t) ≡ literal t
literal-out t = ap operand_of (sym (operands.rolls-Literal t)) ∙ fold-roll-Operand Condition Operand Path Front condition_data operand_data path_data step_data (Operand-F.Literal t)
