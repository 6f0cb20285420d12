-- The filter as data of a filter in the code.
use Rattle.std.specs.Prelude.{List, [], ◌∷◌, map}
use Rattle.filter_text.specs.Filter.{Axis, child, descendant, Part, element, attribute, Test, any, name, Comparison, equal, differs, Path, path, Steps, arrived, step, Condition, any_of, all_of, not_so, alone, compare, Conditions, no_more, more, Operand, found, literal, local_name}
use Rattle.filter_text.specs.declared.filter.Axis.{Axis as CodeAxis}
use Rattle.filter_text.specs.declared.filter.Axis.TheVariants as axes
use Rattle.filter_text.specs.declared.filter.Part.{Part as CodePart}
use Rattle.filter_text.specs.declared.filter.Part.TheVariants as parts
use Rattle.filter_text.specs.declared.filter.Test.{Test as CodeTest}
use Rattle.filter_text.specs.declared.filter.Test.TheVariants as tests
use Rattle.filter_text.specs.declared.filter.Comparison.{Comparison as CodeComparison}
use Rattle.filter_text.specs.declared.filter.Comparison.TheVariants as comparisons
use Rattle.filter_text.specs.declared.filter.Path.{Path as CodePath, fold-Path}
use Rattle.filter_text.specs.declared.filter.Step.{Step as CodeStep, fold-Step}
use Rattle.filter_text.specs.declared.filter.Condition.{Condition as CodeCondition, fold-Condition}
use Rattle.filter_text.specs.declared.filter.Operand.{Operand as CodeOperand, fold-Operand}
use Rattle.filter_text.specs.declared.filter.Condition.TheOpen.{Condition-F, Operand-F, Path-F, Step-F}

abbrev pub axis_of : CodeAxis → Axis
axis_of axes.Child = child
axis_of axes.Descendant = descendant

abbrev pub part_of : CodePart → Part
part_of parts.Element = element
part_of parts.Attribute = attribute

abbrev pub test_of : CodeTest → Test
test_of tests.Any = any
test_of (tests.Name n) = name n

abbrev pub comparison_of : CodeComparison → Comparison
comparison_of comparisons.Equal = equal
comparison_of comparisons.Differs = differs

abbrev pub conditions_of : List Condition → Conditions
conditions_of [] = no_more
conditions_of (c ∷ cs) = more c (conditions_of cs)

-- one step in front of others
abbrev pub Front : Type 0
Front = Steps → Steps

abbrev pub steps_from : List Front → Steps
steps_from [] = arrived
steps_from (f ∷ fs) = f (steps_from fs)

abbrev pub condition_data : Condition-F Condition Operand Path Front → Condition
condition_data (Condition-F.AnyOf cs) = any_of (conditions_of cs)
condition_data (Condition-F.AllOf cs) = all_of (conditions_of cs)
condition_data (Condition-F.Not c) = not_so c
condition_data (Condition-F.Holds o) = alone o
condition_data (Condition-F.Compare a how b) = compare a (comparison_of how) b

abbrev pub operand_data : Operand-F Condition Operand Path Front → Operand
operand_data (Operand-F.Path p) = found p
operand_data (Operand-F.Literal t) = literal t
operand_data Operand-F.LocalName = local_name

abbrev pub path_data : Path-F Condition Operand Path Front → Path
path_data p = path p.is_absolute (steps_from p.steps)

abbrev pub step_data : Step-F Condition Operand Path Front → Front
step_data s = step (axis_of s.axis) (part_of s.part) (test_of s.test) (conditions_of s.conditions)

abbrev pub condition_of : CodeCondition → Condition
condition_of = fold-Condition Condition Operand Path Front condition_data operand_data path_data step_data

abbrev pub operand_of : CodeOperand → Operand
operand_of = fold-Operand Condition Operand Path Front condition_data operand_data path_data step_data

abbrev pub path_of : CodePath → Path
path_of = fold-Path Condition Operand Path Front condition_data operand_data path_data step_data

abbrev pub front_of : CodeStep → Front
front_of = fold-Step Condition Operand Path Front condition_data operand_data path_data step_data

abbrev pub steps_of : List CodeStep → Steps
steps_of ss = steps_from (map front_of ss)
