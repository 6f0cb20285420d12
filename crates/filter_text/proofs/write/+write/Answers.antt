use Rattle.std.proofs.Common.{◌≡◌, ◌++◌, true, false, sym, ◌∙◌, ap, arith}
use Rattle.std.specs.Prelude.{codes}
use Rattle.filter_text.specs.Filter.{arrived}
use Rattle.filter_text.specs.View.{axis_of, comparison_of, condition_of, front_of, operand_of, steps_of}
use Rattle.filter_text.specs.MachineView.{conditions_view}
use Rattle.filter_text.specs.Size.{size_of_path, size_of_steps}
use Rattle.filter_text.specs.Writing.{comparison_text, condition_text, listed_text, operand_text, separator, steps_text}
use Rattle.filter_text.proofs.Views.{any_of-out, not-out, compare-out, local_name-out, path-out}
use Rattle.filter_text.proofs.Written.{condition-size, step-size, steps-more, ok-is, three-parts, with-separator, without-separator}
use Rattle.filter_text.proofs.write.+write.Goals.{write_steps-then-separated+in_ok-write_separator, write_steps-else-separated}
use Rattle.filter_text.proofs.write.+write.Goals as goal

pub write_alternatives-write_condition-requires : goal.write_alternatives-write_condition-requires
write_alternatives-write_condition-requires t c = omega (arith, c.decreases, condition-size c.args.list.now c.loop-i.i c.index-list-i.result c.loop-i-test.true c.index-list-i.is)

pub write_requirements-write_part-requires : goal.write_requirements-write_part-requires
write_requirements-write_part-requires t c = omega (arith, c.decreases, condition-size c.args.list.now c.loop-i.i c.index-list-i.result c.loop-i-test.true c.index-list-i.is)

pub write_bracketed-write_condition-requires : goal.write_bracketed-write_condition-requires
write_bracketed-write_condition-requires t c =
    omega (arith, c.decreases, condition-size c.args.conditions.now c.loop-condition.condition-index c.condition-item.result c.loop-condition-test.true c.condition-item.is)

pub write_steps-write_step-requires : goal.write_steps-write_step-requires
write_steps-write_step-requires t c =
    omega (
      arith,
      c.decreases,
      step-size c.as_slice-step-items.result.now c.loop-step.step-index c.step-item.result c.loop-step-test.true c.step-item.is,
      ap (λ ss. size_of_steps (steps_of ss)) c.as_slice-step-items.ensures,
      ap size_of_path (path-out c.args.path.now),
    )

pub write_condition-returns-in_ok-write_condition-in-Not : goal.write_condition-returns-in_ok-write_condition-in-Not
write_condition-returns-in_ok-write_condition-in-Not t c =
    let inner : condition_of c.get.result.now ≡ condition_of c.in-Not.inner = ap condition_of c.get.ensures in
    three-parts c.push_str-in-Not.result c.args.out.now (codes "not(") (condition_text false (condition_of c.get.result.now)) (codes ")") c.push_str.new.self c.write_condition.new.out c.push_str-in-Not.new.self _
    c.in_ok-push_str-in-Not.ensures.ok c.in_ok-write_condition-in-Not.ensures c.push_str-in-Not.ensures.ok
    (ap (λ x. (codes "not(" ++ condition_text false x) ++ codes ")") inner ∙ ap (condition_text false) (sym (ap condition_of c.in-Not.is ∙ not-out c.in-Not.inner)))

pub write_condition-returns-in_ok-write_comparison-in-Compare : goal.write_condition-returns-in_ok-write_comparison-in-Compare
write_condition-returns-in_ok-write_comparison-in-Compare t c =
    three-parts c.write_operand-in-Compare-2.result c.args.out.now (operand_text (operand_of c.in-Compare.left)) (comparison_text (comparison_of c.in-Compare.how)) (operand_text (operand_of c.in-Compare.right))
    c.write_operand-in-Compare.new.out c.write_comparison.new.out c.write_operand-in-Compare-2.new.out _
    c.in_ok-write_operand-in-Compare.ensures c.in_ok-write_comparison-in-Compare.ensures c.write_operand-in-Compare-2.ensures
    (ap (condition_text false) (sym (ap condition_of c.in-Compare.is ∙ compare-out c.in-Compare.left c.in-Compare.how c.in-Compare.right)))

pub write_operand-returns-in-LocalName : goal.write_operand-returns-in-LocalName
write_operand-returns-in-LocalName t c =
    ok-is c.push_str.result c.push_str.new.self (c.args.out.now ++ codes "local-name()") _ c.push_str.ensures.ok (ap (λ x. c.args.out.now ++ operand_text x) (sym (ap operand_of c.in-LocalName.is ∙ local_name-out)))

pub write_part-returns-in_ok-write_alternatives-in-AnyOf : goal.write_part-returns-in_ok-write_alternatives-in-AnyOf
write_part-returns-in_ok-write_alternatives-in-AnyOf t c =
    three-parts c.push_str-in-AnyOf.result c.args.out.now (codes "(") (listed_text (codes " or ") false (conditions_view c.as_slice.result.now)) (codes ")") c.push_str.new.self c.write_alternatives.new.out c.push_str-in-AnyOf.new.self _
    c.in_ok-push_str-in-AnyOf.ensures.ok c.in_ok-write_alternatives-in-AnyOf.ensures c.push_str-in-AnyOf.ensures.ok
    (ap (λ x. (codes "(" ++ listed_text (codes " or ") false (conditions_view x)) ++ codes ")") c.as_slice.ensures ∙ ap (condition_text true) (sym (ap condition_of c.in-AnyOf.is ∙ any_of-out c.in-AnyOf.list)))

pub write_steps-loop-step-preserved : goal.write_steps-loop-step-preserved
write_steps-loop-step-preserved t c =
    steps-more c.as_slice-step-items.result.now c.loop-step.step-index c.step-item.result c.loop-step.separated c.loop-step.out c.write_step.new.out _ c.loop-step-test.true c.step-item.is
    (c.in_ok-write_step.ensures ∙ ap (λ x. x ++ steps_text false (front_of c.step-item.result arrived)) (elim c.if-separated.branch [
      | write_steps-then-separated+in_ok-write_separator w ↦ w.out-is ∙ with-separator c.loop-step.separated c.loop-step.out (separator (axis_of c.step-item.result.axis)) _ w.if-separated.true w.in_ok-write_separator.ensures
      | write_steps-else-separated w ↦ without-separator c.loop-step.separated c.loop-step.out (separator (axis_of c.step-item.result.axis)) _ w.if-separated.false w.out-is
    ])) c.loop-step.invariant
