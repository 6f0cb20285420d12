use Rattle.std.proofs.Common.{subst, sym}
use Rattle.filter_text.specs.Filter.{alone}
use Rattle.filter_text.specs.View.{operand_of}
use Rattle.filter_text.specs.declared.filter.Comparison.TheVariants as comparisons
use Rattle.filter_text.specs.declared.filter.Operand.TheVariants as operands
use Rattle.path_filter.specs.Plan.{check_of}
use Rattle.path_filter.specs.Planned.{IsText, Means}
use Rattle.path_filter.specs.declared.plan.Check.TheVariants as checks
use Rattle.path_filter.proofs.GrowLaws.{not_empty_out}
use Rattle.path_filter.proofs.lay_out.is_not_empty.Goals as goal

pub returns : goal.returns
returns c = λ plan. subst (λ o. Means plan (check_of (checks.Compare record { operand = c.in_ok-operand.operand; guards = c.new.result } comparisons.Differs record { operand = operands.Literal c.new-2.result; guards = c.new-3.result })) (alone (operand_of o))) c.in_ok-operand.ensures
    (not_empty_out plan c.in_ok-operand.operand c.new.result c.new-3.result c.new-2.result c.new.ensures c.new-3.ensures c.new-2.ensures (subst (λ o. IsText (operand_of o)) (sym c.in_ok-operand.ensures) c.requires.text))
