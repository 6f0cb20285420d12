-- The data of a check, one level at a time.
use Rattle.std.proofs.Common.{◌≡◌, sym, ◌∙◌, ap, ℕ, List, map}
use Rattle.filter_text.specs.View.{comparison_of, operand_of}
use Rattle.filter_text.specs.declared.filter.Comparison.{Comparison as CodeComparison}
use Rattle.path_filter.specs.Plan.{Check, Side, any_of, all_of, anywhere, compared, side, checks_of, check_of, side_of, guards_of, check_data, side_data}
use Rattle.path_filter.specs.declared.plan.Check.{Check as CodeCheck}
use Rattle.path_filter.specs.declared.plan.Check.TheOpen.{Check-F}
use Rattle.path_filter.specs.declared.plan.Check.TheFolds.{fold-roll-Check}
use Rattle.path_filter.specs.declared.plan.Check.TheVariants as checks
use Rattle.path_filter.specs.declared.plan.Side.{Side as CodeSide, fold_out-Side}

pub any-out : (ks : List CodeCheck) → check_of (checks.AnyOf ks) ≡ any_of (checks_of (map check_of ks))
any-out ks = ap check_of (sym (checks.rolls-AnyOf ks)) ∙ fold-roll-Check Check Side check_data side_data (Check-F.AnyOf ks)

pub all-out : (ks : List CodeCheck) → check_of (checks.AllOf ks) ≡ all_of (checks_of (map check_of ks))
all-out ks = ap check_of (sym (checks.rolls-AllOf ks)) ∙ fold-roll-Check Check Side check_data side_data (Check-F.AllOf ks)

pub anywhere-out : (i : ℕ) → check_of (checks.Anywhere i) ≡ anywhere i
anywhere-out i = ap check_of (sym (checks.rolls-Anywhere i)) ∙ fold-roll-Check Check Side check_data side_data (Check-F.Anywhere i)

pub side-out : (s : CodeSide) → side_of s ≡ side (operand_of s.operand) (guards_of s)
side-out s = fold_out-Side Check Side check_data side_data s

pub compared-out : (a : CodeSide) (how : CodeComparison) (b : CodeSide) → check_of (checks.Compare a how b) ≡ compared (side (operand_of a.operand) (guards_of a)) (comparison_of how) (side (operand_of b.operand) (guards_of b))
compared-out a how b =
    ap check_of (sym (checks.rolls-Compare a how b)) ∙ fold-roll-Check Check Side check_data side_data (Check-F.Compare a how b)
    ∙ ap (λ x. compared x (comparison_of how) (side_of b)) (side-out a) ∙ ap (compared (side (operand_of a.operand) (guards_of a)) (comparison_of how)) (side-out b)
