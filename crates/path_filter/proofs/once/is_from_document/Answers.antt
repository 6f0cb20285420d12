use Rattle.std.proofs.Common.{◌≡◌, ◌∙◌, ap, arith, eqb-true, length, refl, subst, sym, true, false, Bool}
use Rattle.std.specs.Bool.{IsTrue}
use mathlib.Core.Bool.{not}
use Rattle.filter_text.specs.Filter.{found, path}
use Rattle.filter_text.specs.Size.{steps_in_steps}
use Rattle.filter_text.specs.View.{operand_of, steps_of}
use Rattle.filter_text.specs.declared.filter.Path.{out-Path}
use Rattle.path_filter.specs.Planned.{IsFromDocument}
use Rattle.path_filter.proofs.SearchSteps.{no_steps}
use Rattle.path_filter.proofs.GrowLaws.{non_empty}
use Rattle.path_filter.proofs.OnceLaws.{not_empty}
use Rattle.path_filter.proofs.PositionLaws.{fewer}
use Rattle.path_filter.proofs.Views.{found-out, path-out}
use Rattle.path_filter.proofs.once.is_from_document.Goals as goal

not_true : (b : Bool) → (b ≡ true → ⊥) → IsTrue (not b)
not_true true never = absurd (never refl)
not_true false never = refl

pub returns-then-path : goal.returns-then-path
returns-then-path c =
    let ss = (out-Path c.in-Path.path).steps in
    let opened : operand_of c.args.operand.now ≡ found (path true (steps_of ss)) =
    ap operand_of c.in-Path.is ∙ found-out c.in-Path.path ∙ ap found (path-out c.in-Path.path ∙ ap (λ b. path b (steps_of ss)) c.if-path.true) in (
      (λ some. let steps = non_empty (length c.as_slice.result.now) (sym c.is_empty.ensures ∙ not_empty _ some) in
          subst IsFromDocument (sym opened) (omega (arith, fewer ss, steps, ap length c.as_slice.ensures))),
      (λ from. not_true c.is_empty.result (λ none.
          let some = subst IsFromDocument opened from in
          let empty = no_steps ss (sym (ap length c.as_slice.ensures) ∙ eqb-true (length c.as_slice.result.now) 0 (sym c.is_empty.ensures ∙ none)) in
          omega (arith, some, ap steps_in_steps empty))),
    )
