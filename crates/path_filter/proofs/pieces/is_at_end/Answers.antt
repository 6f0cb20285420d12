use Rattle.std.proofs.Common.{◌∙◌, sym, refl}
use Rattle.path_filter.proofs.SearchSteps.{contra}
use Rattle.path_filter.proofs.Fronts.{not_nothing}
use Rattle.path_filter.proofs.pieces.is_at_end.Goals as goal

pub returns : goal.returns
returns c = (
  (λ claim. absurd (contra _ claim refl)),
  (λ none. absurd (not_nothing _ _ (sym c.is_empty.ensures ∙ c.loop-cursor-test.false) (c.loop-cursor.invariant.same ∙ none))),
)
