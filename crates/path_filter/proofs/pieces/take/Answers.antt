use Rattle.std.proofs.Common.{◌∙◌, ◌++◌, refl, sym, ap, arith}
use Rattle.std.proofs.lemmas.Bool.Decides.{Decides-eqb}
use Rattle.std.proofs.lemmas.Slice.Eq.{slice_eq-Decides}
use Rattle.path_filter.specs.Cursors.{levels_text}
use Rattle.path_filter.proofs.SearchSteps.{contra}
use Rattle.path_filter.proofs.Fronts.{behind_fronts, other_fronts, not_not, not_false}
use Rattle.path_filter.proofs.pieces.take.Goals as goal

pub returns-then-ne-clause-other : goal.returns-then-ne-clause-other
returns-then-ne-clause-other c = λ rest whole.
    let here = (c.loop-wanted.invariant.same rest).0 whole in
    let same = other_fronts c.min-len.result c.loop-wanted.cursor.piece.now c.loop-wanted.wanted.now _ rest (omega (arith, c.min-len.ensures)) (omega (arith, c.min-len.ensures)) here in
    let fronts = c.split_at.ensures.front ∙ sym same ∙ sym c.split_at-else-is_empty.ensures.front in
    let decided = slice_eq-Decides Decides-eqb c.split_at.result.0.now c.split_at-else-is_empty.result.0.now _ refl in
    contra _ (decided.1 fronts) (not_not _ (sym c.ne.ensures ∙ c.if-ne.true))

pub loop-wanted-preserved : goal.loop-wanted-preserved
loop-wanted-preserved c =
    let decided = slice_eq-Decides Decides-eqb c.split_at.result.0.now c.split_at-else-is_empty.result.0.now _ refl in
    let fronts = decided.0 (not_false _ (sym c.ne.ensures ∙ c.if-ne.false)) in
    let same = sym c.split_at-else-is_empty.ensures.front ∙ sym fronts ∙ c.split_at.ensures.front in
    record {
      fits = c.loop-wanted.invariant.fits;
      same = λ after.
          let one = c.loop-wanted.invariant.same after in
          let two = behind_fronts c.min-len.result c.loop-wanted.cursor.piece.now c.loop-wanted.wanted.now (levels_text c.loop-wanted.cursor.open c.loop-wanted.cursor.levels) after same in (
            (λ e. ap (λ t. t ++ levels_text c.loop-wanted.cursor.open c.loop-wanted.cursor.levels) c.split_at-else-is_empty.ensures.back ∙ two.0 (one.0 e) ∙ ap (λ t. t ++ after) (sym c.split_at.ensures.back)),
            (λ e. one.1 (two.1 (ap (λ t. t ++ levels_text c.loop-wanted.cursor.open c.loop-wanted.cursor.levels) (sym c.split_at-else-is_empty.ensures.back) ∙ e ∙ ap (λ t. t ++ after) c.split_at.ensures.back))),
          );
    }
