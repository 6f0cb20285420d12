use Rattle.std.proofs.Common.{◌∙◌, ◌-◌, ◌++◌, ◌∷◌, set, arith, sym, ap}
use Rattle.std.proofs.Math.ListN.{length-set}
use Rattle.path_filter.specs.Cursors.{levels_text}
use Rattle.path_filter.proofs.CursorLaws.{closed, piece, entered, top}
use Rattle.path_filter.proofs.pieces.step.Goals as goal

pub bounds-levels-open-in-Element : goal.bounds-levels-open-in-Element
bounds-levels-open-in-Element c = omega (arith, (entered (c.args.cursor.now.open - 1) c.args.cursor.now.open c.args.cursor.now.levels c.index-levels-open.result c.in-Some.rest c.as_slice.result c.in-Element.inner (omega arith) c.requires.fits.0 (omega (arith, c.requires.fits.0, top c.args.cursor.now.open c.args.cursor.now.levels c.requires.fits.1 (omega arith))) c.requires.fits.1 c.index-levels-open.is (c.in-Some.ensures.cases.0 ∙ ap (λ n. n ∷ c.in-Some.rest.now) c.in-Element.is) c.as_slice.ensures (length-set c.args.cursor.now.levels (c.args.cursor.now.open - 1) c.in-Some.rest ∙ c.requires.fits.0)).room, length-set c.args.cursor.now.levels (c.args.cursor.now.open - 1) c.in-Some.rest, c.requires.fits.0)

pub overflow_add-cursor : goal.overflow_add-cursor
overflow_add-cursor c = omega (arith, (entered (c.args.cursor.now.open - 1) c.args.cursor.now.open c.args.cursor.now.levels c.index-levels-open.result c.in-Some.rest c.as_slice.result c.in-Element.inner (omega arith) c.requires.fits.0 (omega (arith, c.requires.fits.0, top c.args.cursor.now.open c.args.cursor.now.levels c.requires.fits.1 (omega arith))) c.requires.fits.1 c.index-levels-open.is (c.in-Some.ensures.cases.0 ∙ ap (λ n. n ∷ c.in-Some.rest.now) c.in-Element.is) c.as_slice.ensures (length-set c.args.cursor.now.levels (c.args.cursor.now.open - 1) c.in-Some.rest ∙ c.requires.fits.0)).room)

pub returns-in-None-clause-text : goal.returns-in-None-clause-text
returns-in-None-clause-text c = ap (λ t. c.args.cursor.now.piece.now ++ t) (closed (c.args.cursor.now.open - 1) c.args.cursor.now.open c.args.cursor.now.levels c.index-levels-open.result (omega arith) (omega (arith, c.requires.fits.0, top c.args.cursor.now.open c.args.cursor.now.levels c.requires.fits.1 (omega arith))) c.requires.fits.1 c.index-levels-open.is c.in-None.ensures.cases).text

pub returns-in-Text-clause-text : goal.returns-in-Text-clause-text
returns-in-Text-clause-text c =
    ap (λ t. t ++ levels_text c.args.cursor.now.open (set c.args.cursor.now.levels (c.args.cursor.now.open - 1) c.in-Some.rest)) (c.as_bytes-cursor.ensures.value ∙ c.as_str.ensures)
    ∙ (piece (c.args.cursor.now.open - 1) c.args.cursor.now.open c.args.cursor.now.levels c.index-levels-open.result c.in-Some.rest c.in-Text.text (omega arith) (omega (arith, c.requires.fits.0, top c.args.cursor.now.open c.args.cursor.now.levels c.requires.fits.1 (omega arith))) c.requires.fits.1 c.index-levels-open.is (c.in-Some.ensures.cases.0 ∙ ap (λ n. n ∷ c.in-Some.rest.now) c.in-Text.is)).text ∙ sym (ap (λ t. t ++ levels_text c.args.cursor.now.open c.args.cursor.now.levels) c.requires.empty)

pub returns-in-Text-clause-fits : goal.returns-in-Text-clause-fits
returns-in-Text-clause-fits c = (length-set c.args.cursor.now.levels (c.args.cursor.now.open - 1) c.in-Some.rest ∙ c.requires.fits.0, (piece (c.args.cursor.now.open - 1) c.args.cursor.now.open c.args.cursor.now.levels c.index-levels-open.result c.in-Some.rest c.in-Text.text (omega arith) (omega (arith, c.requires.fits.0, top c.args.cursor.now.open c.args.cursor.now.levels c.requires.fits.1 (omega arith))) c.requires.fits.1 c.index-levels-open.is (c.in-Some.ensures.cases.0 ∙ ap (λ n. n ∷ c.in-Some.rest.now) c.in-Text.is)).fits)

pub returns-in-Text-clause-less : goal.returns-in-Text-clause-less
returns-in-Text-clause-less c = (piece (c.args.cursor.now.open - 1) c.args.cursor.now.open c.args.cursor.now.levels c.index-levels-open.result c.in-Some.rest c.in-Text.text (omega arith) (omega (arith, c.requires.fits.0, top c.args.cursor.now.open c.args.cursor.now.levels c.requires.fits.1 (omega arith))) c.requires.fits.1 c.index-levels-open.is (c.in-Some.ensures.cases.0 ∙ ap (λ n. n ∷ c.in-Some.rest.now) c.in-Text.is)).less

pub returns-in-Element-clause-text : goal.returns-in-Element-clause-text
returns-in-Element-clause-text c = ap (λ t. c.args.cursor.now.piece.now ++ t) (entered (c.args.cursor.now.open - 1) c.args.cursor.now.open c.args.cursor.now.levels c.index-levels-open.result c.in-Some.rest c.as_slice.result c.in-Element.inner (omega arith) c.requires.fits.0 (omega (arith, c.requires.fits.0, top c.args.cursor.now.open c.args.cursor.now.levels c.requires.fits.1 (omega arith))) c.requires.fits.1 c.index-levels-open.is (c.in-Some.ensures.cases.0 ∙ ap (λ n. n ∷ c.in-Some.rest.now) c.in-Element.is) c.as_slice.ensures (length-set c.args.cursor.now.levels (c.args.cursor.now.open - 1) c.in-Some.rest ∙ c.requires.fits.0)).text

pub returns-in-Element-clause-fits : goal.returns-in-Element-clause-fits
returns-in-Element-clause-fits c = (
  length-set (set c.args.cursor.now.levels (c.args.cursor.now.open - 1) c.in-Some.rest) c.args.cursor.now.open c.as_slice.result ∙ length-set c.args.cursor.now.levels (c.args.cursor.now.open - 1) c.in-Some.rest ∙ c.requires.fits.0,
  (entered (c.args.cursor.now.open - 1) c.args.cursor.now.open c.args.cursor.now.levels c.index-levels-open.result c.in-Some.rest c.as_slice.result c.in-Element.inner (omega arith) c.requires.fits.0 (omega (arith, c.requires.fits.0, top c.args.cursor.now.open c.args.cursor.now.levels c.requires.fits.1 (omega arith))) c.requires.fits.1 c.index-levels-open.is (c.in-Some.ensures.cases.0 ∙ ap (λ n. n ∷ c.in-Some.rest.now) c.in-Element.is) c.as_slice.ensures (length-set c.args.cursor.now.levels (c.args.cursor.now.open - 1) c.in-Some.rest ∙ c.requires.fits.0)).fits,
)

pub returns-in-Element-clause-less : goal.returns-in-Element-clause-less
returns-in-Element-clause-less c = (entered (c.args.cursor.now.open - 1) c.args.cursor.now.open c.args.cursor.now.levels c.index-levels-open.result c.in-Some.rest c.as_slice.result c.in-Element.inner (omega arith) c.requires.fits.0 (omega (arith, c.requires.fits.0, top c.args.cursor.now.open c.args.cursor.now.levels c.requires.fits.1 (omega arith))) c.requires.fits.1 c.index-levels-open.is (c.in-Some.ensures.cases.0 ∙ ap (λ n. n ∷ c.in-Some.rest.now) c.in-Element.is) c.as_slice.ensures (length-set c.args.cursor.now.levels (c.args.cursor.now.open - 1) c.in-Some.rest ∙ c.requires.fits.0)).less
