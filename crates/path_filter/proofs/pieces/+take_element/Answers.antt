use Rattle.std.proofs.Common.{◌≡◌, ◌∙◌, ◌↔◌, ◌++◌, ◌+◌, Some, drop, sym, subst, ap}
use Rattle.std.specs.Bool.{OnTrue}
use Rattle.voe_tree.specs.Contents.{string_of}
use Rattle.path_filter.specs.Cursors.{Fits, left, texts_of}
use Rattle.path_filter.proofs.SearchSteps.{read}
use Rattle.path_filter.proofs.Texts.{texts-element, texts-text, moved}
use Rattle.path_filter.proofs.pieces.+take_element.Goals.{in-Element, in-Text}
use Rattle.path_filter.proofs.pieces.+take_element.Goals as goal

pub loop-child-preserved : goal.loop-child-preserved
loop-child-preserved t c =
    let item = read c.as_slice-child-items.result.now c.loop-child.child-index c.child-item.result c.loop-child-test.true c.child-item.is in
    elim c.match-child.branch [
      | in-Element w ↦
          (let taken = subst (λ b. OnTrue b (left c.loop-child.cursor ≡ string_of w.in-Element.inner ++ left w.take_element-taken.new.cursor)) (sym w.taken-is ∙ c.if-not-taken.false) w.take_element-taken.ensures.taken in
          record {
            fits = subst Fits (sym w.cursor-is) w.take_element-taken.ensures.fits;
            same = λ after. subst (λ x. (left c.args.cursor.now ≡ string_of c.args.element.now ++ after) ↔ (left x ≡ texts_of (drop (c.loop-child.child-index + 1) c.as_slice-child-items.result.now) ++ after)) (sym w.cursor-is)
                (moved (string_of w.in-Element.inner) (left c.loop-child.cursor) (left w.take_element-taken.new.cursor) (texts_of (drop c.loop-child.child-index c.as_slice-child-items.result.now) ++ after) (texts_of (drop (c.loop-child.child-index + 1) c.as_slice-child-items.result.now) ++ after) _
                taken (texts-element c.as_slice-child-items.result.now c.loop-child.child-index w.in-Element.inner after (item ∙ ap Some w.in-Element.is)) (c.loop-child.invariant.same after));
          })
      | in-Text w ↦
          (let taken = subst (λ b. OnTrue b (left c.loop-child.cursor ≡ w.as_bytes.result.now ++ left w.take-taken.new.cursor)) (sym w.taken-is ∙ c.if-not-taken.false) w.take-taken.ensures.taken in
          let text = w.as_bytes.ensures.value ∙ w.as_str.ensures in
          record {
            fits = subst Fits (sym w.cursor-is) w.take-taken.ensures.fits;
            same = λ after. subst (λ x. (left c.args.cursor.now ≡ string_of c.args.element.now ++ after) ↔ (left x ≡ texts_of (drop (c.loop-child.child-index + 1) c.as_slice-child-items.result.now) ++ after)) (sym w.cursor-is)
                (moved w.in-Text.text (left c.loop-child.cursor) (left w.take-taken.new.cursor) (texts_of (drop c.loop-child.child-index c.as_slice-child-items.result.now) ++ after) (texts_of (drop (c.loop-child.child-index + 1) c.as_slice-child-items.result.now) ++ after) _
                (taken ∙ ap (λ s. s ++ left w.take-taken.new.cursor) text) (texts-text c.as_slice-child-items.result.now c.loop-child.child-index w.in-Text.text after (item ∙ ap Some w.in-Text.is)) (c.loop-child.invariant.same after));
          })
    ]
