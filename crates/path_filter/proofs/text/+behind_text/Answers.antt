use Rattle.std.proofs.Common.{◌≡◌, ◌≢◌, ◌↔◌, ◌++◌, ◌∙◌, Some, ap, sym, subst, ℕ, List, drop, ◌+◌}
use Rattle.std.specs.Option.{IfSome, MatchOption}
use Rattle.std.proofs.lemmas.Bool.Decides.{Decides-eqb}
use Rattle.std.proofs.lemmas.Slice.Eq.{strip_prefix_is}
use Rattle.voe_tree.specs.Contents.{string_of}
use Rattle.path_filter.proofs.SearchSteps.{read}
use Rattle.path_filter.proofs.Texts.{texts_of, texts-element, texts-text, moved}
use Rattle.path_filter.proofs.text.+behind_text.Goals.{in-Element+in-Some, in-Text+in-Some-strip_prefix}
use Rattle.path_filter.proofs.text.+behind_text.Goals as goal

pub loop-child-preserved : goal.loop-child-preserved
loop-child-preserved t c =
    let item = read c.as_slice-child-items.result.now c.loop-child.child-index c.child-item.result c.loop-child-test.true c.child-item.is in
    λ after. elim c.match-child.branch [
      | in-Element+in-Some w ↦
          subst (λ r. (c.args.text.now ≡ string_of c.args.element.now ++ after) ↔ (r.now ≡ texts_of (drop (c.loop-child.child-index + 1) c.as_slice-child-items.result.now) ++ after)) (sym w.rest-is)
          (moved (string_of w.in-Element.inner) c.loop-child.rest.now w.in-Some.behind.now (texts_of (drop c.loop-child.child-index c.as_slice-child-items.result.now) ++ after) (texts_of (drop (c.loop-child.child-index + 1) c.as_slice-child-items.result.now) ++ after) _
          (subst (λ o. IfSome o (λ rest. c.loop-child.rest.now ≡ string_of w.in-Element.inner ++ rest.now)) w.in-Some.is w.behind_text.ensures.some)
          (texts-element c.as_slice-child-items.result.now c.loop-child.child-index w.in-Element.inner after (item ∙ ap Some w.in-Element.is))
          (c.loop-child.invariant after))
      | in-Text+in-Some-strip_prefix w ↦
          subst (λ r. (c.args.text.now ≡ string_of c.args.element.now ++ after) ↔ (r.now ≡ texts_of (drop (c.loop-child.child-index + 1) c.as_slice-child-items.result.now) ++ after)) (sym w.rest-is)
          (moved w.in-Text.part c.loop-child.rest.now w.in-Some-strip_prefix.behind.now (texts_of (drop c.loop-child.child-index c.as_slice-child-items.result.now) ++ after) (texts_of (drop (c.loop-child.child-index + 1) c.as_slice-child-items.result.now) ++ after) _
          (subst (λ t. c.loop-child.rest.now ≡ t ++ w.in-Some-strip_prefix.behind.now) (w.as_bytes.ensures.value ∙ w.as_str.ensures)
          (subst (λ o. MatchOption o ((rest : List ℕ) → c.loop-child.rest.now ≢ w.as_bytes.result.now ++ rest) (λ x. c.loop-child.rest.now ≡ w.as_bytes.result.now ++ x.now)) w.in-Some-strip_prefix.is (strip_prefix_is Decides-eqb c.loop-child.rest.now w.as_bytes.result.now w.strip_prefix.result w.strip_prefix.ensures.cases)))
          (texts-text c.as_slice-child-items.result.now c.loop-child.child-index w.in-Text.part after (item ∙ ap Some w.in-Text.is))
          (c.loop-child.invariant after))
    ]
