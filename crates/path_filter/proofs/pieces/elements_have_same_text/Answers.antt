use Rattle.std.proofs.Common.{◌≡◌, ◌∙◌, ◌++◌, [], sym, subst, ap, append-nil}
use Rattle.std.specs.Bool.{OnTrue, OnFalse}
use Rattle.voe_tree.specs.Contents.{string_of}
use Rattle.filter_text.specs.Filter.{Text}
use Rattle.path_filter.specs.Cursors.{left}
use Rattle.path_filter.proofs.SearchSteps.{contra}
use Rattle.path_filter.proofs.Texts.{cancel}
use Rattle.path_filter.proofs.pieces.elements_have_same_text.Goals as goal

pub returns-then-take_element : goal.returns-then-take_element
returns-then-take_element c =
    let one = string_of c.args.one.now in
    let taken : left c.at_front-cursor.result ≡ one ++ left c.take_element.new.cursor = subst (λ b. OnTrue b (left c.at_front-cursor.result ≡ one ++ left c.take_element.new.cursor)) c.if-take_element.true c.take_element.ensures.taken in
    let whole = sym c.at_front-cursor.ensures.text ∙ taken in (
      (λ ended. sym (whole ∙ ap (λ t. one ++ t) (c.is_at_end.ensures.0 ended) ∙ append-nil one)),
      (λ same. c.is_at_end.ensures.1 (cancel one (left c.take_element.new.cursor) [] (sym whole ∙ sym same ∙ sym (append-nil one)))),
    )

pub returns-else-take_element : goal.returns-else-take_element
returns-else-take_element c =
    let one = string_of c.args.one.now in
    let other = subst (λ b. OnFalse b ((rest : Text) → left c.at_front-cursor.result ≡ one ++ rest → ⊥)) c.if-take_element.false c.take_element.ensures.other in (
      (λ claim. absurd (contra _ claim c.if-take_element.false)),
      (λ same. absurd (other [] (c.at_front-cursor.ensures.text ∙ sym same ∙ sym (append-nil one)))),
    )
