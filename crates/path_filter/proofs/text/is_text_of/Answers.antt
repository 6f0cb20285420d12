use Rattle.std.proofs.Common.{◌≡◌, ◌++◌, ◌∙◌, [], sym, subst, refl, List, ℕ, append-nil}
use Rattle.std.specs.Option.{IfNone}
use Rattle.voe_tree.specs.Contents.{string_of}
use Rattle.path_filter.proofs.SearchSteps.{contra}
use Rattle.path_filter.proofs.text.is_text_of.Goals as goal

pub returns-in-None : goal.returns-in-None
returns-in-None c =
    let none = subst (λ o. IfNone o ((rest : List ℕ) → c.as_bytes.result.now ≡ string_of c.args.element.now ++ rest → ⊥)) c.in-None.is c.behind_text.ensures.none in
    ((λ claim. absurd (contra _ claim refl)), (λ same. absurd (none [] (c.as_bytes.ensures.value ∙ sym same ∙ sym (append-nil (string_of c.args.element.now))))))
