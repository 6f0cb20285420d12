-- Two texts that are compared by equal fronts.
use Rattle.std.proofs.Common.{◌≡◌, ◌↔◌, ◌≤◌, ℕ, Bool, true, false, not, [], ◌∷◌, ◌++◌, take, drop, length, refl, sym, ◌∙◌, ap, append_assoc}
use Rattle.std.specs.Bool.{◌==◌}
use Rattle.std.proofs.lemmas.List.{take-append-drop, take-append-le}
use Rattle.filter_text.specs.Filter.{Text}
use Rattle.path_filter.proofs.Texts.{cancel}

-- with equal fronts, what stands behind decides
pub behind_fronts : (n : ℕ) (p w l after : Text) → take n p ≡ take n w → (p ++ l ≡ w ++ after) ↔ (drop n p ++ l ≡ drop n w ++ after)
behind_fronts n p w l after same = (
  (λ e. cancel (take n p) (drop n p ++ l) (drop n w ++ after) (sym (whole p l) ∙ e ∙ whole w after ∙ ap (λ t. t ++ (drop n w ++ after)) (sym same))),
  (λ e. whole p l ∙ ap (λ t. take n p ++ t) e ∙ ap (λ t. t ++ (drop n w ++ after)) same ∙ sym (whole w after)),
)
  where
    whole : (t more : Text) → t ++ more ≡ take n t ++ (drop n t ++ more)
    whole t more = ap (λ x. x ++ more) (sym (take-append-drop n t)) ∙ append_assoc (take n t) (drop n t) more

-- with other fronts they differ
pub other_fronts : (n : ℕ) (p w l after : Text) → n ≤ length p → n ≤ length w → p ++ l ≡ w ++ after → take n p ≡ take n w
other_fronts n p w l after a b e = sym (take-append-le n p l a) ∙ ap (take n) e ∙ take-append-le n w after b

pub not_not : (b : Bool) → not b ≡ true → b ≡ false
not_not true e = sym e
not_not false e = refl

pub not_false : (b : Bool) → not b ≡ false → b ≡ true
not_false true e = refl
not_false false e = sym e

pub not_nothing : (p l : Text) → length p == 0 ≡ false → p ++ l ≡ [] → ⊥
not_nothing [] l some e = let bad : true ≡ false = some in (let absurdity : ⊥ = cc in absurdity)
not_nothing (x ∷ p) l some e = let absurdity : ⊥ = cc in absurdity
