-- Which namespaces have a number yet.
use Rattle.std.proofs.Common.{◌≡◌, ℕ, suc, Bool, true, false, List, [], ◌∷◌, length, refl, sym, ◌∙◌, ap, inl, inr, arith, one-add}
use Rattle.std.specs.Prelude.{◌==◌, ◌&&◌, not}
use Rattle.std.specs.Borrow.{Bor}
use Rattle.std.proofs.lemmas.List.{length-map}
use Rattle.voe_tree.specs.Writing.{texts}
use Rattle.std.specs.List.{list_any, position_or_len}
use Rattle.std.proofs.lemmas.Bool.{cases_eq, eq-eqb, ne_eqb}
use Rattle.xml_lexer.specs.Characters.{Text}
use Rattle.xml_lexer.specs.Spelling.{same}

eqb_shift : (m n : ℕ) → (suc m == suc n) ≡ (m == n)
eqb_shift m n =
    elim (cases_eq m n) [
      | inl e ↦ eq-eqb (suc m) (suc n) (ap (λ k. suc k) e) ∙ sym (eq-eqb m n e)
      | inr differ ↦ ne_eqb (suc m) (suc n) (λ e. differ (omega arith)) ∙ sym (ne_eqb m n differ)
    ]

-- a namespace is not among them where its place is their number
pub new_is : (x : Text) (spaces : List Text) → (position_or_len (same x) spaces == length spaces) ≡ not (list_any (same x) spaces)
new_is x [] = refl
new_is x (space ∷ more) =
    let both : (t : Bool) → same x space ≡ t → (position_or_len (same x) (space ∷ more) == length (space ∷ more)) ≡ not (list_any (same x) (space ∷ more)) =
    λ t. elim t as (λ u. same x space ≡ u → (position_or_len (same x) (space ∷ more) == length (space ∷ more)) ≡ not (list_any (same x) (space ∷ more))) [
      | true ↦ λ e. rw e (ne_eqb 0 (suc (length more)) (λ zero_is. omega arith))
      | false ↦ λ e. rw (e, one-add) (eqb_shift (position_or_len (same x) more) (length more) ∙ new_is x more)
    ] in
    both (same x space) refl

pub new_among : (x : Text) (spaces : List (Bor Text)) (n : ℕ) (numbered : Bool) → n ≡ position_or_len (same x) (texts spaces) → numbered ≡ true →
    (n == length spaces) ≡ (numbered && not (list_any (same x) (texts spaces)))
new_among x spaces n numbered counted is =
    ap (λ k. k == length spaces) counted ∙ ap (λ k. position_or_len (same x) (texts spaces) == k) (sym (length-map spaces (λ (s : Bor Text). s.now)))
    ∙ new_is x (texts spaces) ∙ ap (λ b. b && not (list_any (same x) (texts spaces))) (sym is)
