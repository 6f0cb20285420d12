-- A reference by the place of its `;`.
use Rattle.std.proofs.Common.{◌≡◌, ◌+◌, ◌<◌, ◌≤◌, ◌==◌, ℕ, suc, ◌∷◌, length, take, drop, Some, None, refl, ◌∙◌, ap, add-one, eqb-true, drop-cons}
use Rattle.std.proofs.Math.ListN.{drop_of_length-le}
use Rattle.std.specs.Prelude.{slice_index}
use Rattle.std.specs.List.{position_or_len}
use Rattle.std.proofs.lemmas.List.Sums.{passes_at_first}
use Rattle.xml_lexer.specs.Characters.{Text}
use Rattle.xml_lexer.specs.Spelling.{named_character}
use Rattle.xml_lexer.specs.Scan.{reference_at}

pub semicolon-is : (s : Text) → position_or_len (λ b. b == 59) s < length s → slice_index s (position_or_len (λ b. b == 59) s) ≡ 59
semicolon-is s lt = eqb-true _ 59 (passes_at_first (λ b. b == 59) s 0 lt)

semicolon-cut : (s : Text) (n : ℕ) → n < length s → slice_index s n ≡ 59 → drop n s ≡ 59 ∷ drop (n + 1) s
semicolon-cut s n lt e = rw (add-one) (drop-cons s n 0 lt ∙ ap (λ b. b ∷ drop (suc n) s) e)

pub reference_at-none : (s : Text) → length s ≤ position_or_len (λ b. b == 59) s → reference_at s ≡ None
unfolding reference_at
reference_at-none s le = rw (drop_of_length-le s {i = position_or_len (λ b. b == 59) s} le) refl

pub reference_at-unnamed : (s : Text) → position_or_len (λ b. b == 59) s < length s → named_character (take (position_or_len (λ b. b == 59) s) s) ≡ None → reference_at s ≡ None
unfolding reference_at
reference_at-unnamed s lt e = rw (semicolon-cut s _ lt (semicolon-is s lt), e) refl

pub reference_at-named : (s : Text) (c : ℕ) → position_or_len (λ b. b == 59) s < length s → named_character (take (position_or_len (λ b. b == 59) s) s) ≡ Some c →
    reference_at s ≡ Some (c, drop (position_or_len (λ b. b == 59) s + 1) s)
unfolding reference_at
reference_at-named s c lt e = rw (semicolon-cut s _ lt (semicolon-is s lt), e) refl
