-- An identifier has no blanks and is not empty.
use Rattle.std.proofs.Common.{◌≡◌, ℕ, ◌-◌, ◌<◌, ◌≤◌, Bool, true, false, [], ◌∷◌, length, get_or, take, drop, refl, sym, ◌∙◌, ap, subst, inl, inr, arith}
use Rattle.std.specs.Prelude.{◌==◌, ◌||◌, not, Option, Some, None, is_none, position}
use Rattle.std.specs.List.{position_or_len, prefix_len, suffix_len}
use Rattle.std.proofs.lemmas.Bool.{both_ways, eqb-true, not-true, or_cases, ltb-false}
use Rattle.std.proofs.Math.Seq.{take-length}
use Rattle.std.proofs.lemmas.List.Sums.{prefix_len_passes, suffix_len_is}
use Rattle.xml_lexer.specs.Characters.{Text, is_blank}
use Rattle.xml_lexer.proofs.Options.{position-none}
use Rattle.voe_tree.specs.Texts.{trimmed, without_last_blanks}
use Rattle.voe_tree.specs.Identifier.{is_identifier}
use Rattle.voe_values.specs.Identifier.{bad_byte, broken, first_fault, is_barred_byte, no_authority, no_local, no_scheme, too_long}

broken-none : (rule : ℕ) (o : Option ℕ) (later : Option (ℕ × ℕ)) → is_none (broken rule o later) ≡ true → (o ≡ None) × (is_none later ≡ true)
broken-none rule None later h = (refl, h)
broken-none rule (Some place) later h = cc

no_bad_byte : (s : Text) → is_identifier s ≡ true → position is_barred_byte s ≡ None
unfolding first_fault
no_bad_byte s h =
    let behind = broken-none 1 (too_long s) (broken 2 (bad_byte s) (broken 3 (no_scheme s) (broken 4 (no_authority s) (broken 5 (no_local s) None)))) h in
    (broken-none 2 (bad_byte s) (broken 3 (no_scheme s) (broken 4 (no_authority s) (broken 5 (no_local s) None))) behind.1).0

pub empty_is_none : is_identifier [] ≡ false
unfolding first_fault
empty_is_none = refl

blank_barred : (b : ℕ) → is_blank b ≡ true → is_barred_byte b ≡ true
blank_barred b h =
    elim (or_cases (b == 32 || b == 9 || b == 10) (b == 13) h) [
      | inr e ↦ subst (λ x. is_barred_byte x ≡ true) (sym (eqb-true b 13 e)) refl
      | inl h ↦ elim (or_cases (b == 32 || b == 9) (b == 10) h) [
        | inr e ↦ subst (λ x. is_barred_byte x ≡ true) (sym (eqb-true b 10 e)) refl
        | inl h ↦ elim (or_cases (b == 32) (b == 9) h) [
          | inr e ↦ subst (λ x. is_barred_byte x ≡ true) (sym (eqb-true b 9 e)) refl
          | inl e ↦ subst (λ x. is_barred_byte x ≡ true) (sym (eqb-true b 32 e)) refl
        ]
      ]
    ]

not_blank : (b : ℕ) → not (is_barred_byte b) ≡ true → is_blank b ≡ false
not_blank b h =
    let both : (t : Bool) → is_blank b ≡ t → is_blank b ≡ false =
    λ t. elim t as (λ u. is_blank b ≡ u → is_blank b ≡ false)
    [ true ↦ λ e. absurd (both_ways (is_barred_byte b) (not-true (is_barred_byte b) h) (blank_barred b e)) | false ↦ λ e. e ] in
    both (is_blank b) refl

-- each byte is no blank
abbrev NoBlanks : Text → Type 0
NoBlanks s = (k : ℕ) → k < length s → is_blank (get_or s k 0) ≡ false

no_blanks : (s : Text) → is_identifier s ≡ true → NoBlanks s
no_blanks s h k low =
    let past : length s ≤ position_or_len is_barred_byte s = ltb-false (position_or_len is_barred_byte s) (length s) (position-none is_barred_byte s (no_bad_byte s h)) in
    let before : k < prefix_len (λ b. not (is_barred_byte b)) s = omega arith in
    not_blank (get_or s k 0) (prefix_len_passes (λ b. not (is_barred_byte b)) s k 0 before)

no_first : (s : Text) → NoBlanks s → prefix_len is_blank s ≡ 0
no_first [] h = refl
no_first (x ∷ s) h = let first : is_blank x ≡ false = h 0 (omega arith) in rw first refl

no_last : (s : Text) → NoBlanks s → suffix_len is_blank s ≡ 0
no_last s h =
    let is = suffix_len_is is_blank s (length s) 0 (omega arith) (λ k low high. absurd (omega arith)) (λ some. h (length s - 1) (omega arith)) in omega arith

plain-trimmed : (s : Text) → NoBlanks s → trimmed s ≡ s
plain-trimmed s h =
    ap without_last_blanks (ap (λ n. drop n s) (no_first s h))
    ∙ ap (λ n. take (length s - n) s) (no_last s h) ∙ ap (λ n. take n s) (let all : length s - 0 ≡ length s = omega arith in all) ∙ take-length s

-- an identifier is the same without blanks at its ends
pub identifier-trimmed : (s : Text) → is_identifier s ≡ true → trimmed s ≡ s
identifier-trimmed s h = plain-trimmed s (no_blanks s h)
