-- One more bit in a list of words.
use Rattle.std.proofs.Common.{◌≡◌, ◌≢◌, ◌⊎◌, ◌↔◌, inl, inr, ℕ, zero, suc, refl, ◌+◌, ◌-◌, ◌*◌, ◌/◌, ◌%◌, ◌^◌, ◌<◌, ◌≤◌, List, length, get_or, set, bit_or, sym, ◌∙◌, ap, subst, arith, w64}
use Rattle.std.specs.Int.{bit_at, trailing_zeros}
use Rattle.std.proofs.Math.Nat.{div-le_self}
use Rattle.std.proofs.lemmas.List.{get_or-set_same, get_or-set_other}
use Rattle.std.proofs.lemmas.Nat.{div-add-mod', mod_below, pow_pos}
use Rattle.std.proofs.lemmas.Nat.Bits.{bit_at_above, bit_at_cat_high, bit_at_set_same, bit_at_set_other, bit_at-trailing_zeros, bit_at-zero}

same-or-other : (a b : ℕ) → (a ≡ b) ⊎ (a ≢ b)
same-or-other a b = grind arith

-- the place of a position is its word and its bit
apart : (i at : ℕ) → i / 64 ≡ at / 64 → i % 64 ≡ at % 64 → i ≡ at
apart i at words bits = omega (arith, words, bits)

pub set-bit : (ws : List ℕ) (at : ℕ) → at / 64 < length ws → (i : ℕ)
    → (bit_at (get_or (set ws (at / 64) (bit_or (get_or ws (at / 64) 0) (1 * 2 ^ (at % 64) % 2 ^ 64))) (i / 64) 0) (i % 64) ≡ 1)
    ↔ ((bit_at (get_or ws (i / 64) 0) (i % 64) ≡ 1) ⊎ (i ≡ at))
set-bit ws at lt i = elim (same-or-other (i / 64) (at / 64)) [
  | inl word ↦ (elim (same-or-other (i % 64) (at % 64)) [
    | inl bit ↦ (
      (λ h. inr (apart i at word bit)),
      (λ h. subst (λ n. bit_at (get_or new n 0) (i % 64) ≡ 1) (sym word) (subst (λ n. bit_at (get_or new (at / 64) 0) n ≡ 1) (sym bit) (ap (λ w. bit_at w (at % 64)) here ∙ bit_at_set_same w64 old (at % 64) (omega arith)))),
    )
    | inr other ↦
        (let same : bit_at (get_or new (i / 64) 0) (i % 64) ≡ bit_at (get_or ws (i / 64) 0) (i % 64) =
        ap (λ n. bit_at (get_or new n 0) (i % 64)) word ∙ ap (λ w. bit_at w (i % 64)) here ∙ bit_at_set_other w64 old (at % 64) (omega arith) (i % 64) other ∙ ap (λ n. bit_at (get_or ws n 0) (i % 64)) (sym word) in
        ((λ h. inl (sym same ∙ h)), (λ h. elim h [ inl was ↦ same ∙ was | inr is ↦ absurd (other (ap (λ n. n % 64) is)) ])))
  ])
  | inr other ↦
      (let same : bit_at (get_or new (i / 64) 0) (i % 64) ≡ bit_at (get_or ws (i / 64) 0) (i % 64) =
      ap (λ w. bit_at w (i % 64)) (get_or-set_other ws (at / 64) (i / 64) _ 0 other) in
      ((λ h. inl (sym same ∙ h)), (λ h. elim h [ inl was ↦ same ∙ was | inr is ↦ absurd (other (ap (λ n. n / 64) is)) ])))
]
  where
    old : ℕ
    old = get_or ws (at / 64) 0

    new : List ℕ
    new = set ws (at / 64) (bit_or old (1 * 2 ^ (at % 64) % 2 ^ 64))

    here : get_or new (at / 64) 0 ≡ bit_or old (1 * 2 ^ (at % 64) % 2 ^ 64)
    here = get_or-set_same ws (at / 64) _ 0 lt

-- ---- bits that are skipped

-- the bits from one on are those of what is left when the others are shifted out
bit-behind : (w k b : ℕ) → k ≤ b → bit_at w b ≡ bit_at (w / 2 ^ k) (b - k)
bit-behind w k b le = ap (λ x. bit_at x b) (sym (div-add-mod' w (2 ^ k))) ∙ bit_at_cat_high (w / 2 ^ k) k (w % 2 ^ k) b (mod_below w (2 ^ k) (pow_pos k)) le

no-bit : (n : ℕ) → n ≡ 0 → n ≡ 1 → ⊥
no-bit n none some = absurd (omega (arith, sym none ∙ some))

-- where nothing of a word is left
pub skip-word : (ws : List ℕ) (at i : ℕ) → get_or ws (at / 64) 0 / 2 ^ (at % 64) ≡ 0 → at ≤ i → i < (at / 64 + 1) * 64 → bit_at (get_or ws (i / 64) 0) (i % 64) ≡ 1 → ⊥
skip-word ws at i none le lt has =
    let word : i / 64 ≡ at / 64 = omega (arith, le, lt) in
    let bit : at % 64 ≤ i % 64 = omega (arith, le, word) in
    no-bit _ (bit-behind w (at % 64) (i % 64) bit ∙ ap (λ x. bit_at x (i % 64 - at % 64)) none ∙ bit_at-zero _) (subst (λ n. bit_at (get_or ws n 0) (i % 64) ≡ 1) word has)
  where
    w : ℕ
    w = get_or ws (at / 64) 0

pub less-or-not : (a b : ℕ) → (a < b) ⊎ (b ≤ a)
less-or-not a b = grind arith

pub positive : (n : ℕ) → (n ≡ 0 → ⊥) → 0 < n
positive zero not = absurd (not refl)
positive (suc n) not = omega arith

-- the zeros at the end of what is left of a word
pub skip-zeros : (ws : List ℕ) (at i : ℕ) → get_or ws (at / 64) 0 < 2 ^ 64 → 0 < get_or ws (at / 64) 0 / 2 ^ (at % 64) → at ≤ i
    → i < at + trailing_zeros w64 (get_or ws (at / 64) 0 / 2 ^ (at % 64)) → bit_at (get_or ws (i / 64) 0) (i % 64) ≡ 1 → ⊥
skip-zeros ws at i small some le lt has =
    let (_, one, zeros) = bit_at-trailing_zeros w64 left some (omega (arith, small, div-le_self w (2 ^ (at % 64)))) in
    let inside : at % 64 + trailing_zeros w64 left < 64 = elim (less-or-not (at % 64 + trailing_zeros w64 left) 64) [
      | inl less ↦ less
      | inr above ↦
          (let back : at % 64 + trailing_zeros w64 left - at % 64 ≡ trailing_zeros w64 left = omega arith in
          absurd (no-bit _ (bit_at_above w 64 (at % 64 + trailing_zeros w64 left) small above)
          (bit-behind w (at % 64) (at % 64 + trailing_zeros w64 left) (omega arith) ∙ ap (bit_at left) back ∙ one)))
    ] in
    let word : i / 64 ≡ at / 64 = omega (arith, le, lt, inside) in
    let bit : at % 64 ≤ i % 64 = omega (arith, le, word) in
    let low : i % 64 - at % 64 < trailing_zeros w64 left = omega (arith, le, lt, word) in
    no-bit _ (bit-behind w (at % 64) (i % 64) bit ∙ zeros (i % 64 - at % 64) low) (subst (λ n. bit_at (get_or ws n 0) (i % 64) ≡ 1) word has)
  where
    w : ℕ
    w = get_or ws (at / 64) 0

    left : ℕ
    left = w / 2 ^ (at % 64)
