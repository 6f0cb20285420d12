-- Numbers by their digits.
use Rattle.std.proofs.Common.{◌≡◌, ℕ, zero, suc, ◌^◌, ◌≤◌, ◌==◌, ◌&&◌, Bool, true, false, List, [], ◌∷◌, length, cond, arith, lit≤, nat_le, refl}
use Rattle.std.proofs.lemmas.Bool.{false≢true, leb-true}
use Rattle.std.specs.List.{list_all}
use Rattle.voe_scenario.specs.Words.{is_number, is_digit, has_digits}

-- up to six digits are below a million
pub ten_to : (i : ℕ) → i ≤ 6 → 10 ^ i ≤ 1000000
ten_to zero h = lit≤ tt
ten_to (suc zero) h = lit≤ tt
ten_to (suc (suc zero)) h = lit≤ tt
ten_to (suc (suc (suc zero))) h = lit≤ tt
ten_to (suc (suc (suc (suc zero)))) h = lit≤ tt
ten_to (suc (suc (suc (suc (suc zero))))) h = lit≤ tt
ten_to (suc (suc (suc (suc (suc (suc zero)))))) h = lit≤ tt
ten_to (suc (suc (suc (suc (suc (suc (suc i))))))) h = absurd (omega arith)

-- a number is made of up to seven digits
pub number_digits : (word : List ℕ) → is_number word ≡ true → has_digits word ≡ true
unfolding is_number
number_digits [] is = absurd (false≢true is)
number_digits (digit ∷ []) is = is
number_digits (digit ∷ second ∷ others) is =
    let leading : (b : Bool) → cond b false (has_digits (digit ∷ second ∷ others)) ≡ true → has_digits (digit ∷ second ∷ others) ≡ true
    = λ b. elim b as (λ b. cond b false (has_digits (digit ∷ second ∷ others)) ≡ true → has_digits (digit ∷ second ∷ others) ≡ true) [ true ↦ λ is. absurd (false≢true is) | false ↦ λ is. is ] in
    leading (digit == 48) is

-- both of two tests hold
both : (a b : Bool) → (a && b) ≡ true → (a ≡ true) × (b ≡ true)
both true true is = (refl, refl)
both true false is = absurd (false≢true is)
both false b is = absurd (false≢true is)

pub number_few : (word : List ℕ) → is_number word ≡ true → length word ≤ 7
number_few word is = leb-true (length word) 7 (both (nat_le (length word) 7) (list_all is_digit word) (number_digits word is)).0

pub number_all : (word : List ℕ) → is_number word ≡ true → list_all is_digit word ≡ true
number_all word is = (both (nat_le (length word) 7) (list_all is_digit word) (number_digits word is)).1
