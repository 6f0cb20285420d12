-- A text without blanks at its ends has none to lose.
use Rattle.std.proofs.Common.{◌≡◌, ℕ, ◌+◌, ◌-◌, ◌<◌, zero, suc, Bool, true, false, List, [], ◌∷◌, length, drop, take, get_or, reverse, refl, sym, ◌∙◌, ap, inl, inr, arith}
use Rattle.std.specs.Prelude.{◌==◌, nat_lt, Some, None, if◌then◌else◌}
use Rattle.std.specs.List.{prefix_len, suffix_len}
use Rattle.std.proofs.lemmas.Bool.{and_from, cases_lt}
use Rattle.std.proofs.lemmas.Bool.Decides.{nat_tests}
use Rattle.std.proofs.lemmas.List.{take_all, length-reverse, get_or-reverse}
use Rattle.std.proofs.lemmas.List.Sums.{prefix_len_stops, suffix_len-take_no}
use Rattle.xml_lexer.specs.Characters.{Text, is_blank}
use Rattle.xml_lexer.specs.Spelling.{same}
use Rattle.voe_tree.specs.Texts.{trimmed, without_first_blanks, without_last_blanks}
use Rattle.voe_tree.proofs.WrittenNames.{is-same}
use Rattle.vtp_messages.specs.Parts.{is_stripped, is_stripped_if, unless_empty}

module _ (p : ℕ → Bool) where
  counted_rest : (b : Bool) (x : ℕ) (xs : List ℕ) → p x ≡ b → prefix_len p (drop (prefix_len p xs) xs) ≡ 0 → prefix_len p (drop (prefix_len p (x ∷ xs)) (x ∷ xs)) ≡ 0
  counted_rest true x xs passes more = rw passes (grind (arith, more))
  counted_rest false x xs stops more = rw (stops, stops) refl

  -- behind the front that passes no front passes
  rest_stops : (xs : List ℕ) → prefix_len p (drop (prefix_len p xs) xs) ≡ 0
  rest_stops [] = refl
  rest_stops (x ∷ xs) = counted_rest (p x) x xs refl (rest_stops xs)

  first_stops : (b : Bool) (x : ℕ) (xs : List ℕ) → p x ≡ b → prefix_len p (x ∷ xs) ≡ 0 → p x ≡ false
  first_stops false x xs is none = is
  first_stops true x xs is none = absurd (let some : 1 + prefix_len p xs ≡ 0 = rw is at none in omega arith)

  -- of a text that does not begin so, no front does
  front_stops : (n : ℕ) (xs : List ℕ) → prefix_len p xs ≡ 0 → prefix_len p (take n xs) ≡ 0
  front_stops zero xs none = refl
  front_stops (suc n) [] none = refl
  front_stops (suc n) (x ∷ xs) none = let stops = first_stops (p x) x xs refl none in rw stops refl

  last_stops : (xs : List ℕ) → 0 < length xs - suffix_len p xs → p (get_or xs (length xs - suffix_len p xs - 1) 0) ≡ false
  last_stops xs some =
      let long = length-reverse xs in
      let back : length xs - 1 - suffix_len p xs ≡ length xs - suffix_len p xs - 1 = omega arith in
      ap (λ j. p (get_or xs j 0)) (sym back) ∙ ap p (sym (get_or-reverse xs (suffix_len p xs) 0 (omega arith)))
      ∙ prefix_len_stops p (reverse xs) 0 (omega arith)

  -- the front that is left has no end that passes
  front_ends : (xs : List ℕ) → suffix_len p (take (length xs - suffix_len p xs) xs) ≡ 0
  front_ends xs = elim (cases_lt 0 (length xs - suffix_len p xs)) [
    | inl some ↦ suffix_len-take_no p xs (length xs - suffix_len p xs) 0 some (omega arith) (last_stops xs some)
    | inr none ↦ let nothing : length xs - suffix_len p xs ≡ 0 = omega arith in rw nothing refl
  ]

pub whole : (s : Text) → prefix_len is_blank s ≡ 0 → suffix_len is_blank s ≡ 0 → trimmed s ≡ s
whole s first last =
    let front : without_first_blanks s ≡ s = ap (λ n. drop n s) first in
    ap without_last_blanks front ∙ ap (λ n. take (length s - n) s) last ∙ take_all (length s - 0) s (omega arith)

-- without blanks at its ends it stays
pub trimmed-again : (s : Text) → trimmed (trimmed s) ≡ trimmed s
trimmed-again s =
    whole (trimmed s)
    (front_stops is_blank (length (without_first_blanks s) - suffix_len is_blank (without_first_blanks s)) (without_first_blanks s) (rest_stops is_blank s))
    (front_ends is_blank (without_first_blanks s))

kept : (b : Bool) (s : Text) → nat_lt 0 (length (trimmed s)) ≡ b → is_stripped_if (if b then Some (trimmed s) else None) ≡ true
kept false s is = refl
kept true s is = and_from (nat_lt 0 (length (trimmed s))) (same (trimmed (trimmed s)) (trimmed s)) is (is-same (trimmed (trimmed s)) (trimmed s) (trimmed-again s))

-- what is left of a text keeps what messages keep
pub stripped-kept : (s : Text) → is_stripped_if (unless_empty (trimmed s)) ≡ true
stripped-kept s = kept (nat_lt 0 (length (trimmed s))) s refl

-- what is left of a text, where it is not empty
pub stripped_is : (s t : Text) → t ≡ trimmed s → (length t == 0) ≡ false → is_stripped t ≡ true
stripped_is s t is some =
    let again : trimmed t ≡ t = ap trimmed is ∙ trimmed-again s ∙ sym is in
    and_from (nat_lt 0 (length t)) (same (trimmed t) t) (grind (arith, nat_tests)) (is-same (trimmed t) t again)
