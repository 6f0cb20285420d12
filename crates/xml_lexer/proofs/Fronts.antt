-- The front of XML characters, by its bytes.
use Rattle.std.proofs.Common.{◌≡◌, ◌+◌, ◌-◌, ◌/◌, ◌%◌, ◌≤◌, ◌<◌, ◌&&◌, ◌||◌, ◌==◌, ◌⊎◌, inl, inr, ℕ, zero, suc, Bool, true, false, cond, List, [], ◌∷◌, ◌++◌, length, take, drop, refl, sym, ◌∙◌, ap, subst, arith, IsUtf8, add-one, drop-cons, get_or, drop-drop, length-drop}
use Rattle.std.proofs.Math.Seq.{take-append-add}
use Rattle.std.specs.Prelude.{not, nat_lt, nat_le, slice_index}
use Rattle.std.specs.List.{take_while, list_all}
use Rattle.std.specs.Str.{chars, IsCharBoundary}
use Rattle.std.proofs.lemmas.Bool.{cases_lt, and_parts}
use Rattle.std.proofs.lemmas.Bool.Decides.{nat_tests}
use Rattle.std.proofs.lemmas.Str.{encode_ascii, encodes-chars, scalars-chars, IsCharBoundary-from_take}
use Rattle.std.proofs.lemmas.List.Sums.{take_while-cons}
use lib.Utf8.{scalar, scalars, encode, encodes, scalar_cases}
use Rattle.xml_lexer.specs.Characters.{Text, is_xml_character, is_blank, xml_front}
use Rattle.xml_lexer.specs.Scan.{starts_bad, is_clear, front_len}

-- a byte that begins no such character
good : (b : ℕ) (s : Text) → 32 ≤ b → (b ≡ 239 → ⊥) → starts_bad (b ∷ s) ≡ false
good b s low other = tests b (slice_index s 0 == 191 && nat_le 190 (slice_index s 1)) low other
  where
    tests : (b : ℕ) (x : Bool) → 32 ≤ b → (b ≡ 239 → ⊥) → ((nat_lt b 32 && not (is_blank b)) || (b == 239 && x)) ≡ false
    tests b x low other =
        let small : nat_lt b 32 ≡ false = grind (arith, nat_tests) in
        let lead : (b == 239) ≡ false = grind (arith, nat_tests) in
        rw (small, lead) refl

past : (b : ℕ) (s : Text) → 32 ≤ b → (b ≡ 239 → ⊥) → front_len (b ∷ s) ≡ suc (front_len s)
past b s low other = rw (good b s low other) refl

-- what the front is where it begins with a character
abbrev Fronted : ℕ → Text → Type 0
Fronted c t = front_len (encode c ++ t) ≡ cond (is_xml_character c) (length (encode c) + front_len t) 0

low_bad : (c : ℕ) (x : Bool) → c < 128 → ((nat_lt c 32 && not (is_blank c)) || (c == 239 && x)) ≡ not (is_xml_character c)
low_bad c x small =
    let lead : (c == 239) ≡ false = grind (arith, nat_tests) in
    rw lead (tests c small)
  where
    tests : (c : ℕ) → c < 128 → ((nat_lt c 32 && not (is_blank c)) || false) ≡ not (is_xml_character c)
    tests c small = grind (arith, nat_tests)

chosen_not : (b : Bool) (n : ℕ) → cond (not b) 0 (suc n) ≡ cond b (1 + n) 0
chosen_not true n = omega arith
chosen_not false n = refl

ascii_front : (c : ℕ) (t : Text) → c < 128 → Fronted c t
ascii_front c t small =
    let bad = low_bad c (slice_index t 0 == 191 && nat_le 190 (slice_index t 1)) small in
    rw (encode_ascii c small) (rw bad (chosen_not (is_xml_character c) (front_len t)))

two_front : (c : ℕ) (t : Text) → 128 ≤ c → c < 2048 → Fronted c t
unfolding encode
two_front c t low high =
    let xml : is_xml_character c ≡ true = grind (arith, nat_tests) in
    let one : nat_lt c 128 ≡ false = grind (arith, nat_tests) in
    let two : nat_lt c 2048 ≡ true = grind (arith, nat_tests) in
    let first = past (192 + c / 64) ((128 + c % 64) ∷ t) (omega arith) (λ e. omega arith) in
    let second = past (128 + c % 64) t (omega arith) (λ e. omega arith) in
    rw (xml, one, two) (first ∙ ap suc second ∙ two_more (front_len t))
  where
    two_more : (n : ℕ) → suc (suc n) ≡ 2 + n
    two_more n = omega arith

four_front : (c : ℕ) (t : Text) → 65536 ≤ c → c < 1114112 → Fronted c t
unfolding encode
four_front c t low high =
    let xml : is_xml_character c ≡ true = grind (arith, nat_tests) in
    let one : nat_lt c 128 ≡ false = grind (arith, nat_tests) in
    let two : nat_lt c 2048 ≡ false = grind (arith, nat_tests) in
    let three : nat_lt c 65536 ≡ false = grind (arith, nat_tests) in
    let fourth = past (128 + c % 64) t (omega arith) (λ e. omega arith) in
    let third = past (128 + (c / 64) % 64) ((128 + c % 64) ∷ t) (omega arith) (λ e. omega arith) in
    let second = past (128 + (c / 4096) % 64) ((128 + (c / 64) % 64) ∷ ((128 + c % 64) ∷ t)) (omega arith) (λ e. omega arith) in
    let first = past (240 + c / 262144) ((128 + (c / 4096) % 64) ∷ ((128 + (c / 64) % 64) ∷ ((128 + c % 64) ∷ t))) (omega arith) (λ e. omega arith) in
    rw (xml, one, two, three) (first ∙ ap suc (second ∙ ap suc (third ∙ ap suc fourth)) ∙ four_more (front_len t))
  where
    four_more : (n : ℕ) → suc (suc (suc (suc n))) ≡ 4 + n
    four_more n = omega arith

three_bad : (c : ℕ) → 2048 ≤ c → c < 65536 → ((c < 55296) ⊎ (57344 ≤ c)) →
    ((nat_lt (224 + c / 4096) 32 && not (is_blank (224 + c / 4096))) || ((224 + c / 4096) == 239 && ((128 + (c / 64) % 64) == 191 && nat_le 190 (128 + c % 64)))) ≡ not (is_xml_character c)
three_bad c low high is = elim (cases_lt c 65534) [
  | inl below ↦
      let xml : is_xml_character c ≡ true = xml_of c low below is in
      let clear : ((224 + c / 4096) == 239 && ((128 + (c / 64) % 64) == 191 && nat_le 190 (128 + c % 64))) ≡ false =
      not_all (224 + c / 4096) (128 + (c / 64) % 64) (128 + c % 64) (λ a b d. omega arith) in
      let small : nat_lt (224 + c / 4096) 32 ≡ false = not_small (224 + c / 4096) (omega arith) in
      rw (small, clear, xml) refl
  | inr above ↦
      let no_xml : is_xml_character c ≡ false = grind (arith, nat_tests) in
      let first : 224 + c / 4096 ≡ 239 = omega arith in
      let second : 128 + (c / 64) % 64 ≡ 191 = omega arith in
      let third : nat_le 190 (128 + c % 64) ≡ true = at_least (128 + c % 64) (omega arith) in
      rw (first, second, third, no_xml) refl
]
  where
    xml_of : (c : ℕ) → 2048 ≤ c → c < 65534 → ((c < 55296) ⊎ (57344 ≤ c)) → is_xml_character c ≡ true
    xml_of c low below (inl h) = grind (arith, nat_tests)
    xml_of c low below (inr h) = grind (arith, nat_tests)

    not_small : (b : ℕ) → 32 ≤ b → nat_lt b 32 ≡ false
    not_small b h = grind (arith, nat_tests)

    at_least : (b : ℕ) → 190 ≤ b → nat_le 190 b ≡ true
    at_least b h = grind (arith, nat_tests)

    not_all : (x y z : ℕ) → (x ≡ 239 → y ≡ 191 → 190 ≤ z → ⊥) → (x == 239 && (y == 191 && nat_le 190 z)) ≡ false
    not_all x y z h = grind (arith, nat_tests)

three_front : (c : ℕ) (t : Text) → 2048 ≤ c → c < 65536 → ((c < 55296) ⊎ (57344 ≤ c)) → Fronted c t
unfolding encode
three_front c t low high is =
    let one : nat_lt c 128 ≡ false = grind (arith, nat_tests) in
    let two : nat_lt c 2048 ≡ false = grind (arith, nat_tests) in
    let three : nat_lt c 65536 ≡ true = grind (arith, nat_tests) in
    let third = past (128 + c % 64) t (omega arith) (λ e. omega arith) in
    let second = past (128 + (c / 64) % 64) ((128 + c % 64) ∷ t) (omega arith) (λ e. omega arith) in
    let bad = three_bad c low high is in
    rw (one, two, three) (rw bad (rest (is_xml_character c) _ (front_len t) (second ∙ ap suc third)))
  where
    rest : (b : Bool) (m n : ℕ) → m ≡ suc (suc n) → cond (not b) 0 (suc m) ≡ cond b (3 + n) 0
    rest true m n e = omega (arith, e)
    rest false m n e = refl

char_front : (c : ℕ) (t : Text) → scalar c ≡ true → Fronted c t
char_front c t is = elim (cases_lt c 128) [
  | inl a ↦ ascii_front c t a
  | inr a ↦ elim (cases_lt c 2048) [
    | inl b ↦ two_front c t a b
    | inr b ↦ elim (cases_lt c 65536) [
      | inl d ↦ three_front c t b d (apart (scalar_cases c is))
      | inr d ↦ four_front c t d (below (scalar_cases c is))
    ]
  ]
]
  where
    apart : (c < 55296) ⊎ ((57344 ≤ c) × (c < 1114112)) → (c < 55296) ⊎ (57344 ≤ c)
    apart (inl h) = inl h
    apart (inr h) = inr h.0

    below : (c < 55296) ⊎ ((57344 ≤ c) × (c < 1114112)) → c < 1114112
    below (inl h) = omega arith
    below (inr h) = h.1

chars_front : (cs : List ℕ) → scalars cs ≡ true → take (front_len (encodes cs)) (encodes cs) ≡ encodes (take_while is_xml_character cs)
chars_front [] h = refl
chars_front (c ∷ cs) h =
    let parts = and_parts (scalar c) (scalars cs) h in
    let one = char_front c (encodes cs) parts.0 in
    let others = chars_front cs parts.1 in
    ap (λ n. take n (encode c ++ encodes cs)) one ∙ by_test (is_xml_character c) others
    ∙ ap encodes (sym (take_while-cons is_xml_character c cs))
  where
    by_test : (b : Bool) → take (front_len (encodes cs)) (encodes cs) ≡ encodes (take_while is_xml_character cs) →
        take (cond b (length (encode c) + front_len (encodes cs)) 0) (encode c ++ encodes cs) ≡ encodes (cond b (c ∷ take_while is_xml_character cs) [])
    by_test true others = take-append-add (encode c) (encodes cs) (front_len (encodes cs)) ∙ ap (λ t. encode c ++ t) others
    by_test false others = refl

pub front-taken : (s : Text) → IsUtf8 s → take (front_len s) s ≡ xml_front s
front-taken s u =
    let P : Text → Type 0 = λ x. take (front_len x) x ≡ encodes (take_while is_xml_character (chars s)) in
    subst P (encodes-chars s u) (chars_front (chars s) (scalars-chars s u))

pub front-within : (s : Text) → front_len s ≤ length s
front-within [] = omega arith
front-within (b ∷ s) = by_test (starts_bad (b ∷ s)) (front-within s)
  where
    by_test : (x : Bool) → front_len s ≤ length s → cond x 0 (suc (front_len s)) ≤ suc (length s)
    by_test true h = omega arith
    by_test false h = omega arith

pub front-boundary : (s : Text) → IsUtf8 s → IsCharBoundary s (front_len s)
front-boundary s u = IsCharBoundary-from_take s (front_len s) u (front-within s) (subst IsUtf8 (sym (front-taken s u)) (utf8_front (chars s) (scalars-chars s u)))
  where
    scalars_front : (cs : List ℕ) → scalars cs ≡ true → scalars (take_while is_xml_character cs) ≡ true
    scalars_front [] h = refl
    scalars_front (c ∷ cs) h =
        let parts = and_parts (scalar c) (scalars cs) h in
        rw (take_while-cons is_xml_character c cs) (by_test (is_xml_character c) parts.0 (scalars_front cs parts.1))
      where
        by_test : (b : Bool) → scalar c ≡ true → scalars (take_while is_xml_character cs) ≡ true → scalars (cond b (c ∷ take_while is_xml_character cs) []) ≡ true
        by_test true x y = rw (x, y) refl
        by_test false x y = refl

    utf8_front : (cs : List ℕ) → scalars cs ≡ true → IsUtf8 (encodes (take_while is_xml_character cs))
    utf8_front cs h = (take_while is_xml_character cs, (scalars_front cs h, refl))

pub boundary_at : (s : Text) (n : ℕ) → IsUtf8 s → n ≡ front_len s → IsCharBoundary s n
boundary_at s n u e = rw e (front-boundary s u)

step : (t u : Text) (b : ℕ) → t ≡ b ∷ u → starts_bad t ≡ false → front_len t ≡ suc (front_len u)
step t u b e h =
    let bad : starts_bad (b ∷ u) ≡ false = sym (ap starts_bad e) ∙ h in
    ap front_len e ∙ rw bad refl

pub front-step : (s : Text) (n : ℕ) → n < length s → starts_bad (drop n s) ≡ false → front_len (drop n s) ≡ suc (front_len (drop (n + 1) s))
front-step s n lt h = step (drop n s) (drop (n + 1) s) (get_or s n 0) (rw add-one (drop-cons s n 0 lt)) h

-- ---- many bytes at once

pub clear_good : (b : ℕ) (s : Text) → is_clear b ≡ true → starts_bad (b ∷ s) ≡ false
clear_good b s h = tests (nat_lt b 32 && not (is_blank b)) (b == 239) (slice_index s 0 == 191 && nat_le 190 (slice_index s 1)) h
  where
    tests : (x y z : Bool) → not (x || y) ≡ true → (x || (y && z)) ≡ false
    tests true y z e = cc
    tests false true z e = cc
    tests false false z e = refl

clear_run : (s : Text) (n : ℕ) → n ≤ length s → list_all is_clear (take n s) ≡ true → front_len s ≡ n + front_len (drop n s)
clear_run s zero le h = omega arith
clear_run [] (suc n) le h = absurd (omega arith)
clear_run (b ∷ s) (suc n) le h =
    let parts = and_parts (is_clear b) (list_all is_clear (take n s)) h in
    let more = clear_run s n (omega arith) parts.1 in
    let here : front_len (b ∷ s) ≡ suc (front_len s) = rw (clear_good b s parts.0) refl in
    omega (arith, here, more)

pub clear_chunk : (s : Text) (from end : ℕ) → from ≤ end → end ≤ length s → list_all is_clear (take (end - from) (drop from s)) ≡ true → end + front_len (drop end s) ≡ from + front_len (drop from s)
clear_chunk s from end low high h =
    let size : length (drop from s) ≡ length s - from = length-drop from s in
    let run = clear_run (drop from s) (end - from) (omega (arith, size)) h in
    let rest : drop (end - from) (drop from s) ≡ drop (from + (end - from)) s = drop-drop (end - from) from s in
    let at : from + (end - from) ≡ end = omega arith in
    let behind : front_len (drop (end - from) (drop from s)) ≡ front_len (drop end s) = ap front_len (rest ∙ ap (λ n. drop n s) at) in
    omega (arith, run, behind)
