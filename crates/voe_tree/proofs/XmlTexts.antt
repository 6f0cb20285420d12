-- Texts of XML characters: their pieces, and what is put together of them.
use Rattle.std.proofs.Common.{◌≡◌, ◌+◌, ◌<◌, ◌≤◌, ◌⊎◌, ℕ, zero, suc, Bool, true, false, cond, [], ◌∷◌, ◌++◌, Option, Some, None, length, take, drop, get_or, refl, sym, ◌∙◌, ap, arith, inl, inr, lit<, add-one, append-nil, length-append, length-drop}
use Rattle.std.specs.Prelude.{◌&&◌, ◌||◌, ◌==◌, not, nat_lt, slice_index, unwrap_or, codes}
use Rattle.std.specs.List.{list_all, before_first, after_first, position_or_len, prefix_len}
use Rattle.std.specs.Str.{IsUtf8, is_utf8, chars, IsCharBoundary}
use Rattle.std.specs.Char.{encode_utf8}
use Rattle.std.proofs.lemmas.Bool.Decides.{nat_tests}
use Rattle.std.proofs.lemmas.List.Folds.{list_all-append}
use Rattle.std.proofs.lemmas.List.Sums.{split_at_first, prefix_len-le-length, prefix_len_stops}
use Rattle.std.proofs.lemmas.Str.{encode_ascii, IsUtf8-nil, IsUtf8-from_is_utf8, is_utf8-from_IsUtf8, IsUtf8-append, IsUtf8-drop, IsUtf8-take, chars-append, chars-nil, chars-encodes, IsCharBoundary-before_ascii, IsCharBoundary-after_ascii}
use Rattle.std.proofs.lemmas.List.{drop_all}
use Rattle.std.specs.List.{starts_with}
use Rattle.std.specs.Prelude.{nat_eq}
use Rattle.std.specs.Char.{is_ascii_digit, is_ascii_hexdigit}
use Rattle.std.specs.Str.Parse.{digits_value}
use Rattle.std.proofs.Math.Nat.{eq-or-lt_of_le}
use Rattle.std.proofs.lemmas.List.{take-append-drop}
use Rattle.std.proofs.Math.Seq.{take-append_seam, drop-append_seam, get_or-append_seam, drop-length, take-length, drop-cons}
use lib.Utf8.{scalar, scalars}
use Rattle.xml_lexer.specs.Characters.{Text, is_xml_character, is_colon}
use Rattle.xml_lexer.specs.Spelling.{named_character, character, same, in_digits}
use Rattle.voe_tree.specs.Texts.{is_xml_text}
use Rattle.voe_tree.specs.Build.{is_return, behind_return, with_line_feeds}
use Rattle.voe_tree.specs.Names.{is_semicolon, is_plain_byte, value_text}
use Rattle.voe_tree.proofs.ValueLaws.{with_line_feeds-none, with_line_feeds-first, value_text-reference, value_text-plain, special_is_small}

pub and_left : (a b : Bool) → (a && b) ≡ true → a ≡ true
and_left true b h = refl
and_left false b h = cc

pub and_right : (a b : Bool) → (a && b) ≡ true → b ≡ true
and_right true b h = h
and_right false b h = cc

pub and_both : (a b : Bool) → a ≡ true → b ≡ true → (a && b) ≡ true
and_both a b h k = rw (h, k) refl

xml_utf8 : (s : Text) → is_xml_text s ≡ true → IsUtf8 s
xml_utf8 s h = IsUtf8-from_is_utf8 s (and_left (is_utf8 s) (list_all is_xml_character (chars s)) h)

xml_chars : (s : Text) → is_xml_text s ≡ true → list_all is_xml_character (chars s) ≡ true
xml_chars s h = and_right (is_utf8 s) (list_all is_xml_character (chars s)) h

pub make_xml : (s : Text) → IsUtf8 s → list_all is_xml_character (chars s) ≡ true → is_xml_text s ≡ true
make_xml s u h = and_both (is_utf8 s) (list_all is_xml_character (chars s)) (is_utf8-from_IsUtf8 s u) h

pub xml-nil : is_xml_text [] ≡ true
xml-nil = make_xml [] IsUtf8-nil (ap (list_all is_xml_character) chars-nil)

pub xml-append : (a b : Text) → is_xml_text a ≡ true → is_xml_text b ≡ true → is_xml_text (a ++ b) ≡ true
xml-append a b h k =
    make_xml (a ++ b) (IsUtf8-append a b (xml_utf8 a h) (xml_utf8 b k))
    (ap (list_all is_xml_character) (chars-append a b (xml_utf8 a h)) ∙ list_all-append is_xml_character (chars a) (chars b)
    ∙ and_both (list_all is_xml_character (chars a)) (list_all is_xml_character (chars b)) (xml_chars a h) (xml_chars b k))

xml-pieces : (a b : Text) → is_xml_text (a ++ b) ≡ true → IsUtf8 a → IsUtf8 b → (is_xml_text a ≡ true) × (is_xml_text b ≡ true)
xml-pieces a b h u v =
    let both : (list_all is_xml_character (chars a) && list_all is_xml_character (chars b)) ≡ true =
    sym (list_all-append is_xml_character (chars a) (chars b)) ∙ ap (list_all is_xml_character) (sym (chars-append a b u)) ∙ xml_chars (a ++ b) h in (
      make_xml a u (and_left (list_all is_xml_character (chars a)) (list_all is_xml_character (chars b)) both),
      make_xml b v (and_right (list_all is_xml_character (chars a)) (list_all is_xml_character (chars b)) both),
    )

-- the first byte of a text is ASCII
pub xml-behind : (c : ℕ) (b : Text) → c < 128 → is_xml_text (c ∷ b) ≡ true → is_xml_text b ≡ true
xml-behind c b small h =
    let u = xml_utf8 (c ∷ b) h in
    let at : IsCharBoundary (c ∷ b) 1 = IsCharBoundary-after_ascii (c ∷ b) 0 u (omega arith) small in
    (xml-pieces (c ∷ []) b h (IsUtf8-take (c ∷ b) 1 u at) (IsUtf8-drop (c ∷ b) 1 u at)).1

-- what stands behind an ASCII byte is a text
pub utf8-behind : (front : Text) (c : ℕ) (b : Text) → c < 128 → IsUtf8 (front ++ c ∷ b) → IsUtf8 b
utf8-behind front c b small u =
    let within : length front < length (front ++ c ∷ b) = simp length-append (omega arith) in
    let byte : get_or (front ++ c ∷ b) (length front) 0 < 128 = rw (get_or-append_seam front c b 0) small in
    let at = IsCharBoundary-before_ascii (front ++ c ∷ b) (length front) within byte in
    let back : IsUtf8 (c ∷ b) = rw drop-append_seam at (IsUtf8-drop (front ++ c ∷ b) (length front) u at) in
    IsUtf8-drop (c ∷ b) 1 back (IsCharBoundary-after_ascii (c ∷ b) 0 back (omega arith) small)

-- An ASCII byte parts a text.
pub xml-around : (a : Text) (c : ℕ) (b : Text) → c < 128 → is_xml_text (a ++ c ∷ b) ≡ true → (is_xml_text a ≡ true) × (is_xml_text b ≡ true) × (is_xml_text (c ∷ b) ≡ true)
xml-around a c b small h =
    let u = xml_utf8 (a ++ c ∷ b) h in
    let within : length a < length (a ++ c ∷ b) = simp length-append (omega arith) in
    let byte : get_or (a ++ c ∷ b) (length a) 0 < 128 = rw (get_or-append_seam a c b 0) small in
    let at = IsCharBoundary-before_ascii (a ++ c ∷ b) (length a) within byte in
    let front : IsUtf8 a = rw take-append_seam at (IsUtf8-take (a ++ c ∷ b) (length a) u at) in
    let back : IsUtf8 (c ∷ b) = rw drop-append_seam at (IsUtf8-drop (a ++ c ∷ b) (length a) u at) in
    let parts = xml-pieces a (c ∷ b) h front back in
    (parts.0, xml-behind c b small parts.1, parts.1)

scalar_xml : (c : ℕ) → is_xml_character c ≡ true → scalar c ≡ true
scalar_xml c h = grind (arith, nat_tests)

pub xml-encode : (c : ℕ) → is_xml_character c ≡ true → is_xml_text (encode_utf8 c) ≡ true
xml-encode c h =
    let is : scalars (c ∷ []) ≡ true = and_both (scalar c) true (scalar_xml c h) refl in
    let spelled : chars (encode_utf8 c) ≡ c ∷ [] = ap chars (sym (append-nil (encode_utf8 c))) ∙ chars-encodes (c ∷ []) is in
    make_xml (encode_utf8 c) (c ∷ [], (is, append-nil (encode_utf8 c))) (ap (list_all is_xml_character) spelled ∙ and_both (is_xml_character c) true h refl)

-- one ASCII character
xml-ascii : (c : ℕ) → c < 128 → is_xml_character c ≡ true → is_xml_text (c ∷ []) ≡ true
xml-ascii c small h = ap is_xml_text (sym (encode_ascii c small)) ∙ xml-encode c h

xml-space : (t : Text) → is_xml_text t ≡ true → is_xml_text (32 ∷ t) ≡ true
xml-space t h = xml-append (32 ∷ []) t (xml-ascii 32 (lit< tt) refl) h

xml-feed : (t : Text) → is_xml_text t ≡ true → is_xml_text (10 ∷ t) ≡ true
xml-feed t h = xml-append (10 ∷ []) t (xml-ascii 10 (lit< tt) refl) h

abbrev pub is_ascii_xml : ℕ → Bool
is_ascii_xml b = nat_lt b 128 && is_xml_character b

ascii_small : (b : ℕ) → nat_lt b 128 ≡ true → b < 128
ascii_small b h = grind (arith, nat_tests)

pub xml-all_ascii : (s : Text) → list_all is_ascii_xml s ≡ true → is_xml_text s ≡ true
xml-all_ascii [] h = xml-nil
xml-all_ascii (b ∷ s) h =
    let here = and_left (is_ascii_xml b) (list_all is_ascii_xml s) h in
    xml-append (b ∷ []) s (xml-ascii b (ascii_small b (and_left (nat_lt b 128) (is_xml_character b) here)) (and_right (nat_lt b 128) (is_xml_character b) here))
    (xml-all_ascii s (and_right (is_ascii_xml b) (list_all is_ascii_xml s) h))

-- ---- parts at the first of some ASCII bytes

module _ (p : ℕ → Bool) (small : (b : ℕ) → p b ≡ true → b < 128) where
  pub xml-first : (s : Text) → position_or_len p s < length s → p (get_or s (position_or_len p s) 0) ≡ true → is_xml_text s ≡ true →
      (is_xml_text (before_first p s) ≡ true) × (is_xml_text (after_first p s) ≡ true)
  xml-first s lt passes h =
      let whole = split_at_first p s 0 lt in
      let parts = xml-around (before_first p s) (get_or s (position_or_len p s) 0) (after_first p s) (small _ passes) (ap is_xml_text (sym whole) ∙ h) in
      (parts.0, parts.1)

-- ---- runs and values

return_small : (b : ℕ) → is_return b ≡ true → b < 128
return_small b h = grind (arith, nat_tests)

semicolon_small : (b : ℕ) → is_semicolon b ≡ true → b < 128
semicolon_small b h = grind (arith, nat_tests)

pub colon_small : (b : ℕ) → is_colon b ≡ true → b < 128
colon_small b h = grind (arith, nat_tests)

not_not : (b : Bool) → not b ≡ false → b ≡ true
not_not true h = refl
not_not false h = cc

passes_first : (p : ℕ → Bool) (s : Text) → position_or_len p s < length s → p (get_or s (position_or_len p s) 0) ≡ true
passes_first p s lt = not_not _ (prefix_len_stops (λ x. not (p x)) s 0 lt)

after-shorter : (p : ℕ → Bool) (s : Text) (n : ℕ) → position_or_len p s < length s → length s ≤ suc n → length (after_first p s) ≤ n
after-shorter p s n lt l = simp length-drop (omega arith)

return_xml : (t : Text) → is_xml_text (with_line_feeds t) ≡ true → is_xml_text (behind_return t) ≡ true
return_xml t r = elim (slice_index t 0 == 10) as (λ b. is_xml_text (cond b (with_line_feeds t) (10 ∷ with_line_feeds t)) ≡ true) [ true ↦ r | false ↦ xml-feed (with_line_feeds t) r ]

run_step : (n : ℕ) (s : Text) → ((t : Text) → length t ≤ n → is_xml_text t ≡ true → is_xml_text (with_line_feeds t) ≡ true) → length s ≤ suc n → is_xml_text s ≡ true →
    (position_or_len is_return s ≡ length s) ⊎ (position_or_len is_return s < length s) → is_xml_text (with_line_feeds s) ≡ true
run_step n s further l h (inl e) = ap is_xml_text (with_line_feeds-none s e) ∙ h
run_step n s further l h (inr lt) =
    let parts = xml-first is_return return_small s lt (passes_first is_return s lt) h in
    let shorter = after-shorter is_return s n lt l in
    ap is_xml_text (with_line_feeds-first s lt)
    ∙ xml-append (before_first is_return s) (behind_return (after_first is_return s)) parts.0
    (return_xml (after_first is_return s) (further (after_first is_return s) shorter parts.1))

empty_run : (s : Text) → length s ≤ 0 → is_xml_text (with_line_feeds s) ≡ true
empty_run [] l = xml-nil
empty_run (x ∷ s) l = absurd (omega arith)

-- a run of XML characters reads as such a text
xml-run_within : (n : ℕ) (s : Text) → length s ≤ n → is_xml_text s ≡ true → is_xml_text (with_line_feeds s) ≡ true
xml-run_within zero s l h = empty_run s l
xml-run_within (suc n) s l h =
    run_step n s (λ t k x. xml-run_within n t k x) l h (eq-or-lt_of_le (prefix_len-le-length (λ b. not (is_return b)) s))

pub xml-run : (s : Text) → is_xml_text s ≡ true → is_xml_text (with_line_feeds s) ≡ true
xml-run s h = xml-run_within (length s) s (omega arith) h

character_case : (c : ℕ) (b : Bool) → is_xml_character c ≡ b → is_xml_character (unwrap_or (cond b (Some c) None) 32) ≡ true
character_case c true e = e
character_case c false e = refl

digits_xml : (base : ℕ) (is_digit : ℕ → Bool) (s : Text) → is_xml_character (unwrap_or (in_digits base is_digit s) 32) ≡ true
digits_xml base is_digit [] = refl
digits_xml base is_digit (d ∷ ds) =
    elim (list_all is_digit (d ∷ ds)) as (λ b. is_xml_character (unwrap_or (cond b (character (digits_value base (d ∷ ds))) None) 32) ≡ true)
    [ true ↦ character_case (digits_value base (d ∷ ds)) (is_xml_character (digits_value base (d ∷ ds))) refl | false ↦ refl ]

name_cases : (a b c d e x y : Bool) (hex dec : Option ℕ) → is_xml_character (unwrap_or hex 32) ≡ true → is_xml_character (unwrap_or dec 32) ≡ true →
    is_xml_character (unwrap_or (cond a (Some 60) (cond b (Some 62) (cond c (Some 38) (cond d (Some 39) (cond e (Some 34) (cond x hex (cond y dec None))))))) 32) ≡ true
name_cases true b c d e x y hex dec h k = refl
name_cases false true c d e x y hex dec h k = refl
name_cases false false true d e x y hex dec h k = refl
name_cases false false false true e x y hex dec h k = refl
name_cases false false false false true x y hex dec h k = refl
name_cases false false false false false true y hex dec h k = h
name_cases false false false false false false true hex dec h k = k
name_cases false false false false false false false hex dec h k = refl

-- a reference names an XML character
pub named_xml : (body : Text) → is_xml_character (unwrap_or (named_character body) 32) ≡ true
named_xml body = name_cases (same body (codes "lt")) (same body (codes "gt")) (same body (codes "amp")) (same body (codes "apos")) (same body (codes "quot"))
    (starts_with nat_eq body (codes "#x")) (starts_with nat_eq body (codes "#")) (in_digits 16 is_ascii_hexdigit (drop 2 body)) (in_digits 10 is_ascii_digit (drop 1 body))
    (digits_xml 16 is_ascii_hexdigit (drop 2 body)) (digits_xml 10 is_ascii_digit (drop 1 body))

left_cases : (p : ℕ → Bool) (small : (b : ℕ) → p b ≡ true → b < 128) (s : Text) → is_xml_text s ≡ true →
    (position_or_len p s ≡ length s) ⊎ (position_or_len p s < length s) → is_xml_text (after_first p s) ≡ true
left_cases p small s h (inl e) = let none : after_first p s ≡ [] = drop_all (position_or_len p s + 1) s (omega arith) in ap is_xml_text none ∙ xml-nil
left_cases p small s h (inr lt) = (xml-first p small s lt (passes_first p s lt) h).1

pub xml-left : (p : ℕ → Bool) (small : (b : ℕ) → p b ≡ true → b < 128) (s : Text) → is_xml_text s ≡ true → is_xml_text (after_first p s) ≡ true
xml-left p small s h = left_cases p small s h (eq-or-lt_of_le (prefix_len-le-length (λ b. not (p b)) s))

after-no_longer : (p : ℕ → Bool) (s : Text) → length (after_first p s) ≤ length s
after-no_longer p s = simp length-drop (omega arith)

special_cases : (y : ℕ) (rest : Text) → is_xml_text (value_text false rest) ≡ true → is_xml_text (value_text true rest) ≡ true →
    (a b c d e : Bool) → not (a || b || c || d) ≡ false →
    is_xml_text (cond a (encode_utf8 (unwrap_or (named_character (before_first is_semicolon rest)) 32) ++ value_text true rest)
    (cond (d && e) (value_text false rest) (cond (b || c || d) 32 y ∷ value_text false rest))) ≡ true
special_cases y rest h k true b c d e s =
    xml-append (encode_utf8 (unwrap_or (named_character (before_first is_semicolon rest)) 32)) (value_text true rest)
    (xml-encode (unwrap_or (named_character (before_first is_semicolon rest)) 32) (named_xml (before_first is_semicolon rest))) k
special_cases y rest h k false b c true true s = h
special_cases y rest h k false true c true false s = xml-space (value_text false rest) h
special_cases y rest h k false true c false e s = xml-space (value_text false rest) h
special_cases y rest h k false false true true false s = xml-space (value_text false rest) h
special_cases y rest h k false false true false e s = xml-space (value_text false rest) h
special_cases y rest h k false false false true false s = xml-space (value_text false rest) h
special_cases y rest h k false false false false e s = cc

-- what a byte that does not stand for itself reads as, before the rest of a value
special_xml : (y : ℕ) (rest : Text) → is_plain_byte y ≡ false → is_xml_text (value_text false rest) ≡ true → is_xml_text (value_text true rest) ≡ true →
    is_xml_text (value_text false (y ∷ rest)) ≡ true
special_xml y rest special h k = special_cases y rest h k (y == 38) (y == 9) (y == 10) (y == 13) (slice_index rest 0 == 10) special

value_step : (n : ℕ) (s : Text) → ((t : Text) → length t ≤ n → is_xml_text t ≡ true → is_xml_text (value_text false t) ≡ true) → length s ≤ suc n → is_xml_text s ≡ true →
    (prefix_len is_plain_byte s ≡ length s) ⊎ (prefix_len is_plain_byte s < length s) → is_xml_text (value_text false s) ≡ true
value_step n s further l h (inl e) =
    let plain : value_text false s ≡ s = value_text-plain s ∙ rw e (rw (take-length, drop-length) (append-nil s)) in
    ap is_xml_text plain ∙ h
value_step n s further l h (inr lt) =
    let y = get_or s (prefix_len is_plain_byte s) 0 in
    let rest = drop (prefix_len is_plain_byte s + 1) s in
    let split : drop (prefix_len is_plain_byte s) s ≡ y ∷ rest = rw add-one (drop-cons s (prefix_len is_plain_byte s) 0 lt) in
    let special : is_plain_byte y ≡ false = prefix_len_stops is_plain_byte s 0 lt in
    let whole : take (prefix_len is_plain_byte s) s ++ (y ∷ rest) ≡ s = ap (λ l. take (prefix_len is_plain_byte s) s ++ l) (sym split) ∙ take-append-drop (prefix_len is_plain_byte s) s in
    let parts = xml-around (take (prefix_len is_plain_byte s) s) y rest (special_is_small y special) (ap is_xml_text whole ∙ h) in
    let short : length rest ≤ n = simp length-drop (omega arith) in
    let left = after_first is_semicolon rest in
    let short_left : length left ≤ n = (let m = after-no_longer is_semicolon rest in omega arith) in
    let reads_left : is_xml_text (value_text true rest) ≡ true =
    ap is_xml_text (value_text-reference rest) ∙ further left short_left (xml-left is_semicolon semicolon_small rest parts.1) in
    ap is_xml_text (value_text-plain s ∙ ap (λ l. take (prefix_len is_plain_byte s) s ++ value_text false l) split)
    ∙ xml-append (take (prefix_len is_plain_byte s) s) (value_text false (y ∷ rest)) parts.0
    (special_xml y rest special (further rest short parts.1) reads_left)

empty_value : (s : Text) → length s ≤ 0 → is_xml_text (value_text false s) ≡ true
empty_value [] l = xml-nil
empty_value (x ∷ s) l = absurd (omega arith)

-- a value of XML characters reads as such a text
xml-value_within : (n : ℕ) (s : Text) → length s ≤ n → is_xml_text s ≡ true → is_xml_text (value_text false s) ≡ true
xml-value_within zero s l h = empty_value s l
xml-value_within (suc n) s l h = value_step n s (λ t k x. xml-value_within n t k x) l h (eq-or-lt_of_le (prefix_len-le-length is_plain_byte s))

pub xml-value : (s : Text) → is_xml_text s ≡ true → is_xml_text (value_text false s) ≡ true
xml-value s h = xml-value_within (length s) s (omega arith) h
