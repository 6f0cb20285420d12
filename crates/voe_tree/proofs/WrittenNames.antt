-- Names with a prefix and without, and the prefixes with numbers.
use Rattle.std.proofs.Common.{◌≡◌, ℕ, ◌+◌, ◌<◌, ◌≤◌, ◌^◌, suc, Bool, true, false, [], ◌∷◌, ◌++◌, length, take, drop, refl, ◌∙◌, ap, subst, arith, add-one, one-add, length-append}
use Rattle.std.specs.Prelude.{◌&&◌, nat_lt, if◌then◌else◌, decimal}
use Rattle.std.specs.List.{before_first, after_first, list_all, position_or_len}
use Rattle.std.specs.Str.Parse.{AllDigits}
use Rattle.std.proofs.Math.Seq.{take-append_seam}
use Rattle.std.proofs.lemmas.Bool.{and_parts, and_from, both_ways, eqb-true, le-ltb, lt-ltb}
use Rattle.std.proofs.lemmas.Bool.Decides.{nat_tests}
use Rattle.std.proofs.lemmas.Fmt.{decimal_is_IsNumeral}
use Rattle.std.proofs.lemmas.Str.Parse.{digit_from_value}
use Rattle.std.proofs.lemmas.Slice.Eq.{bytes_eq-Decides}
use Rattle.xml_lexer.specs.Characters.{Text, has_prefix, is_colon, is_name, is_name_byte, is_spelled_name}
use Rattle.xml_lexer.specs.Spelling.{same}
use Rattle.voe_tree.specs.Names.{prefix_of, local_of}

-- ---- equal texts

pub same-is : (s t : Text) → same s t ≡ true → s ≡ t
same-is s t = (bytes_eq-Decides s t).0

pub is-same : (s t : Text) → s ≡ t → same s t ≡ true
is-same s t = (bytes_eq-Decides s t).1

-- ---- colons

not_colon : (x : ℕ) → is_name_byte x ≡ true → is_colon x ≡ false
not_colon x h =
    let both : (t : Bool) → is_colon x ≡ t → is_colon x ≡ false =
    λ t. elim t as (λ u. is_colon x ≡ u → is_colon x ≡ false)
    [ true ↦ λ e. absurd (both_ways (is_name_byte 58) refl (subst (λ y. is_name_byte y ≡ true) (eqb-true x 58 e) h)) | false ↦ λ e. e ] in
    both (is_colon x) refl

position-no : (x : ℕ) (xs : Text) → is_colon x ≡ false → position_or_len is_colon (x ∷ xs) ≡ suc (position_or_len is_colon xs)
position-no x xs h = rw h (one-add (position_or_len is_colon xs))

pub colon_behind : (p l : Text) → list_all is_name_byte p ≡ true → position_or_len is_colon (p ++ 58 ∷ l) ≡ length p
colon_behind [] l h = refl
colon_behind (x ∷ p) l h =
    let parts = and_parts (is_name_byte x) (list_all is_name_byte p) h in
    position-no x (p ++ 58 ∷ l) (not_colon x parts.0) ∙ ap (λ n. suc n) (colon_behind p l parts.1)

pub no_colon : (l : Text) → list_all is_name_byte l ≡ true → position_or_len is_colon l ≡ length l
no_colon [] h = refl
no_colon (x ∷ l) h =
    let parts = and_parts (is_name_byte x) (list_all is_name_byte l) h in
    position-no x l (not_colon x parts.0) ∙ ap (λ n. suc n) (no_colon l parts.1)

pub name_bytes : (s : Text) → is_name s ≡ true → list_all is_name_byte s ≡ true
name_bytes s h = (and_parts _ (list_all is_name_byte s) h).1

-- ---- names without a prefix

pub alone-has : (l : Text) → is_name l ≡ true → has_prefix l ≡ false
alone-has l h = ap (λ n. nat_lt n (length l)) (no_colon l (name_bytes l h)) ∙ le-ltb (length l) (length l) (omega arith)

pub alone-spelled : (l : Text) → is_name l ≡ true → is_spelled_name l ≡ true
alone-spelled l h = ap (λ b. if b then is_name (before_first is_colon l) && is_name (after_first is_colon l) else is_name l) (alone-has l h) ∙ h

pub alone-prefix : (l : Text) → is_name l ≡ true → prefix_of l ≡ []
alone-prefix l h = ap (λ b. if b then before_first is_colon l else []) (alone-has l h)

pub alone-local : (l : Text) → is_name l ≡ true → local_of l ≡ l
alone-local l h = ap (λ b. if b then after_first is_colon l else l) (alone-has l h)

-- ---- names with a prefix

pub with-has : (p l : Text) → is_name p ≡ true → has_prefix (p ++ 58 ∷ l) ≡ true
with-has p l h =
    ap (λ n. nat_lt n (length (p ++ 58 ∷ l))) (colon_behind p l (name_bytes p h))
    ∙ lt-ltb (length p) (length (p ++ 58 ∷ l)) (omega (arith, length-append p (58 ∷ l)))

before_colon : (p l : Text) → is_name p ≡ true → before_first is_colon (p ++ 58 ∷ l) ≡ p
before_colon p l h = ap (λ n. take n (p ++ 58 ∷ l)) (colon_behind p l (name_bytes p h)) ∙ take-append_seam p (58 ∷ l)

drop_behind : (p l : Text) → drop (suc (length p)) (p ++ 58 ∷ l) ≡ l
drop_behind [] l = refl
drop_behind (x ∷ p) l = drop_behind p l

after_colon : (p l : Text) → is_name p ≡ true → after_first is_colon (p ++ 58 ∷ l) ≡ l
after_colon p l h =
    ap (λ n. drop (n + 1) (p ++ 58 ∷ l)) (colon_behind p l (name_bytes p h)) ∙ ap (λ n. drop n (p ++ 58 ∷ l)) (add-one (length p)) ∙ drop_behind p l

pub with-spelled : (p l : Text) → is_name p ≡ true → is_name l ≡ true → is_spelled_name (p ++ 58 ∷ l) ≡ true
with-spelled p l h k =
    ap (λ b. if b then is_name (before_first is_colon (p ++ 58 ∷ l)) && is_name (after_first is_colon (p ++ 58 ∷ l)) else is_name (p ++ 58 ∷ l)) (with-has p l h)
    ∙ and_from (is_name (before_first is_colon (p ++ 58 ∷ l))) (is_name (after_first is_colon (p ++ 58 ∷ l)))
    (ap is_name (before_colon p l h) ∙ h) (ap is_name (after_colon p l h) ∙ k)

pub with-prefix : (p l : Text) → is_name p ≡ true → prefix_of (p ++ 58 ∷ l) ≡ p
with-prefix p l h = ap (λ b. if b then before_first is_colon (p ++ 58 ∷ l) else []) (with-has p l h) ∙ before_colon p l h

pub with-local : (p l : Text) → is_name p ≡ true → local_of (p ++ 58 ∷ l) ≡ l
with-local p l h = ap (λ b. if b then after_first is_colon (p ++ 58 ∷ l) else p ++ 58 ∷ l) (with-has p l h) ∙ after_colon p l h

-- ---- numbers

digit_byte : (c : ℕ) → 48 ≤ c → c ≤ 57 → is_name_byte c ≡ true
digit_byte c low high = grind (arith, nat_tests)

digit_bytes : (s : Text) → AllDigits 10 s → list_all is_name_byte s ≡ true
digit_bytes [] h = refl
digit_bytes (c ∷ s) h =
    let range = digit_from_value c h.0 in
    and_from (is_name_byte c) (list_all is_name_byte s) (digit_byte c range.0 range.1) (digit_bytes s h.1)

-- the prefix with that number
abbrev pub number_prefix : ℕ → Text
number_prefix n = 97 ∷ decimal n

pub number_prefix-name : (n : ℕ) → n < 2 ^ 64 → is_name (number_prefix n) ≡ true
number_prefix-name n h = digit_bytes (decimal n) (decimal_is_IsNumeral n h).0.1
