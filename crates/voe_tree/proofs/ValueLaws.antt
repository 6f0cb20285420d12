-- What runs and values read as, by the bytes that do not stand for themselves.
use Rattle.std.proofs.Common.{◌≡◌, ◌+◌, ◌<◌, ℕ, suc, Bool, true, false, [], ◌∷◌, ◌++◌, length, take, drop, refl, sym, ◌∙◌, ap, arith, add-one, one-add, append_assoc, append-nil}
use Rattle.std.specs.Prelude.{◌==◌, not, ◌||◌, ◌&&◌, slice_index, unwrap_or, if◌then◌else◌}
use Rattle.std.specs.List.{before_first, after_first, position_or_len, prefix_len}
use Rattle.std.specs.Char.{encode_utf8}
use Rattle.xml_lexer.specs.Spelling.{named_character}
use Rattle.xml_lexer.specs.Characters.{Text}
use Rattle.std.specs.Prelude.{Option, Some, None, IfNone, IfSome}
use Rattle.std.specs.Borrow.{Bor}
use Rattle.std.proofs.Common.{lit<}
use Rattle.std.proofs.lemmas.List.{drop_all}
use Rattle.std.proofs.lemmas.Bool.Decides.{nat_tests}
use Rattle.std.proofs.lemmas.Str.{IsCharBoundary-after_ascii}
use Rattle.std.specs.Str.{IsUtf8, IsCharBoundary}
use Rattle.std.proofs.lemmas.Str.Pattern.{IsSplitOnceResult, split_once_first}
use Rattle.voe_tree.specs.Build.{is_return, behind_return, with_line_feeds}
use Rattle.voe_tree.specs.Names.{is_semicolon, is_plain_byte, value_text}

position-no : (p : ℕ → Bool) (x : ℕ) (xs : Text) → p x ≡ false → position_or_len p (x ∷ xs) ≡ suc (position_or_len p xs)
position-no p x xs h = rw h (one-add (position_or_len p xs))

before-no : (p : ℕ → Bool) (x : ℕ) (xs : Text) → p x ≡ false → before_first p (x ∷ xs) ≡ x ∷ before_first p xs
before-no p x xs h = ap (λ n. take n (x ∷ xs)) (position-no p x xs h)

after-no : (p : ℕ → Bool) (x : ℕ) (xs : Text) → p x ≡ false → after_first p (x ∷ xs) ≡ after_first p xs
after-no p x xs h = rw (position-no p x xs h, add-one, add-one) refl

suc_same : (m n : ℕ) → suc m ≡ suc n → m ≡ n
suc_same m n h = omega arith

-- ---- runs

-- a run without CR reads as it stands
pub with_line_feeds-none : (s : Text) → position_or_len is_return s ≡ length s → with_line_feeds s ≡ s
with_line_feeds-none [] h = refl
with_line_feeds-none (x ∷ s) h =
    let both : (t : Bool) → is_return x ≡ t → with_line_feeds (x ∷ s) ≡ x ∷ s =
    λ t. elim t as (λ u. is_return x ≡ u → with_line_feeds (x ∷ s) ≡ x ∷ s) [
      | true ↦ λ e. absurd (let zero_here : position_or_len is_return (x ∷ s) ≡ 0 = rw e refl in omega (arith, h, zero_here))
      | false ↦ λ e. let more : position_or_len is_return s ≡ length s = suc_same _ _ (sym (position-no is_return x s e) ∙ h) in
          rw e (ap (λ l. x ∷ l) (with_line_feeds-none s more))
    ] in
    both (is_return x) refl

-- a run reads as what stands before its first CR, and what follows
pub with_line_feeds-first : (s : Text) → position_or_len is_return s < length s → with_line_feeds s ≡ before_first is_return s ++ behind_return (after_first is_return s)
with_line_feeds-first [] h = absurd (omega arith)
with_line_feeds-first (x ∷ s) h =
    let both : (t : Bool) → is_return x ≡ t → with_line_feeds (x ∷ s) ≡ before_first is_return (x ∷ s) ++ behind_return (after_first is_return (x ∷ s)) =
    λ t. elim t as (λ u. is_return x ≡ u → with_line_feeds (x ∷ s) ≡ before_first is_return (x ∷ s) ++ behind_return (after_first is_return (x ∷ s))) [
      | true ↦ λ e. rw e refl
      | false ↦ λ e. let more : position_or_len is_return s < length s = (let here = position-no is_return x s e in omega (arith, h, here)) in
          rw (before-no is_return x s e, after-no is_return x s e, e) (ap (λ l. x ∷ l) (with_line_feeds-first s more))
    ] in
    both (is_return x) refl

-- ---- values

-- behind a reference's `&`, a value goes on behind the first semicolon
pub value_text-reference : (s : Text) → value_text true s ≡ value_text false (after_first is_semicolon s)
value_text-reference [] = refl
value_text-reference (x ∷ s) =
    let both : (t : Bool) → is_semicolon x ≡ t → value_text true (x ∷ s) ≡ value_text false (after_first is_semicolon (x ∷ s)) =
    λ t. elim t as (λ u. is_semicolon x ≡ u → value_text true (x ∷ s) ≡ value_text false (after_first is_semicolon (x ∷ s)))
    [ true ↦ λ e. rw e refl | false ↦ λ e. rw (after-no is_semicolon x s e, e) (value_text-reference s) ] in
    both (is_semicolon x) refl

plain_cases : (x : ℕ) (s : Text) (a b c d : Bool) → not (a || b || c || d) ≡ true →
    (if a then encode_utf8 (unwrap_or (named_character (before_first is_semicolon s)) 32) ++ value_text true s
    else (if d && slice_index s 0 == 10 then value_text false s else (if b || c || d then 32 else x) ∷ value_text false s))
    ≡ x ∷ value_text false s
plain_cases x s true b c d e = cc
plain_cases x s false true c d e = cc
plain_cases x s false false true d e = cc
plain_cases x s false false false true e = cc
plain_cases x s false false false false e = refl

reads_plain : (x : ℕ) (s : Text) → is_plain_byte x ≡ true → value_text false (x ∷ s) ≡ x ∷ value_text false s
reads_plain x s e = plain_cases x s (x == 38) (x == 9) (x == 10) (x == 13) e

-- bytes that stand for themselves stay
pub value_text-plain : (s : Text) →
    value_text false s ≡ take (prefix_len is_plain_byte s) s ++ value_text false (drop (prefix_len is_plain_byte s) s)
value_text-plain [] = refl
value_text-plain (x ∷ s) =
    let both : (t : Bool) → is_plain_byte x ≡ t →
    value_text false (x ∷ s) ≡ take (prefix_len is_plain_byte (x ∷ s)) (x ∷ s) ++ value_text false (drop (prefix_len is_plain_byte (x ∷ s)) (x ∷ s)) =
    λ t. elim t as (λ u. is_plain_byte x ≡ u →
    value_text false (x ∷ s) ≡ take (prefix_len is_plain_byte (x ∷ s)) (x ∷ s) ++ value_text false (drop (prefix_len is_plain_byte (x ∷ s)) (x ∷ s)))
    [ true ↦ λ e. rw (e, one-add) (reads_plain x s e ∙ ap (λ l. x ∷ l) (value_text-plain s)) | false ↦ λ e. rw e refl ] in
    both (is_plain_byte x) refl

-- ---- the code's splits

pub split_none : (s : Text) (r : Option (Bor Text × Bor Text)) → IsSplitOnceResult 13 s r → IfNone r (with_line_feeds s ≡ s)
split_none s None h = with_line_feeds-none s (split_once_first 13 s None h (lit< tt))
split_none s (Some x) h = tt

pub split_parts : (s : Text) (r : Option (Bor Text × Bor Text)) → IsSplitOnceResult 13 s r → IfSome r (λ parts. with_line_feeds s ≡ parts.0.now ++ behind_return parts.1.now)
split_parts s None h = tt
split_parts s (Some x) h =
    let parts = split_once_first 13 s (Some x) h (lit< tt) in
    rw (parts.1, parts.2) (with_line_feeds-first s parts.0)

after_none : (s : Text) → position_or_len is_semicolon s ≡ length s → after_first is_semicolon s ≡ []
after_none s h = rw h (drop_all (length s + 1) s (omega arith))

pub split_reference_none : (s : Text) → IsSplitOnceResult 59 s None → value_text true s ≡ []
split_reference_none s h = value_text-reference s ∙ ap (value_text false) (after_none s (split_once_first 59 s None h (lit< tt)))

pub split_reference_some : (s : Text) (x : Bor Text × Bor Text) → IsSplitOnceResult 59 s (Some x) → value_text true s ≡ value_text false x.1.now
split_reference_some s x h = let parts = split_once_first 59 s (Some x) h (lit< tt) in value_text-reference s ∙ ap (value_text false) (sym parts.2)

-- a value that is read up to here, and the front that comes next
pub value_ends : (before plain rest behind now value : Text) → before ++ value_text false rest ≡ value_text false value →
    value_text false rest ≡ plain ++ value_text false behind → now ≡ before ++ plain → behind ≡ [] → now ≡ value_text false value
value_ends before plain rest behind now value reads front is none =
    is ∙ ap (λ l. before ++ l) (sym (append-nil plain) ∙ ap (λ l. plain ++ value_text false l) (sym none) ∙ sym front) ∙ reads

pub value_goes_on : (before plain rest behind now value : Text) → before ++ value_text false rest ≡ value_text false value →
    value_text false rest ≡ plain ++ value_text false behind → now ≡ before ++ plain →
    (special : ℕ) (left next further : Text) → behind ≡ special ∷ left → further ++ value_text false next ≡ now ++ value_text false (special ∷ left) →
    further ++ value_text false next ≡ value_text false value
value_goes_on before plain rest behind now value reads front is special left next further split more =
    more ∙ ap (λ l. now ++ value_text false l) (sym split) ∙ ap (λ l. l ++ value_text false behind) is
    ∙ append_assoc before plain (value_text false behind) ∙ ap (λ l. before ++ l) (sym front) ∙ reads

pub special_is_small : (b : ℕ) → is_plain_byte b ≡ false → b < 128
special_is_small b h = grind (arith, nat_tests)

-- a text may be cut behind its first byte where that is ASCII
pub boundary_at_one : (text : Text) → IsUtf8 text → 0 < length text → is_plain_byte (slice_index text 0) ≡ false → IsCharBoundary text 1
boundary_at_one text utf8 some special = IsCharBoundary-after_ascii text 0 utf8 some (special_is_small _ special)

pub plain_reads : (rest bytes plain behind : Text) (n : ℕ) → bytes ≡ rest → n ≡ prefix_len is_plain_byte bytes → plain ≡ take n rest → behind ≡ drop n rest →
    value_text false rest ≡ plain ++ value_text false behind
plain_reads rest bytes plain behind n same counted front back = rw (front, back, counted, same) (value_text-plain rest)
