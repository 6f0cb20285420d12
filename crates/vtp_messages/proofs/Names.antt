-- An end name can be written, and none of it is lost as it is read.
use Rattle.std.proofs.Common.{◌≡◌, ℕ, ◌-◌, ◌<◌, suc, true, false, List, [], ◌∷◌, ◌++◌, length, drop, take, get_or, refl, sym, ◌∙◌, ap, inl, inr, arith}
use Rattle.std.specs.Prelude.{◌&&◌, nat_le, nat_lt}
use Rattle.std.specs.List.{list_all, prefix_len, suffix_len}
use Rattle.std.specs.Str.{IsUtf8, chars, is_utf8}
use Rattle.std.proofs.lemmas.Bool.{and_from, and_parts, both_ways, cases_Bool, cases_lt, lt-ltb}
use Rattle.std.proofs.lemmas.Bool.Decides.{nat_tests}
use Rattle.std.proofs.lemmas.List.{take-append-drop}
use Rattle.std.proofs.lemmas.List.Folds.{list_all-append}
use Rattle.std.proofs.lemmas.List.Sums.{prefix_len_passes, prefix_len-le-length, suffix_len-take_no}
use Rattle.std.proofs.lemmas.Str.{IsUtf8-take, is_utf8-from_IsUtf8, chars-append, IsCharBoundary-before_ascii}
use Rattle.std.proofs.Math.Seq.{drop-cons, take-length}
use Rattle.voe_values.specs.EndName.{is_end_name, is_name_character}
use Rattle.xml_lexer.specs.Characters.{Text, is_blank, is_xml_character}
use Rattle.vtp_messages.specs.Rooted.{IsPlainName}
use Rattle.vtp_messages.proofs.Stripped.{whole}

-- ---- characters

named_is_xml : (c : ℕ) → is_name_character c ≡ true → is_xml_character c ≡ true
named_is_xml c h = grind (arith, nat_tests)

blank_is_small : (b : ℕ) → is_blank b ≡ true → b < 33
blank_is_small b h = grind (arith, nat_tests)

named_is_large : (b : ℕ) → is_name_character b ≡ true → 32 < b
named_is_large b h = grind (arith, nat_tests)

all_xml : (cs : List ℕ) → list_all is_name_character cs ≡ true → list_all is_xml_character cs ≡ true
all_xml [] h = refl
all_xml (c ∷ cs) h =
    let parts = and_parts (is_name_character c) (list_all is_name_character cs) h in
    and_from (is_xml_character c) (list_all is_xml_character cs) (named_is_xml c parts.0) (all_xml cs parts.1)

-- ---- an ASCII byte is a character

ascii_first : (b : ℕ) (rest : Text) → b < 128 → chars (b ∷ rest) ≡ b ∷ chars rest
unfolding chars
ascii_first b [] small = let low : nat_lt b 128 ≡ true = lt-ltb b 128 small in rw low refl
ascii_first b (c ∷ rest) small = let low : nat_lt b 128 ≡ true = lt-ltb b 128 small in rw low refl

module _ (s : Text) (utf8 : IsUtf8 s) (i : ℕ) (within : i < length s) (small : get_or s i 0 < 128) where
  cut : IsUtf8 (take i s)
  cut = IsUtf8-take s i utf8 (IsCharBoundary-before_ascii s i within small)

  parted : chars s ≡ chars (take i s) ++ (get_or s i 0 ∷ chars (drop (suc i) s))
  parted =
      ap chars (sym (take-append-drop i s)) ∙ chars-append (take i s) (drop i s) cut
      ∙ ap (λ t. chars (take i s) ++ chars t) (drop-cons s i 0 within) ∙ ap (λ cs. chars (take i s) ++ cs) (ascii_first (get_or s i 0) (drop (suc i) s) small)

  named_byte : list_all is_name_character (chars s) ≡ true → is_name_character (get_or s i 0) ≡ true
  named_byte named =
      let split = and_parts (list_all is_name_character (chars (take i s))) (list_all is_name_character (get_or s i 0 ∷ chars (drop (suc i) s)))
      (sym (list_all-append is_name_character (chars (take i s)) (get_or s i 0 ∷ chars (drop (suc i) s))) ∙ ap (list_all is_name_character) (sym parted) ∙ named) in
      (and_parts (is_name_character (get_or s i 0)) (list_all is_name_character (chars (drop (suc i) s))) split.1).0

-- no byte of a name is blank
no_blank : (s : Text) → IsUtf8 s → list_all is_name_character (chars s) ≡ true → (i : ℕ) → i < length s → is_blank (get_or s i 0) ≡ false
no_blank s utf8 named i within =
    elim (cases_Bool (is_blank (get_or s i 0))) [
      | inl blank ↦
          let low = blank_is_small (get_or s i 0) blank in
          let high = named_is_large (get_or s i 0) (named_byte s utf8 i within (omega arith) named) in
          absurd (omega arith)
      | inr not_blank ↦ not_blank
    ]

-- ---- blanks at the ends

no_front : (s : Text) → ((i : ℕ) → i < length s → is_blank (get_or s i 0) ≡ false) → prefix_len is_blank s ≡ 0
no_front s none = elim (cases_lt 0 (prefix_len is_blank s)) [
  | inl some ↦
      let long = prefix_len-le-length is_blank s in
      absurd (both_ways (is_blank (get_or s 0 0)) (none 0 (omega arith)) (prefix_len_passes is_blank s 0 0 some))
  | inr few ↦ omega arith
]

no_end : (s : Text) → ((i : ℕ) → i < length s → is_blank (get_or s i 0) ≡ false) → suffix_len is_blank s ≡ 0
no_end [] none = refl
no_end (x ∷ s) none =
    ap (suffix_len is_blank) (sym (take-length (x ∷ s)))
    ∙ suffix_len-take_no is_blank (x ∷ s) (length (x ∷ s)) 0 (omega arith) (omega arith) (none (length (x ∷ s) - 1) (omega arith))

-- a name is not empty
pub name_some : (s : Text) → is_end_name s ≡ true → nat_lt 0 (length s) ≡ true
unfolding is_end_name
name_some s name =
    (and_parts (nat_le 1 (length s)) (nat_le (length s) 512)
    (and_parts (nat_le 1 (length s) && nat_le (length s) 512) (list_all is_name_character (chars s)) name).0).0

pub plain_name : (s : Text) → IsUtf8 s → is_end_name s ≡ true → IsPlainName s
unfolding is_end_name
plain_name s utf8 name =
    let characters = (and_parts (nat_le 1 (length s) && nat_le (length s) 512) (list_all is_name_character (chars s)) name).1 in
    let none = no_blank s utf8 characters in
    record {
      named = name;
      xml = and_from (is_utf8 s) (list_all is_xml_character (chars s)) (is_utf8-from_IsUtf8 s utf8) (all_xml (chars s) characters);
      stripped = whole s (no_front s none) (no_end s none);
    }
