-- Texts of printable ASCII.
use Rattle.std.proofs.Common.{◌≡◌, ℕ, ◌-◌, ◌<◌, true, false, [], ◌∷◌, length, get_or, refl, sym, ◌∙◌, ap, inl, inr, arith}
use Rattle.std.specs.Prelude.{◌&&◌, nat_le, nat_lt}
use Rattle.std.specs.List.{list_all, prefix_len, suffix_len}
use Rattle.std.proofs.lemmas.Bool.{and_from, and_parts, both_ways, cases_lt, lt-ltb}
use Rattle.std.proofs.lemmas.Bool.Decides.{nat_tests}
use Rattle.std.proofs.lemmas.List.Sums.{prefix_len_passes, suffix_len-take_no}
use Rattle.std.proofs.Math.Seq.{take-length}
use Rattle.xml_lexer.specs.Characters.{Text, is_blank}
use Rattle.xml_lexer.specs.Spelling.{same}
use Rattle.voe_tree.specs.Texts.{is_xml_text, trimmed}
use Rattle.voe_tree.proofs.WrittenNames.{is-same}
use Rattle.voe_tree.proofs.XmlTexts.{is_ascii_xml, xml-all_ascii}
use Rattle.vtp_messages.specs.Parts.{is_stripped}
use Rattle.vtp_messages.proofs.Stripped.{whole}

large_is_no_blank : (b : ℕ) → 32 < b → is_blank b ≡ false
large_is_no_blank b h = grind (arith, nat_tests)

printable_is_xml : (b : ℕ) → (nat_le 32 b && nat_lt b 127) ≡ true → is_ascii_xml b ≡ true
printable_is_xml b h = grind (arith, nat_tests)

first_stands : (s : Text) → 32 < get_or s 0 0 → prefix_len is_blank s ≡ 0
first_stands s large = elim (cases_lt 0 (prefix_len is_blank s)) [
  | inl some ↦ absurd (both_ways (is_blank (get_or s 0 0)) (large_is_no_blank (get_or s 0 0) large) (prefix_len_passes is_blank s 0 0 some))
  | inr few ↦ omega arith
]

last_stands : (s : Text) → 32 < get_or s (length s - 1) 0 → suffix_len is_blank s ≡ 0
last_stands [] large = refl
last_stands (x ∷ s) large =
    ap (suffix_len is_blank) (sym (take-length (x ∷ s)))
    ∙ suffix_len-take_no is_blank (x ∷ s) (length (x ∷ s)) 0 (omega arith) (omega arith) (large_is_no_blank (get_or (x ∷ s) (length (x ∷ s) - 1) 0) large)

not_empty : (s : Text) → 32 < get_or s 0 0 → 0 < length s
not_empty [] large = absurd (omega arith)
not_empty (x ∷ s) large = omega arith

pub stands : (s : Text) → 32 < get_or s 0 0 → 32 < get_or s (length s - 1) 0 → is_stripped s ≡ true
stands s first last =
    and_from (nat_lt 0 (length s)) (same (trimmed s) s) (lt-ltb 0 (length s) (not_empty s first))
    (is-same (trimmed s) s (whole s (first_stands s first) (last_stands s last)))

all_ascii : (s : Text) → list_all (λ b. nat_le 32 b && nat_lt b 127) s ≡ true → list_all is_ascii_xml s ≡ true
all_ascii [] h = refl
all_ascii (b ∷ s) h =
    let parts = and_parts (nat_le 32 b && nat_lt b 127) (list_all (λ b. nat_le 32 b && nat_lt b 127) s) h in
    and_from (is_ascii_xml b) (list_all is_ascii_xml s) (printable_is_xml b parts.0) (all_ascii s parts.1)

pub printable_xml : (s : Text) → list_all (λ b. nat_le 32 b && nat_lt b 127) s ≡ true → is_xml_text s ≡ true
printable_xml s h = xml-all_ascii s (all_ascii s h)
