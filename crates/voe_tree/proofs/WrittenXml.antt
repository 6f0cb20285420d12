-- A tree's canonical text is made of XML characters.
use Rattle.std.proofs.Common.{◌≡◌, ◌⊎◌, ℕ, ◌+◌, ◌<◌, ◌≤◌, ◌^◌, zero, suc, Bool, true, false, List, [], ◌∷◌, ◌++◌, length, map, take, drop, get_or, refl, sym, ◌∙◌, ap, inl, inr, lit<, arith, one-add, add-one, append-nil, length-drop}
use Rattle.std.specs.Prelude.{◌==◌, ◌&&◌, not, nat_lt, nat_le, if◌then◌else◌, decimal, codes}
use Rattle.std.specs.List.{concat, list_all, list_any, position_or_len, prefix_len}
use Rattle.std.specs.Str.Parse.{AllDigits}
use Rattle.std.proofs.Math.Nat.{eq-or-lt_of_le}
use Rattle.std.proofs.Math.Seq.{take-length, drop-length, drop-cons}
use Rattle.std.proofs.lemmas.List.{take-append-drop}
use Rattle.std.proofs.lemmas.List.Sums.{prefix_len-le-length, prefix_len_stops}
use Rattle.std.proofs.lemmas.Bool.{and_parts, and_from, leb-true, ltb-true, not-false}
use Rattle.std.proofs.lemmas.Bool.Decides.{nat_tests}
use Rattle.std.proofs.lemmas.Fmt.{decimal_is_IsNumeral}
use Rattle.std.proofs.lemmas.Str.{encode_ascii}
use Rattle.std.proofs.lemmas.Str.Parse.{digit_from_value}
use Rattle.xml_lexer.specs.Characters.{Text, is_name, is_xml_character}
use Rattle.xml_lexer.specs.Token.{Spelled, start}
use Rattle.xml_lexer.specs.Spelling.{same, tag_end}
use Rattle.voe_tree.specs.Texts.{is_xml_text}
use Rattle.voe_tree.specs.Shape.{attribute_keeps, is_local_name, is_xmlns}
use Rattle.voe_tree.specs.Names.{xml_namespace}
use Rattle.voe_tree.specs.declared.element.Attribute.{Attribute}
use Rattle.voe_tree.specs.Canonical.{add_space, add_spaces, all_written, default_declaration, is_escaped, is_escaped_in_value, is_numbered, numbered_declarations, numbered_spaces, reference_to, text_tokens, written, written_attribute, written_attributes, written_prefix, written_spelled, written_value}
use Rattle.voe_tree.proofs.XmlTexts.{xml-nil, xml-append, xml-around, xml-encode}
use Rattle.voe_tree.proofs.WrittenRuns.{text_tokens-escaped, text_tokens-plain}
use Rattle.voe_tree.proofs.WrittenValues.{text_cases, value_cases}
use Rattle.voe_tree.proofs.WrittenTexts.{put_byte-written}

-- ---- ASCII

abbrev pub is_printable : ℕ → Bool
is_printable b = nat_le 32 b && nat_lt b 128

ascii_character : (b : ℕ) → 32 ≤ b → b < 128 → is_xml_character b ≡ true
ascii_character b low high = grind (arith, nat_tests)

one_xml : (b : ℕ) → 32 ≤ b → b < 128 → is_xml_text (b ∷ []) ≡ true
one_xml b low high = ap is_xml_text (sym (encode_ascii b high)) ∙ xml-encode b (ascii_character b low high)

pub ascii_xml : (s : Text) → list_all is_printable s ≡ true → is_xml_text s ≡ true
ascii_xml [] h = xml-nil
ascii_xml (b ∷ s) h =
    let parts = and_parts (is_printable b) (list_all is_printable s) h in
    let range = and_parts (nat_le 32 b) (nat_lt b 128) parts.0 in
    xml-append (b ∷ []) s (one_xml b (leb-true 32 b range.0) (ltb-true b 128 range.1)) (ascii_xml s parts.1)

digits_xml : (s : Text) → AllDigits 10 s → is_xml_text s ≡ true
digits_xml [] h = xml-nil
digits_xml (c ∷ s) h =
    let range = digit_from_value c h.0 in
    let low = range.0 in
    let high = range.1 in
    xml-append (c ∷ []) s (one_xml c (omega arith) (omega arith)) (digits_xml s h.1)

decimal_xml : (n : ℕ) → n < 2 ^ 64 → is_xml_text (decimal n) ≡ true
decimal_xml n h = digits_xml (decimal n) (decimal_is_IsNumeral n h).0.1

-- ---- escapes

abbrev escape : (ℕ → Bool) → Text → Text
escape p [] = []
escape p (b ∷ bs) = (if p b then reference_to b else b ∷ []) ++ escape p bs

escape-yes : (p : ℕ → Bool) (x : ℕ) (s : Text) → p x ≡ true → escape p (x ∷ s) ≡ reference_to x ++ escape p s
escape-yes p x s e = ap (λ b. (if b then reference_to x else x ∷ []) ++ escape p s) e

escape-run : (p : ℕ → Bool) (s : Text) → escape p s ≡ take (prefix_len (λ b. not (p b)) s) s ++ escape p (drop (prefix_len (λ b. not (p b)) s) s)
escape-run p [] = refl
escape-run p (x ∷ s) =
    let both : (t : Bool) → p x ≡ t →
    escape p (x ∷ s) ≡ take (prefix_len (λ b. not (p b)) (x ∷ s)) (x ∷ s) ++ escape p (drop (prefix_len (λ b. not (p b)) (x ∷ s)) (x ∷ s)) =
    λ t. elim t as (λ u. p x ≡ u →
    escape p (x ∷ s) ≡ take (prefix_len (λ b. not (p b)) (x ∷ s)) (x ∷ s) ++ escape p (drop (prefix_len (λ b. not (p b)) (x ∷ s)) (x ∷ s)))
    [ true ↦ λ e. rw e (sym (escape-yes p x s e)) | false ↦ λ e. rw (e, one-add) (ap (λ l. x ∷ l) (escape-run p s)) ] in
    both (p x) refl

module _ (p : ℕ → Bool) (small : (b : ℕ) → p b ≡ true → b < 128) (refs : (b : ℕ) → p b ≡ true → is_xml_text (reference_to b) ≡ true) where
  escape_step : (n : ℕ) (s : Text) → ((t : Text) → length t ≤ n → is_xml_text t ≡ true → is_xml_text (escape p t) ≡ true) → length s ≤ suc n → is_xml_text s ≡ true →
      (prefix_len (λ b. not (p b)) s ≡ length s) ⊎ (prefix_len (λ b. not (p b)) s < length s) → is_xml_text (escape p s) ≡ true
  escape_step n s further l h (inl e) =
      let plain : escape p s ≡ s = escape-run p s ∙ rw e (rw (take-length, drop-length) (append-nil s)) in
      ap is_xml_text plain ∙ h
  escape_step n s further l h (inr lt) =
      let y = get_or s (prefix_len (λ b. not (p b)) s) 0 in
      let rest = drop (prefix_len (λ b. not (p b)) s + 1) s in
      let split : drop (prefix_len (λ b. not (p b)) s) s ≡ y ∷ rest = rw add-one (drop-cons s (prefix_len (λ b. not (p b)) s) 0 lt) in
      let special : p y ≡ true = not-false (p y) (prefix_len_stops (λ b. not (p b)) s 0 lt) in
      let whole : take (prefix_len (λ b. not (p b)) s) s ++ (y ∷ rest) ≡ s =
      ap (λ l. take (prefix_len (λ b. not (p b)) s) s ++ l) (sym split) ∙ take-append-drop (prefix_len (λ b. not (p b)) s) s in
      let parts = xml-around (take (prefix_len (λ b. not (p b)) s) s) y rest (small y special) (ap is_xml_text whole ∙ h) in
      let short : length rest ≤ n = simp length-drop (omega arith) in
      ap is_xml_text (escape-run p s ∙ ap (λ l. take (prefix_len (λ b. not (p b)) s) s ++ l) (ap (escape p) split ∙ escape-yes p y rest special))
      ∙ xml-append (take (prefix_len (λ b. not (p b)) s) s) (reference_to y ++ escape p rest) parts.0
      (xml-append (reference_to y) (escape p rest) (refs y special) (further rest short parts.1))

  empty_escape : (s : Text) → length s ≤ 0 → is_xml_text (escape p s) ≡ true
  empty_escape [] l = xml-nil
  empty_escape (x ∷ s) l = absurd (omega arith)

  escape_within : (n : ℕ) (s : Text) → length s ≤ n → is_xml_text s ≡ true → is_xml_text (escape p s) ≡ true
  escape_within zero s l h = empty_escape s l
  escape_within (suc n) s l h =
      escape_step n s (λ t k x. escape_within n t k x) l h (eq-or-lt_of_le (prefix_len-le-length (λ b. not (p b)) s))

  escape_xml : (s : Text) → is_xml_text s ≡ true → is_xml_text (escape p s) ≡ true
  escape_xml s h = escape_within (length s) s (omega arith) h

value_small : (b : ℕ) → is_escaped_in_value b ≡ true → b < 128
value_small b h = value_cases (λ x. x < 128) (lit< tt) (lit< tt) (lit< tt) (lit< tt) (lit< tt) (lit< tt) b h

value_references : (b : ℕ) → is_escaped_in_value b ≡ true → is_xml_text (reference_to b) ≡ true
value_references b h =
    value_cases (λ x. is_xml_text (reference_to x) ≡ true) (ascii_xml (codes "&amp;") refl) (ascii_xml (codes "&lt;") refl) (ascii_xml (codes "&quot;") refl)
    (ascii_xml (codes "&#9;") refl) (ascii_xml (codes "&#10;") refl) (ascii_xml (codes "&#13;") refl) b h

text_small : (b : ℕ) → is_escaped b ≡ true → b < 128
text_small b h = text_cases (λ x. x < 128) (lit< tt) (lit< tt) (lit< tt) (lit< tt) b h

text_references : (b : ℕ) → is_escaped b ≡ true → is_xml_text (reference_to b) ≡ true
text_references b h =
    text_cases (λ x. is_xml_text (reference_to x) ≡ true) (ascii_xml (codes "&amp;") refl) (ascii_xml (codes "&lt;") refl) (ascii_xml (codes "&gt;") refl)
    (ascii_xml (codes "&#13;") refl) b h

value_is : (v : Text) → written_value v ≡ escape is_escaped_in_value v
value_is [] = refl
value_is (b ∷ v) = ap (λ s. (if is_escaped_in_value b then reference_to b else b ∷ []) ++ s) (value_is v)

text_is : (t : Text) → all_written (text_tokens t) ≡ escape is_escaped t
text_is [] = refl
text_is (b ∷ t) =
    let both : (u : Bool) → is_escaped b ≡ u → all_written (text_tokens (b ∷ t)) ≡ escape is_escaped (b ∷ t) =
    λ u. elim u as (λ v. is_escaped b ≡ v → all_written (text_tokens (b ∷ t)) ≡ escape is_escaped (b ∷ t)) [
      | true ↦ λ e. ap all_written (text_tokens-escaped b t e) ∙ ap (λ s. reference_to b ++ s) (text_is t) ∙ sym (escape-yes is_escaped b t e)
      | false ↦ λ e. ap all_written (text_tokens-plain b t e) ∙ put_byte-written b (text_tokens t) ∙ ap (λ s. b ∷ s) (text_is t)
          ∙ sym (ap (λ c. (if c then reference_to b else b ∷ []) ++ escape is_escaped t) e)
    ] in
    both (is_escaped b) refl

pub value_xml : (v : Text) → is_xml_text v ≡ true → is_xml_text (written_value v) ≡ true
value_xml v h = ap is_xml_text (value_is v) ∙ escape_xml is_escaped_in_value value_small value_references v h

pub text_xml : (t : Text) → is_xml_text t ≡ true → is_xml_text (all_written (text_tokens t)) ≡ true
text_xml t h = ap is_xml_text (text_is t) ∙ escape_xml is_escaped text_small text_references t h

-- ---- tags

abbrev pub AreXml : List Spelled → Type 0
AreXml [] = Unit {0}
AreXml (a ∷ more) = (is_xml_text a.name ≡ true) × (is_xml_text a.value ≡ true) × AreXml more

xml_spelled : (a : Spelled) → is_xml_text a.name ≡ true → is_xml_text a.value ≡ true → is_xml_text (written_spelled a) ≡ true
xml_spelled a name value =
    xml-append (codes " " ++ a.name ++ codes "=\"" ++ a.value) (codes "\"")
    (xml-append (codes " " ++ a.name ++ codes "=\"") a.value
    (xml-append (codes " " ++ a.name) (codes "=\"") (xml-append (codes " ") a.name (ascii_xml (codes " ") refl) name) (ascii_xml (codes "=\"") refl)) value)
    (ascii_xml (codes "\"") refl)

xml_all : (given : List Spelled) → AreXml given → is_xml_text (concat (map written_spelled given)) ≡ true
xml_all [] h = xml-nil
xml_all (a ∷ more) h = xml-append (written_spelled a) (concat (map written_spelled more)) (xml_spelled a h.0 h.1) (xml_all more h.2)

xml-both : (some more : List Spelled) → AreXml some → AreXml more → AreXml (some ++ more)
xml-both [] more h k = k
xml-both (a ∷ some) more h k = (h.0, h.1, xml-both some more h.2 k)

tag_end_xml : (b : Bool) → is_xml_text (tag_end b) ≡ true
tag_end_xml true = ascii_xml (codes "/>") refl
tag_end_xml false = ascii_xml (codes ">") refl

pub start_xml : (name : Text) (given : List Spelled) (is_empty : Bool) → is_xml_text name ≡ true → AreXml given → is_xml_text (written (start name given is_empty)) ≡ true
start_xml name given is_empty h k =
    xml-append (codes "<" ++ name ++ concat (map written_spelled given)) (tag_end is_empty)
    (xml-append (codes "<" ++ name) (concat (map written_spelled given)) (xml-append (codes "<") name (ascii_xml (codes "<") refl) h) (xml_all given k))
    (tag_end_xml is_empty)

-- the namespaces with numbers are texts of XML characters as the attributes' are
xml_space_more : (space : Text) (spaces : List Text) → list_all is_xml_text spaces ≡ true → is_xml_text space ≡ true → list_all is_xml_text (spaces ++ space ∷ []) ≡ true
xml_space_more space [] h k = and_from (is_xml_text space) true k refl
xml_space_more space (s ∷ spaces) h k =
    let parts = and_parts (is_xml_text s) (list_all is_xml_text spaces) h in
    and_from (is_xml_text s) (list_all is_xml_text (spaces ++ space ∷ [])) parts.0 (xml_space_more space spaces parts.1 k)

xml_add : (space : Text) (spaces : List Text) → list_all is_xml_text spaces ≡ true → is_xml_text space ≡ true → list_all is_xml_text (add_space spaces space) ≡ true
xml_add space spaces h k =
    let both : (t : Bool) → list_all is_xml_text (if t then spaces ++ space ∷ [] else spaces) ≡ true =
    λ t. elim t as (λ u. list_all is_xml_text (if u then spaces ++ space ∷ [] else spaces) ≡ true) [ true ↦ xml_space_more space spaces h k | false ↦ h ] in
    both (is_numbered space && not (list_any (same space) spaces))

keeps_parts : (a : Attribute) → attribute_keeps a ≡ true → (is_xml_text a.space ≡ true) × (is_xml_text a.local ≡ true) × (is_xml_text a.value ≡ true)
keeps_parts a h =
    let all = and_parts (is_xml_text a.space && is_local_name a.local && is_xml_text a.value) (not (is_xmlns a)) h in
    let texts = and_parts (is_xml_text a.space && is_local_name a.local) (is_xml_text a.value) all.0 in
    let names = and_parts (is_xml_text a.space) (is_local_name a.local) texts.0 in
    (names.0, (and_parts (is_name a.local) (is_xml_text a.local) names.1).1, texts.1)

xml_spaces : (attributes : List Attribute) (spaces : List Text) → list_all is_xml_text spaces ≡ true → list_all attribute_keeps attributes ≡ true → list_all is_xml_text (add_spaces spaces attributes) ≡ true
xml_spaces [] spaces h k = h
xml_spaces (a ∷ more) spaces h k =
    let parts = and_parts (attribute_keeps a) (list_all attribute_keeps more) k in
    xml_spaces more (add_space spaces a.space) (xml_add a.space spaces h (keeps_parts a parts.0).0) parts.1

default_xml : (default space : Text) → is_xml_text space ≡ true → AreXml (default_declaration default space)
default_xml default space h =
    let both : (t : Bool) → AreXml (if t then [] else record { name = codes "xmlns"; value = written_value space } ∷ []) =
    λ t. elim t as (λ u. AreXml (if u then [] else record { name = codes "xmlns"; value = written_value space } ∷ []))
    [ true ↦ tt | false ↦ (ascii_xml (codes "xmlns") refl, value_xml space h, tt) ] in
    both (same space default)

numbered_xml : (n : ℕ) (spaces : List Text) → n + length spaces < 2 ^ 64 → list_all is_xml_text spaces ≡ true → AreXml (numbered_declarations n spaces)
numbered_xml n [] small h = tt
numbered_xml n (space ∷ more) small h =
    let parts = and_parts (is_xml_text space) (list_all is_xml_text more) h in
    (xml-append (codes "xmlns:a") (decimal n) (ascii_xml (codes "xmlns:a") refl) (decimal_xml n (omega arith)), value_xml space parts.0, numbered_xml (n + 1) more (omega arith) parts.1)

prefix_xml : (spaces : List Text) (space : Text) → length spaces < 2 ^ 64 → is_xml_text (written_prefix spaces space) ≡ true
prefix_xml spaces space small =
    let number = position_or_len (same space) spaces in
    let low : number ≤ length spaces = prefix_len-le-length (λ s. not (same space s)) spaces in
    let both : (t u : Bool) → is_xml_text (if t then [] else (if u then codes "xml:" else codes "a" ++ decimal number ++ codes ":")) ≡ true =
    λ t u. elim t as (λ v. is_xml_text (if v then [] else (if u then codes "xml:" else codes "a" ++ decimal number ++ codes ":")) ≡ true) [
      | true ↦ xml-nil
      | false ↦ elim u as (λ v. is_xml_text (if v then codes "xml:" else codes "a" ++ decimal number ++ codes ":") ≡ true) [
        | true ↦ ascii_xml (codes "xml:") refl
        | false ↦ xml-append (codes "a" ++ decimal number) (codes ":") (xml-append (codes "a") (decimal number) (ascii_xml (codes "a") refl) (decimal_xml number (omega arith))) (ascii_xml (codes ":") refl)
      ]
    ] in
    both (length space == 0) (same space xml_namespace)

pub attributes_xml : (spaces : List Text) (attributes : List Attribute) → length spaces < 2 ^ 64 → list_all attribute_keeps attributes ≡ true → AreXml (map (written_attribute spaces) attributes)
attributes_xml spaces [] small h = tt
attributes_xml spaces (a ∷ more) small h =
    let parts = and_parts (attribute_keeps a) (list_all attribute_keeps more) h in
    let texts = keeps_parts a parts.0 in
    (xml-append (written_prefix spaces a.space) a.local (prefix_xml spaces a.space small) texts.1, value_xml a.value texts.2, attributes_xml spaces more small parts.1)

pub written_xml : (default space : Text) (attributes : List Attribute) → is_xml_text space ≡ true → list_all attribute_keeps attributes ≡ true → length (numbered_spaces attributes) < 2 ^ 64 →
    AreXml (written_attributes default space attributes)
written_xml default space attributes h keeps small =
    xml-both (default_declaration default space ++ numbered_declarations 0 (numbered_spaces attributes)) (map (written_attribute (numbered_spaces attributes)) attributes)
    (xml-both (default_declaration default space) (numbered_declarations 0 (numbered_spaces attributes)) (default_xml default space h)
    (numbered_xml 0 (numbered_spaces attributes) (omega arith) (xml_spaces attributes [] refl keeps)))
    (attributes_xml (numbered_spaces attributes) attributes small keeps)
