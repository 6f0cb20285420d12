-- A written value reads as the value.
use Rattle.std.proofs.Common.{◌≡◌, ℕ, zero, suc, Bool, true, false, [], ◌∷◌, ◌++◌, drop, refl, sym, ◌∙◌, ap, subst, inl, inr, lit<, append_assoc}
use Rattle.std.specs.Prelude.{◌==◌, ◌||◌, ◌&&◌, not, slice_index, unwrap_or, if◌then◌else◌, Some, codes}
use Rattle.std.specs.List.{before_first, list_all}
use Rattle.std.specs.Char.{encode_utf8}
use Rattle.std.proofs.lemmas.Bool.{eqb-true, eqb-false, or_cases}
use Rattle.std.proofs.lemmas.Str.{encode_ascii}
use Rattle.xml_lexer.specs.Characters.{Text}
use Rattle.xml_lexer.specs.Spelling.{named_character, is_value_byte, IsValue, BeginsReference}
use Rattle.voe_tree.specs.Names.{is_semicolon, value_text, read_value}
use Rattle.voe_tree.specs.Canonical.{is_escaped, is_escaped_in_value, reference_to, written_value}
use Rattle.voe_tree.proofs.WrittenRuns.{written_value-escaped}

-- ---- the characters that are escaped

pub value_cases : (P : ℕ → Type 0) → P 38 → P 60 → P 34 → P 9 → P 10 → P 13 → (c : ℕ) → is_escaped_in_value c ≡ true → P c
value_cases P amp lt quot tab lf cr c h =
    elim (or_cases (c == 38 || c == 60 || c == 34 || c == 9 || c == 10) (c == 13) h) [
      | inr e ↦ subst P (sym (eqb-true c 13 e)) cr
      | inl h ↦ elim (or_cases (c == 38 || c == 60 || c == 34 || c == 9) (c == 10) h) [
        | inr e ↦ subst P (sym (eqb-true c 10 e)) lf
        | inl h ↦ elim (or_cases (c == 38 || c == 60 || c == 34) (c == 9) h) [
          | inr e ↦ subst P (sym (eqb-true c 9 e)) tab
          | inl h ↦ elim (or_cases (c == 38 || c == 60) (c == 34) h) [
            | inr e ↦ subst P (sym (eqb-true c 34 e)) quot
            | inl h ↦ elim (or_cases (c == 38) (c == 60) h) [
              | inr e ↦ subst P (sym (eqb-true c 60 e)) lt
              | inl e ↦ subst P (sym (eqb-true c 38 e)) amp
            ]
          ]
        ]
      ]
    ]

pub text_cases : (P : ℕ → Type 0) → P 38 → P 60 → P 62 → P 13 → (c : ℕ) → is_escaped c ≡ true → P c
text_cases P amp lt gt cr c h =
    elim (or_cases (c == 38 || c == 60 || c == 62) (c == 13) h) [
      | inr e ↦ subst P (sym (eqb-true c 13 e)) cr
      | inl h ↦ elim (or_cases (c == 38 || c == 60) (c == 62) h) [
        | inr e ↦ subst P (sym (eqb-true c 62 e)) gt
        | inl h ↦ elim (or_cases (c == 38) (c == 60) h) [
          | inr e ↦ subst P (sym (eqb-true c 60 e)) lt
          | inl e ↦ subst P (sym (eqb-true c 38 e)) amp
        ]
      ]
    ]

-- ---- reading

reads_escaped : (c : ℕ) (s : Text) → is_escaped_in_value c ≡ true → value_text false (reference_to c ++ s) ≡ c ∷ value_text false s
reads_escaped c s h =
    value_cases (λ x. value_text false (reference_to x ++ s) ≡ x ∷ value_text false s)
    (ap (λ l. l ++ value_text false s) (encode_ascii 38 (lit< tt)))
    (ap (λ l. l ++ value_text false s) (encode_ascii 60 (lit< tt)))
    (ap (λ l. l ++ value_text false s) (encode_ascii 34 (lit< tt)))
    (ap (λ l. l ++ value_text false s) (encode_ascii 9 (lit< tt)))
    (ap (λ l. l ++ value_text false s) (encode_ascii 10 (lit< tt)))
    (ap (λ l. l ++ value_text false s) (encode_ascii 13 (lit< tt))) c h

plain_cases : (x : ℕ) (s : Text) (a b c d e f : Bool) → (a || b || c || d || e || f) ≡ false →
    (if a then encode_utf8 (unwrap_or (named_character (before_first is_semicolon s)) 32) ++ value_text true s
    else (if f && slice_index s 0 == 10 then value_text false s else (if d || e || f then 32 else x) ∷ value_text false s))
    ≡ x ∷ value_text false s
plain_cases x s true b c d e f h = cc
plain_cases x s false true c d e f h = cc
plain_cases x s false false true d e f h = cc
plain_cases x s false false false true e f h = cc
plain_cases x s false false false false true f h = cc
plain_cases x s false false false false false true h = cc
plain_cases x s false false false false false false h = refl

reads_plain : (x : ℕ) (s : Text) → is_escaped_in_value x ≡ false → value_text false (x ∷ s) ≡ x ∷ value_text false s
reads_plain x s e = plain_cases x s (x == 38) (x == 60) (x == 34) (x == 9) (x == 10) (x == 13) e

pub written_value-plain : (x : ℕ) (s : Text) → is_escaped_in_value x ≡ false → written_value (x ∷ s) ≡ x ∷ written_value s
written_value-plain x s e = rw e refl

pub read_value-written : (v : Text) → read_value (written_value v) ≡ v
read_value-written [] = refl
read_value-written (x ∷ v) =
    let both : (t : Bool) → is_escaped_in_value x ≡ t → value_text false (written_value (x ∷ v)) ≡ x ∷ v =
    λ t. elim t as (λ u. is_escaped_in_value x ≡ u → value_text false (written_value (x ∷ v)) ≡ x ∷ v) [
      | true ↦ λ e. ap (value_text false) (written_value-escaped x v e) ∙ reads_escaped x (written_value v) e ∙ ap (λ l. x ∷ l) (read_value-written v)
      | false ↦ λ e. ap (value_text false) (written_value-plain x v e) ∙ reads_plain x (written_value v) e ∙ ap (λ l. x ∷ l) (read_value-written v)
    ] in
    both (is_escaped_in_value x) refl

-- ---- spelling

abbrev HasReferences : Text → Type 0
HasReferences s = (i : ℕ) → slice_index s i ≡ 38 → BeginsReference (drop i s)

passes : (x : ℕ) (s : Text) → (x == 38) ≡ false → HasReferences s → HasReferences (x ∷ s)
passes x s other more zero h = absurd (eqb-false x 38 other h)
passes x s other more (suc i) h = more i h

begins : (c : ℕ) (body s : Text) → named_character body ≡ Some c → HasReferences (body ++ 59 ∷ s) → HasReferences ((38 ∷ body) ++ 59 ∷ s)
begins c body s names more zero h = (c, (38 ∷ body) ++ 59 ∷ [], s, (body, names, refl), sym (append_assoc (38 ∷ body) (59 ∷ []) s))
begins c body s names more (suc i) h = more i h

escaped_references : (c : ℕ) (s : Text) → HasReferences s → is_escaped_in_value c ≡ true → HasReferences (reference_to c ++ s)
escaped_references c s h e =
    value_cases (λ x. HasReferences (reference_to x ++ s))
    (begins 38 (codes "amp") s refl (passes 97 _ refl (passes 109 _ refl (passes 112 _ refl (passes 59 s refl h)))))
    (begins 60 (codes "lt") s refl (passes 108 _ refl (passes 116 _ refl (passes 59 s refl h))))
    (begins 34 (codes "quot") s refl (passes 113 _ refl (passes 117 _ refl (passes 111 _ refl (passes 116 _ refl (passes 59 s refl h))))))
    (begins 9 (codes "#9") s refl (passes 35 _ refl (passes 57 _ refl (passes 59 s refl h))))
    (begins 10 (codes "#10") s refl (passes 35 _ refl (passes 49 _ refl (passes 48 _ refl (passes 59 s refl h)))))
    (begins 13 (codes "#13") s refl (passes 35 _ refl (passes 49 _ refl (passes 51 _ refl (passes 59 s refl h))))) c e

not_first : (a b c d e f : Bool) → (a || b || c || d || e || f) ≡ false → a ≡ false
not_first true b c d e f h = cc
not_first false b c d e f h = refl

no_references : HasReferences []
no_references zero h = cc
no_references (suc i) h = cc

pub written_value-references : (v : Text) → HasReferences (written_value v)
written_value-references [] = no_references
written_value-references (x ∷ v) =
    let both : (t : Bool) → is_escaped_in_value x ≡ t → HasReferences (written_value (x ∷ v)) =
    λ t. elim t as (λ u. is_escaped_in_value x ≡ u → HasReferences (written_value (x ∷ v))) [
      | true ↦ λ e. subst HasReferences (sym (written_value-escaped x v e)) (escaped_references x (written_value v) (written_value-references v) e)
      | false ↦ λ e. subst HasReferences (sym (written_value-plain x v e))
          (passes x (written_value v) (not_first (x == 38) (x == 60) (x == 34) (x == 9) (x == 10) (x == 13) e) (written_value-references v))
    ] in
    both (is_escaped_in_value x) refl

value_byte_cases : (a b c d e f : Bool) → (a || b || c || d || e || f) ≡ false → not (b || c) ≡ true
value_byte_cases true b c d e f h = cc
value_byte_cases false true c d e f h = cc
value_byte_cases false false true d e f h = cc
value_byte_cases false false false d e f h = refl

pub written_value-bytes : (v : Text) → list_all (is_value_byte 34) (written_value v) ≡ true
written_value-bytes [] = refl
written_value-bytes (x ∷ v) =
    let both : (t : Bool) → is_escaped_in_value x ≡ t → list_all (is_value_byte 34) (written_value (x ∷ v)) ≡ true =
    λ t. elim t as (λ u. is_escaped_in_value x ≡ u → list_all (is_value_byte 34) (written_value (x ∷ v)) ≡ true) [
      | true ↦ λ e. ap (list_all (is_value_byte 34)) (written_value-escaped x v e)
          ∙ value_cases (λ y. list_all (is_value_byte 34) (reference_to y ++ written_value v) ≡ list_all (is_value_byte 34) (written_value v)) refl refl refl refl refl refl x e
          ∙ written_value-bytes v
      | false ↦ λ e. ap (list_all (is_value_byte 34)) (written_value-plain x v e)
          ∙ ap (λ b. b && list_all (is_value_byte 34) (written_value v)) (value_byte_cases (x == 38) (x == 60) (x == 34) (x == 9) (x == 10) (x == 13) e)
          ∙ written_value-bytes v
    ] in
    both (is_escaped_in_value x) refl

pub written_value-is_value : (v : Text) → IsValue 34 (written_value v)
written_value-is_value v = record { bytes = written_value-bytes v; references = written_value-references v }
