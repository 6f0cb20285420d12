-- References are read exactly where they are spelled.
use Rattle.std.proofs.Common.{◌≡◌, ◌||◌, ◌==◌, ◌⊎◌, inl, inr, ℕ, Bool, true, false, cond, [], ◌∷◌, ◌++◌, length, take, drop, Some, refl, sym, ◌∙◌, ap, subst, arith}
use Rattle.std.specs.Prelude.{not, nat_eq, codes}
use Rattle.std.specs.List.{list_all, starts_with, position_or_len}
use Rattle.std.specs.Char.{is_ascii_digit, is_ascii_hexdigit, is_ascii_alphanumeric}
use Rattle.std.specs.Cmp.Lexicographic.{bytes_decides}
use Rattle.std.proofs.lemmas.Bool.Decides.{nat_tests}
use Rattle.xml_lexer.specs.Characters.{Text}
use Rattle.xml_lexer.specs.Spelling.{same, in_digits, named_character}
use Rattle.xml_lexer.specs.Scan.{byte_at, reference_at}
use Rattle.xml_lexer.proofs.Runs.{both, bind-then, same_pair, take-run, drop-run, byte_at-some}
use Rattle.std.proofs.lemmas.List.{take-append-drop}
use Rattle.std.proofs.lemmas.List.Folds.{list_all-append}

abbrev pub is_reference_byte : ℕ → Bool
is_reference_byte b = is_ascii_alphanumeric b || b == 35

pub chosen : {A : Type 0} (b : Bool) (x y z : A) → cond b x y ≡ z → ((b ≡ true) × (x ≡ z)) ⊎ ((b ≡ false) × (y ≡ z))
chosen true x y z h = inl (refl, h)
chosen false x y z h = inr (refl, h)

same_text : (a b : Text) → same a b ≡ true → list_all is_reference_byte b ≡ true → list_all is_reference_byte a ≡ true
same_text a b h all = let P : Text → Type 0 = λ t. list_all is_reference_byte t ≡ true in subst P (sym ((bytes_decides a b).0 h)) all

all_bytes : (p : ℕ → Bool) → ((b : ℕ) → p b ≡ true → is_reference_byte b ≡ true) → (s : Text) → list_all p s ≡ true → list_all is_reference_byte s ≡ true
all_bytes p h [] all = refl
all_bytes p h (b ∷ s) all = let t = both (p b) (list_all p s) all in rw (h b t.0, all_bytes p h s t.1) refl

hexadecimal : (b : ℕ) → is_ascii_hexdigit b ≡ true → is_reference_byte b ≡ true
hexadecimal b h = grind (arith, nat_tests)

decimal : (b : ℕ) → is_ascii_digit b ≡ true → is_reference_byte b ≡ true
decimal b h = grind (arith, nat_tests)

digits : (base : ℕ) (p : ℕ → Bool) → ((b : ℕ) → p b ≡ true → is_reference_byte b ≡ true) → (s : Text) (c : ℕ) → in_digits base p s ≡ Some c → list_all is_reference_byte s ≡ true
digits base p h [] c e = refl
digits base p h (b ∷ s) c e =
    elim (chosen (list_all p (b ∷ s)) _ _ _ e) [ inl t ↦ all_bytes p h (b ∷ s) t.0 | inr t ↦ absurd (let bad = t.1 in (cc)) ]

after_front : (front body : Text) → starts_with nat_eq body front ≡ true → list_all is_reference_byte front ≡ true → list_all is_reference_byte (drop (length front) body) ≡ true →
    list_all is_reference_byte body ≡ true
after_front front body h all rest =
    let P : Text → Type 0 = λ t. list_all is_reference_byte t ≡ true in
    let e : front ++ drop (length front) body ≡ body = ap (λ t. t ++ drop (length front) body) ((bytes_decides front (take (length front) body)).0 h) ∙ take-append-drop (length front) body in
    subst P e (rw (list_all-append, all, rest) refl)

pub named-bytes : (body : Text) (c : ℕ) → named_character body ≡ Some c → list_all is_reference_byte body ≡ true
named-bytes body c h =
    elim (chosen (same body (codes "lt")) _ _ _ h) [
      | inl t ↦ same_text body (codes "lt") t.0 refl
      | inr h1 ↦
          elim (chosen (same body (codes "gt")) _ _ _ h1.1) [
            | inl t ↦ same_text body (codes "gt") t.0 refl
            | inr h2 ↦
                elim (chosen (same body (codes "amp")) _ _ _ h2.1) [
                  | inl t ↦ same_text body (codes "amp") t.0 refl
                  | inr h3 ↦
                      elim (chosen (same body (codes "apos")) _ _ _ h3.1) [
                        | inl t ↦ same_text body (codes "apos") t.0 refl
                        | inr h4 ↦
                            elim (chosen (same body (codes "quot")) _ _ _ h4.1) [
                              | inl t ↦ same_text body (codes "quot") t.0 refl
                              | inr h5 ↦
                                  elim (chosen (starts_with nat_eq body (codes "#x")) _ _ _ h5.1) [
                                    | inl t ↦ after_front (codes "#x") body t.0 refl (digits 16 is_ascii_hexdigit hexadecimal (drop 2 body) c t.1)
                                    | inr h6 ↦ elim (chosen (starts_with nat_eq body (codes "#")) _ _ _ h6.1) [
                                      | inl t ↦ after_front (codes "#") body t.0 refl (digits 10 is_ascii_digit decimal (drop 1 body) c t.1)
                                      | inr h7 ↦ absurd (let bad = h7.1 in (cc))
                                    ]
                                  ]
                            ]
                      ]
                ]
          ]
    ]

-- `body` and `;` with anything behind
pub reference_at-complete : (body rest : Text) (c : ℕ) → named_character body ≡ Some c → reference_at (body ++ (59 ∷ rest)) ≡ Some (c, rest)
unfolding reference_at
reference_at-complete body rest c h =
    let plain = not_semicolons body (named-bytes body c h) in
    rw (take-run (λ b. not (b == 59)) body (59 ∷ rest) plain refl, drop-run (λ b. not (b == 59)) body (59 ∷ rest) plain refl, h) refl
  where
    not_semicolons : (s : Text) → list_all is_reference_byte s ≡ true → list_all (λ b. not (b == 59)) s ≡ true
    not_semicolons [] all = refl
    not_semicolons (b ∷ s) all =
        let t = both (is_reference_byte b) (list_all is_reference_byte s) all in
        let first : not (b == 59) ≡ true = not_semicolon b t.0 in
        rw (first, not_semicolons s t.1) refl
      where
        not_semicolon : (b : ℕ) → is_reference_byte b ≡ true → not (b == 59) ≡ true
        not_semicolon b h = grind (arith, nat_tests)

pub reference_at-sound : (s rest : Text) (c : ℕ) → reference_at s ≡ Some (c, rest) → (body : Text) × (named_character body ≡ Some c) × (s ≡ body ++ (59 ∷ rest))
unfolding reference_at
reference_at-sound s rest c h =
    let n = position_or_len (λ b. b == 59) s in
    bind-then (byte_at 59 (drop n s)) _ _ h (λ r closed h1.
    bind-then (named_character (take n s)) _ _ h1 (λ d named h2.
    let same = same_pair d c r rest h2 in
    (take n s, named ∙ ap Some same.0, sym (take-append-drop n s) ∙ ap (λ t. take n s ++ t) (byte_at-some 59 (drop n s) r closed ∙ ap (λ u. 59 ∷ u) same.1))))
