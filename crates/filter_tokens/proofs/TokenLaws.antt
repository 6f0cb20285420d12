-- The reader of tokens finds the longest token at the front of a text.
use Rattle.std.proofs.Common.{◌≡◌, ◌⊎◌, inl, inr, ℕ, zero, suc, ◌+◌, ◌<◌, ◌==◌, ◌||◌, Bool, true, false, cond, [], ◌∷◌, ◌++◌, length, take, drop, Option, Some, None, refl, sym, ◌∙◌, ap, subst, append_assoc, append-nil, length-append, eqb-true, eq-eqb, arith}
use Rattle.std.specs.Prelude.{codes, option_map, slice_index}
use Rattle.std.specs.List.{list_all, prefix_len}
use Rattle.std.specs.Char.{is_ascii_digit}
use Rattle.std.specs.Str.{chars}
use Rattle.std.proofs.lemmas.Bool.Decides.{nat_tests}
use Rattle.std.proofs.lemmas.List.{take-append-drop}
use Rattle.xml_lexer.specs.Characters.{is_xml_character, is_blank, is_name_byte, starts_name, is_name}
use Rattle.xml_lexer.specs.Scan.{byte_at}
use Rattle.xml_lexer.proofs.Runs.{both, take-run, drop-run, list_all-run, byte_at-some, byte_at-cons}
use Rattle.xml_lexer.specs.Characters.{Text}
use Rattle.filter_tokens.specs.Token.{Token, slash, double_slash, opening_bracket, closing_bracket, opening_parenthesis, closing_parenthesis, at_sign, star, equals, differs, name, literal, foreign, is_other_than, IsQuote, AreDigits, IsForeign, digits, decimal, point, two_points, two_colons, colon, dollar, less, at_most, greater, at_least, plus, minus, bar, comma, IsSpelled}
use Rattle.filter_tokens.specs.Scan.{behind_digits, behind_fraction, literal_in, literal_at, name_at, single, or_longer, other_at, single_or, mark_at, token_at}
use Rattle.filter_tokens.proofs.Suffixes.{Suffix, suffix-refl, suffix-trans, suffix-tail, suffix-drop, prefix_len-more, drop-more, take-more}

-- ---- each token is found, or a longer one

-- a token, or a longer one
abbrev pub Found : Token → Text → Option (Token × Text) → Type 0
Found t behind None = ⊥
Found t behind (Some x) = Suffix x.1 behind × (length x.1 ≡ length behind → x.0 ≡ t)

exactly : (t : Token) (behind : Text) → Found t behind (Some (t, behind))
exactly t behind = (suffix-refl behind, λ e. refl)

longer-found : (c : ℕ) (longer t : Token) (behind rest : Text) → Suffix rest behind → Found t behind (or_longer (byte_at c behind) longer t rest)
longer-found c longer t [] rest s = (s, λ e. refl)
longer-found c longer t (b ∷ behind) rest s =
    elim (b == c) as (λ o. Found t (b ∷ behind) (or_longer (cond o (Some behind) None) longer t rest)) [
      | true ↦ (suffix-tail b behind behind (suffix-refl behind), λ e. absurd (let bad : ⊥ = omega arith in bad))
      | false ↦ (s, λ e. refl)
    ]

fraction-suffix : (s : Text) → Suffix (behind_fraction s) s
fraction-suffix [] = suffix-refl []
fraction-suffix (b ∷ s) =
    elim (b == 46) as (λ o. Suffix (cond o (behind_digits s) (b ∷ s)) (b ∷ s)) [
      | true ↦ suffix-tail b (behind_digits s) s (suffix-drop (prefix_len is_ascii_digit s) s)
      | false ↦ suffix-refl (b ∷ s)
    ]

-- a digit begins no name and is no point
digit-starts : (b : ℕ) → is_ascii_digit b ≡ true → starts_name b ≡ false
digit-starts b h = grind (arith, nat_tests)

digit-point : (b : ℕ) → is_ascii_digit b ≡ true → (b == 46) ≡ false
digit-point b h = grind (arith, nat_tests)

digits-more : (a s : Text) → AreDigits a → behind_digits (a ++ s) ≡ behind_digits s
digits-more a s all = rw (prefix_len-more is_ascii_digit a s all) (drop-more a s (prefix_len is_ascii_digit s))

number-at : (b : ℕ) (s : Text) → is_ascii_digit b ≡ true → token_at (b ∷ s) ≡ Some (foreign, behind_fraction (behind_digits (b ∷ s)))
unfolding token_at
number-at b s h = rw (digit-starts b h, h) refl

point-at : (s : Text) → token_at (46 ∷ s) ≡ or_longer (byte_at 46 s) foreign foreign (behind_digits s)
unfolding token_at mark_at
point-at s = refl

foreign-found : (rest behind : Text) (o : Option (Token × Text)) → o ≡ Some (foreign, rest) → Suffix rest behind → Found foreign behind o
foreign-found rest behind o e s = subst (λ (x : Option (Token × Text)). Found foreign behind x) (sym e) (s, λ n. refl)

digits-found : (whole behind : Text) → AreDigits whole → 0 < length whole → Found foreign behind (token_at (whole ++ behind))
digits-found [] behind all some = absurd (let bad : ⊥ = omega arith in bad)
digits-found (b ∷ whole) behind all some =
    let t = both (is_ascii_digit b) (list_all is_ascii_digit whole) all in
    foreign-found (behind_fraction (behind_digits (b ∷ whole ++ behind))) behind (token_at (b ∷ whole ++ behind)) (number-at b (whole ++ behind) t.0)
    (rw (digits-more (b ∷ whole) behind all) (suffix-trans _ (behind_digits behind) behind (fraction-suffix (behind_digits behind)) (suffix-drop (prefix_len is_ascii_digit behind) behind)))

point-found : (fraction behind : Text) → AreDigits fraction → 0 < length fraction → Found foreign behind (or_longer (byte_at 46 (fraction ++ behind)) foreign foreign (behind_digits (fraction ++ behind)))
point-found [] behind all some = absurd (let bad : ⊥ = omega arith in bad)
point-found (b ∷ fraction) behind all some =
    let t = both (is_ascii_digit b) (list_all is_ascii_digit fraction) all in
    foreign-found (behind_digits behind) behind _ (rw (digit-point b t.0) (ap (λ x. Some (foreign, x)) (digits-more (b ∷ fraction) behind all))) (suffix-drop (prefix_len is_ascii_digit behind) behind)

decimal-found : (whole fraction behind : Text) → AreDigits whole → AreDigits fraction → 0 < length whole + length fraction → Found foreign behind (token_at (whole ++ (46 ∷ (fraction ++ behind))))
decimal-found [] fraction behind a b some = subst (λ (x : Option (Token × Text)). Found foreign behind x) (sym (point-at (fraction ++ behind))) (point-found fraction behind b (omega arith))
decimal-found (d ∷ whole) fraction behind a b some =
    let t = both (is_ascii_digit d) (list_all is_ascii_digit whole) a in
    foreign-found (behind_digits behind) behind (token_at (d ∷ whole ++ (46 ∷ (fraction ++ behind))))
    (number-at d (whole ++ (46 ∷ (fraction ++ behind))) t.0 ∙ ap (λ x. Some (foreign, behind_fraction x)) (digits-more (d ∷ whole) (46 ∷ (fraction ++ behind)) a) ∙ ap (λ x. Some (foreign, x)) (digits-more fraction behind b))
    (suffix-drop (prefix_len is_ascii_digit behind) behind)

foreign-at : (s behind : Text) → IsForeign s → Found foreign behind (token_at (s ++ behind))
unfolding token_at mark_at
foreign-at s behind (digits whole all some) = digits-found whole behind all some
foreign-at s behind (decimal whole fraction a b some) = rw (append_assoc whole (46 ∷ fraction) behind) (decimal-found whole fraction behind a b some)
foreign-at s behind point = longer-found 46 foreign foreign behind (behind_digits behind) (suffix-drop (prefix_len is_ascii_digit behind) behind)
foreign-at s behind two_points = exactly foreign behind
foreign-at s behind two_colons = exactly foreign behind
foreign-at s behind colon = longer-found 58 foreign foreign behind behind (suffix-refl behind)
foreign-at s behind dollar = exactly foreign behind
foreign-at s behind less = longer-found 61 foreign foreign behind behind (suffix-refl behind)
foreign-at s behind at_most = exactly foreign behind
foreign-at s behind greater = longer-found 61 foreign foreign behind behind (suffix-refl behind)
foreign-at s behind at_least = exactly foreign behind
foreign-at s behind plus = exactly foreign behind
foreign-at s behind minus = exactly foreign behind
foreign-at s behind bar = exactly foreign behind
foreign-at s behind comma = exactly foreign behind

name-found : (n behind : Text) → is_name n ≡ true → Found (name n) behind (token_at (n ++ behind))
unfolding token_at name_at
name-found [] behind h = absurd (let bad : ⊥ = cc in bad)
name-found (b ∷ n) behind h =
    let t = both (starts_name b) (list_all is_name_byte (b ∷ n)) h in
    let k = prefix_len is_name_byte behind in
    let size = prefix_len-more is_name_byte (b ∷ n) behind t.1 in
    let at : token_at (b ∷ n ++ behind) ≡ Some (name ((b ∷ n) ++ take k behind), drop k behind) =
    rw (t.0, size, take-more (b ∷ n) behind k, drop-more (b ∷ n) behind k) refl in
    let suffix = suffix-drop k behind in
    subst (λ (x : Option (Token × Text)). Found (name (b ∷ n)) behind x) (sym at) (suffix, λ e. ap (λ x. name ((b ∷ n) ++ x)) (nothing-taken k behind e) ∙ ap name (append-nil (b ∷ n)))
  where
    nothing-taken : (k : ℕ) (s : Text) → length (drop k s) ≡ length s → take k s ≡ []
    nothing-taken zero s e = refl
    nothing-taken (suc k) [] e = refl
    nothing-taken (suc k) (x ∷ s) e = absurd (let le = (suffix-drop k s).short in let bad : ⊥ = omega arith in bad)

literal-is : (quote : ℕ) (value behind : Text) → list_all (is_other_than quote) value ≡ true → list_all is_xml_character (chars value) ≡ true → literal_at quote (value ++ (quote ∷ behind)) ≡ Some (literal value, behind)
unfolding literal_at
literal-is quote value behind all xml =
    let stop : prefix_len (is_other_than quote) (quote ∷ behind) ≡ 0 = rw (eq-eqb quote quote refl) refl in
    rw (take-run (is_other_than quote) value (quote ∷ behind) all stop, drop-run (is_other_than quote) value (quote ∷ behind) all stop, byte_at-cons quote behind, xml) refl

literal-found : (quote : ℕ) (value behind : Text) → IsQuote quote → list_all (is_other_than quote) value ≡ true → list_all is_xml_character (chars value) ≡ true → token_at (quote ∷ (value ++ (quote ∷ behind))) ≡ Some (literal value, behind)
unfolding token_at mark_at
literal-found quote value behind (inl e) all xml = subst (λ (q : ℕ). list_all (is_other_than q) value ≡ true → token_at (q ∷ (value ++ (q ∷ behind))) ≡ Some (literal value, behind)) (sym e) (λ h. literal-is 34 value behind h xml) all
literal-found quote value behind (inr e) all xml = subst (λ (q : ℕ). list_all (is_other_than q) value ≡ true → token_at (q ∷ (value ++ (q ∷ behind))) ≡ Some (literal value, behind)) (sym e) (λ h. literal-is 39 value behind h xml) all

at-front : (t : Token) (s front behind : Text) → s ≡ front → Found t behind (token_at (front ++ behind)) → Found t behind (token_at (s ++ behind))
at-front t s front behind e f = subst (λ (x : Text). Found t behind (token_at (x ++ behind))) (sym e) f

pub finds : (t : Token) (s behind : Text) → IsSpelled t s → Found t behind (token_at (s ++ behind))
unfolding token_at mark_at
finds slash s behind is = at-front slash s (codes "/") behind is (longer-found 47 double_slash slash behind behind (suffix-refl behind))
finds double_slash s behind is = at-front double_slash s (codes "//") behind is (exactly double_slash behind)
finds opening_bracket s behind is = at-front opening_bracket s (codes "[") behind is (exactly opening_bracket behind)
finds closing_bracket s behind is = at-front closing_bracket s (codes "]") behind is (exactly closing_bracket behind)
finds opening_parenthesis s behind is = at-front opening_parenthesis s (codes "(") behind is (exactly opening_parenthesis behind)
finds closing_parenthesis s behind is = at-front closing_parenthesis s (codes ")") behind is (exactly closing_parenthesis behind)
finds at_sign s behind is = at-front at_sign s (codes "@") behind is (exactly at_sign behind)
finds star s behind is = at-front star s (codes "*") behind is (exactly star behind)
finds equals s behind is = at-front equals s (codes "=") behind is (exactly equals behind)
finds differs s behind is = at-front differs s (codes "!=") behind is (exactly differs behind)
finds (name n) s behind (is, h) = at-front (name n) s n behind is (name-found n behind h)
finds (literal value) s behind (quote, q, is, all, xml) =
    at-front (literal value) s (quote ∷ value ++ quote ∷ []) behind is
    (subst (λ (x : Text). Found (literal value) behind (token_at (quote ∷ x))) (sym (append_assoc value (quote ∷ []) behind))
    (subst (λ (o : Option (Token × Text)). Found (literal value) behind o) (sym (literal-found quote value behind q all xml)) (exactly (literal value) behind)))
finds foreign s behind is = foreign-at s behind is

-- ---- what is found is a token

pub record Begins (s : Text) (t : Token) (rest : Text) : Type 0 where
  pub spelled : Text
  pub is_front : s ≡ spelled ++ rest
  pub is_spelled : IsSpelled t spelled
  pub some : 0 < length spelled
  pub no_blank : is_blank (slice_index s 0) ≡ false

abbrev pub SoundAt : Text → Option (Token × Text) → Type 0
SoundAt s None = Unit {0}
SoundAt s (Some x) = Begins s x.0 x.1

by_byte : {X : Type 0} (P : X → Type 0) (b n : ℕ) (x y : X) → (b ≡ n → P x) → P y → P (cond (b == n) x y)
by_byte P b n x y f g = elim (b == n) as (λ o. (b == n) ≡ o → P (cond o x y)) [ true ↦ λ e. f (eqb-true b n e) | false ↦ λ e. g ] refl

by_test : {X : Type 0} (P : X → Type 0) (test : Bool) (x y : X) → (test ≡ true → P x) → (test ≡ false → P y) → P (cond test x y)
by_test P true x y f g = f refl
by_test P false x y f g = g refl

-- a token of one byte
abbrev SingleOk : ℕ → Option Token → Type 0
SingleOk b None = Unit {0}
SingleOk b (Some t) = IsSpelled t (b ∷ []) × (is_blank b ≡ false)

one-byte : (t : Token) (b n : ℕ) → b ≡ n → IsSpelled t (n ∷ []) → is_blank n ≡ false → SingleOk b (Some t)
one-byte t b n e is h = subst (λ (x : ℕ). SingleOk x (Some t)) (sym e) (is, h)

either-of : (a b : Bool) → (a || b) ≡ true → (a ≡ true) ⊎ (b ≡ true)
either-of true b h = inl refl
either-of false b h = inr h

one-mark : (b : ℕ) → (b == 36 || b == 43 || b == 44 || b == 45 || b == 124) ≡ true → SingleOk b (Some foreign)
one-mark b h =
    elim (either-of (b == 36 || b == 43 || b == 44 || b == 45) (b == 124) h) [
      | inr e ↦ one-byte foreign b 124 (eqb-true b 124 e) bar refl
      | inl h ↦ elim (either-of (b == 36 || b == 43 || b == 44) (b == 45) h) [
        | inr e ↦ one-byte foreign b 45 (eqb-true b 45 e) minus refl
        | inl h ↦ elim (either-of (b == 36 || b == 43) (b == 44) h) [
          | inr e ↦ one-byte foreign b 44 (eqb-true b 44 e) comma refl
          | inl h ↦ elim (either-of (b == 36) (b == 43) h) [
            | inl e ↦ one-byte foreign b 36 (eqb-true b 36 e) dollar refl
            | inr e ↦ one-byte foreign b 43 (eqb-true b 43 e) plus refl
          ]
        ]
      ]
    ]

single-ok : (b : ℕ) → SingleOk b (single b)
single-ok b =
    by_byte (SingleOk b) b 91 _ _ (λ e. one-byte opening_bracket b 91 e refl refl)
    (by_byte (SingleOk b) b 93 _ _ (λ e. one-byte closing_bracket b 93 e refl refl)
    (by_byte (SingleOk b) b 40 _ _ (λ e. one-byte opening_parenthesis b 40 e refl refl)
    (by_byte (SingleOk b) b 41 _ _ (λ e. one-byte closing_parenthesis b 41 e refl refl)
    (by_byte (SingleOk b) b 64 _ _ (λ e. one-byte at_sign b 64 e refl refl)
    (by_byte (SingleOk b) b 42 _ _ (λ e. one-byte star b 42 e refl refl)
    (by_byte (SingleOk b) b 61 _ _ (λ e. one-byte equals b 61 e refl refl)
    (by_test (SingleOk b) (b == 36 || b == 43 || b == 44 || b == 45 || b == 124) _ _ (one-mark b) (λ e. tt))))))))

longer-sound : (n c : ℕ) (longer shorter : Token) (s rest : Text) → IsSpelled longer (n ∷ c ∷ []) → (front : Text) → s ≡ front ++ rest → IsSpelled shorter (n ∷ front) → is_blank n ≡ false →
    SoundAt (n ∷ s) (or_longer (byte_at c s) longer shorter rest)
longer-sound n c longer shorter s rest is front e short blank = by_next (byte_at c s) refl
  where
    by_next : (o : Option Text) → byte_at c s ≡ o → SoundAt (n ∷ s) (or_longer o longer shorter rest)
    by_next None h = record { spelled = n ∷ front; is_front = ap (λ x. n ∷ x) e; is_spelled = short; some = omega arith; no_blank = blank }
    by_next (Some behind) h = record { spelled = n ∷ c ∷ []; is_front = ap (λ x. n ∷ x) (byte_at-some c s behind h); is_spelled = is; some = omega arith; no_blank = blank }

differs-sound : (s : Text) → SoundAt (33 ∷ s) (option_map (λ rest. (differs, rest)) (byte_at 61 s))
differs-sound s = by_next (byte_at 61 s) refl
  where
    by_next : (o : Option Text) → byte_at 61 s ≡ o → SoundAt (33 ∷ s) (option_map (λ rest. (differs, rest)) o)
    by_next None h = tt
    by_next (Some behind) h = record { spelled = codes "!="; is_front = ap (λ x. 33 ∷ x) (byte_at-some 61 s behind h); is_spelled = refl; some = omega arith; no_blank = refl }

literal-sound : (quote : ℕ) (s : Text) → IsQuote quote → is_blank quote ≡ false → SoundAt (quote ∷ s) (literal_at quote s)
unfolding literal_at
literal-sound quote s q blank = by_end (byte_at quote (drop n s)) refl
  where
    n : ℕ
    n = prefix_len (is_other_than quote) s

    by_end : (o : Option Text) → byte_at quote (drop (prefix_len (is_other_than quote) s) s) ≡ o → SoundAt (quote ∷ s) (literal_in (take (prefix_len (is_other_than quote) s) s) o)
    by_end None h = tt
    by_end (Some rest) h =
        let m = prefix_len (is_other_than quote) s in
        let split : s ≡ take m s ++ (quote ∷ rest) = sym (take-append-drop m s) ∙ ap (λ x. take m s ++ x) (byte_at-some quote (drop m s) rest h) in
        by_test (SoundAt (quote ∷ s)) (list_all is_xml_character (chars (take m s))) _ _
        (λ xml. record {
          spelled = quote ∷ take m s ++ quote ∷ [];
          is_front = ap (λ x. quote ∷ x) (split ∙ sym (append_assoc (take m s) (quote ∷ []) rest));
          is_spelled = (quote, q, refl, list_all-run (is_other_than quote) s, xml);
          some = omega arith;
          no_blank = blank;
        })
        (λ e. tt)

other-sound : (b : ℕ) (s : Text) → SoundAt (b ∷ s) (other_at b s)
other-sound b s =
    by_byte P b 47 _ _ (λ e. move 47 e _ (longer-sound 47 47 double_slash slash s s refl [] refl refl refl))
    (by_byte P b 33 _ _ (λ e. move 33 e _ (differs-sound s))
    (by_test P (b == 34 || b == 39) _ _ (λ e. literal-sound b s (quote-of b e) (quote-blank b e))
    (λ e. by_byte P b 46 _ _ (λ f. move 46 f _ (longer-sound 46 46 foreign foreign s (behind_digits s) two_points (take (prefix_len is_ascii_digit s) s) (sym (take-append-drop (prefix_len is_ascii_digit s) s)) (point-or (take (prefix_len is_ascii_digit s) s) (list_all-run is_ascii_digit s)) refl))
    (by_byte P b 58 _ _ (λ f. move 58 f _ (longer-sound 58 58 foreign foreign s s two_colons [] refl colon refl))
    (by_test P (b == 60 || b == 62) _ _ (λ f. compared-sound b (either-of (b == 60) (b == 62) f)) (λ f. tt))))))
  where
    P : Option (Token × Text) → Type 0
    P = SoundAt (b ∷ s)

    move : (n : ℕ) → b ≡ n → (o : Option (Token × Text)) → SoundAt (n ∷ s) o → SoundAt (b ∷ s) o
    move n e o h = subst (λ (x : ℕ). SoundAt (x ∷ s) o) (sym e) h

    quote-of : (c : ℕ) → (c == 34 || c == 39) ≡ true → IsQuote c
    quote-of c e = elim (either-of (c == 34) (c == 39) e) [ inl f ↦ inl (eqb-true c 34 f) | inr f ↦ inr (eqb-true c 39 f) ]

    quote-blank : (c : ℕ) → (c == 34 || c == 39) ≡ true → is_blank c ≡ false
    quote-blank c e = grind (arith, nat_tests)

    point-or : (f : Text) → AreDigits f → IsForeign (46 ∷ f)
    point-or [] all = point
    point-or (d ∷ f) all = decimal [] (d ∷ f) refl all (omega arith)

    compared-sound : (c : ℕ) → ((c == 60) ≡ true) ⊎ ((c == 62) ≡ true) → SoundAt (c ∷ s) (or_longer (byte_at 61 s) foreign foreign s)
    compared-sound c (inl e) = subst (λ (x : ℕ). SoundAt (x ∷ s) (or_longer (byte_at 61 s) foreign foreign s)) (sym (eqb-true c 60 e)) (longer-sound 60 61 foreign foreign s s at_most [] refl less refl)
    compared-sound c (inr e) = subst (λ (x : ℕ). SoundAt (x ∷ s) (or_longer (byte_at 61 s) foreign foreign s)) (sym (eqb-true c 62 e)) (longer-sound 62 61 foreign foreign s s at_least [] refl greater refl)

mark-sound : (b : ℕ) (s : Text) → SoundAt (b ∷ s) (mark_at b s)
unfolding mark_at
mark-sound b s = by_single (single b) (single-ok b)
  where
    by_single : (o : Option Token) → SingleOk b o → SoundAt (b ∷ s) (single_or o s (other_at b s))
    by_single None h = other-sound b s
    by_single (Some t) h = record { spelled = b ∷ []; is_front = refl; is_spelled = h.0; some = omega arith; no_blank = h.1 }

name-blank : (b : ℕ) → starts_name b ≡ true → is_blank b ≡ false
name-blank b h = grind (arith, nat_tests)

digit-blank : (b : ℕ) → is_ascii_digit b ≡ true → is_blank b ≡ false
digit-blank b h = grind (arith, nat_tests)

name-sound : (b : ℕ) (s : Text) → starts_name b ≡ true → SoundAt (b ∷ s) (Some (name_at (b ∷ s)))
unfolding name_at
name-sound b s h =
    let byte : is_name_byte b ≡ true = (both (is_name_byte b) _ h).0 in
    let n = prefix_len is_name_byte s in
    let size : prefix_len is_name_byte (b ∷ s) ≡ suc n = rw byte (omega arith) in
    record {
      spelled = take (prefix_len is_name_byte (b ∷ s)) (b ∷ s);
      is_front = sym (take-append-drop (prefix_len is_name_byte (b ∷ s)) (b ∷ s));
      is_spelled = (refl, (let P : ℕ → Type 0 = λ k. is_name (take k (b ∷ s)) ≡ true in subst P (sym size) (let all = list_all-run is_name_byte s in rw (h, byte, all) refl)));
      some = (let P : ℕ → Type 0 = λ k. 0 < length (take k (b ∷ s)) in subst P (sym size) (omega arith));
      no_blank = name-blank b h;
    }

digits-split : (s : Text) → s ≡ take (prefix_len is_ascii_digit s) s ++ behind_digits s
digits-split s = sym (take-append-drop (prefix_len is_ascii_digit s) s)

number-sound : (b : ℕ) (s : Text) → is_ascii_digit b ≡ true → SoundAt (b ∷ s) (Some (foreign, behind_fraction (behind_digits (b ∷ s))))
number-sound b s h = by_rest (behind_digits (b ∷ s)) (digits-split (b ∷ s))
  where
    front : Text
    front = take (prefix_len is_ascii_digit (b ∷ s)) (b ∷ s)

    some-digits : 0 < length (take (prefix_len is_ascii_digit (b ∷ s)) (b ∷ s))
    some-digits = let size : prefix_len is_ascii_digit (b ∷ s) ≡ suc (prefix_len is_ascii_digit s) = rw h (omega arith) in let P : ℕ → Type 0 = λ k. 0 < length (take k (b ∷ s)) in subst P (sym size) (omega arith)

    by_rest : (r : Text) → b ∷ s ≡ take (prefix_len is_ascii_digit (b ∷ s)) (b ∷ s) ++ r → SoundAt (b ∷ s) (Some (foreign, behind_fraction r))
    by_rest [] e =
        record { spelled = take (prefix_len is_ascii_digit (b ∷ s)) (b ∷ s); is_front = e; is_spelled = digits _ (list_all-run is_ascii_digit (b ∷ s)) some-digits; some = some-digits; no_blank = digit-blank b h }
    by_rest (c ∷ r) e =
        let w = take (prefix_len is_ascii_digit (b ∷ s)) (b ∷ s) in
        by_byte (λ (x : Text). SoundAt (b ∷ s) (Some (foreign, x))) c 46 _ _
        (λ f. (let d = take (prefix_len is_ascii_digit r) r in
        let split : b ∷ s ≡ (w ++ 46 ∷ d) ++ behind_digits r = e ∙ ap (λ x. w ++ (x ∷ r)) f ∙ ap (λ x. w ++ (46 ∷ x)) (digits-split r) ∙ sym (append_assoc w (46 ∷ d) (behind_digits r)) in
        record {
          spelled = w ++ 46 ∷ d;
          is_front = split;
          is_spelled = decimal w d (list_all-run is_ascii_digit (b ∷ s)) (list_all-run is_ascii_digit r) (let p = some-digits in omega arith);
          some = (let p = some-digits in let q = length-append w (46 ∷ d) in omega arith);
          no_blank = digit-blank b h;
        }))
        (record { spelled = w; is_front = e; is_spelled = digits w (list_all-run is_ascii_digit (b ∷ s)) some-digits; some = some-digits; no_blank = digit-blank b h })

pub token-sound : (s : Text) → SoundAt s (token_at s)
unfolding token_at
token-sound [] = tt
token-sound (b ∷ s) =
    by_test (SoundAt (b ∷ s)) (starts_name b) _ _ (name-sound b s) (λ e. by_test (SoundAt (b ∷ s)) (is_ascii_digit b) _ _ (number-sound b s) (λ f. mark-sound b s))
