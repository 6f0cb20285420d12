-- Values are read exactly where they are spelled.
use Rattle.std.proofs.Common.{◌≡◌, ◌&&◌, ◌||◌, ◌==◌, inl, inr, ℕ, zero, suc, Bool, true, false, [], ◌∷◌, ◌++◌, length, drop, Option, Some, None, refl, sym, ◌∙◌, ap, subst, arith, eqb-true, eq-eqb, append_assoc}
use Rattle.std.specs.Prelude.{not, is_none, option_map, slice_index}
use Rattle.std.specs.List.{list_all}
use Rattle.std.proofs.lemmas.Bool.Decides.{nat_tests}
use Rattle.std.proofs.lemmas.List.Folds.{list_all-append}
use Rattle.xml_lexer.specs.Characters.{Text}
use Rattle.xml_lexer.specs.Spelling.{BeginsReference, is_value_byte, IsValue, IsQuote}
use Rattle.xml_lexer.specs.Scan.{reference_at, value_len}
use Rattle.xml_lexer.proofs.Runs.{both}
use Rattle.xml_lexer.proofs.ReferenceLaws.{is_reference_byte, chosen, named-bytes, reference_at-complete, reference_at-sound}

not_either : (x y : Bool) → not (x || y) ≡ true → (x ≡ false) × (y ≡ false)
not_either true y h = cc
not_either false true h = cc
not_either false false h = (refl, refl)

-- a reference is read, whatever follows
reference_within : (b : ℕ) (v more : Text) → BeginsReference (b ∷ v) → is_none (reference_at (v ++ more)) ≡ false
reference_within b v more (c, spelled, rest, (body, named, is), front) =
    let tail : v ≡ (body ++ (59 ∷ [])) ++ rest = ap (drop 1) (front ∙ ap (λ t. t ++ rest) is) in
    let whole : v ++ more ≡ body ++ (59 ∷ (rest ++ more)) = ap (λ t. t ++ more) tail ∙ simp append_assoc in
    rw whole (rw (reference_at-complete body (rest ++ more) c named) refl)

pub value_len-complete : (quote : ℕ) (v rest : Text) → IsValue quote v → value_len quote (v ++ (quote ∷ rest)) ≡ Some (length v)
value_len-complete quote [] rest val = rw (eq-eqb quote quote refl) refl
value_len-complete quote (b ∷ v) rest val =
    let t = both (is_value_byte quote b) (list_all (is_value_byte quote) v) val.bytes in
    let plain = not_either (b == 60) (b == quote) t.0 in
    let others : IsValue quote v = record { bytes = t.1; references = λ i. val.references (suc i) } in
    let good : (b == 38 && is_none (reference_at (v ++ (quote ∷ rest)))) ≡ false = is_good (b == 38) refl in
    rw (plain.1, plain.0, good, value_len-complete quote v rest others) refl
  where
    is_good : (x : Bool) → (b == 38) ≡ x → (x && is_none (reference_at (v ++ (quote ∷ rest)))) ≡ false
    is_good true e = reference_within b v (quote ∷ rest) (val.references 0 (eqb-true b 38 e))
    is_good false e = refl

prefix_within : (p : ℕ → Bool) (a v : Text) (q : ℕ) (x y : Text) → list_all p a ≡ true → p q ≡ false → a ++ x ≡ v ++ (q ∷ y) → (w : Text) × (v ≡ a ++ w)
prefix_within p [] v q x y all h e = (v, refl)
prefix_within p (b ∷ a) [] q x y all h e =
    let t = both (p b) (list_all p a) all in
    let same : b ≡ q = cc in
    absurd (let bad : true ≡ false = sym t.0 ∙ ap p same ∙ h in cc)
prefix_within p (b ∷ a) (c ∷ v) q x y all h e =
    let t = both (p b) (list_all p a) all in
    let same : b ≡ c = cc in
    let tails : a ++ x ≡ v ++ (q ∷ y) = ap (drop 1) e in
    let more = prefix_within p a v q x y t.1 h tails in
    (more.0, cc)

not_double : (b : ℕ) → is_reference_byte b ≡ true → not (b == 34) ≡ true
not_double b h = grind (arith, nat_tests)

not_single : (b : ℕ) → is_reference_byte b ≡ true → not (b == 39) ≡ true
not_single b h = grind (arith, nat_tests)

no_quote : (quote b : ℕ) → IsQuote quote → is_reference_byte b ≡ true → not (b == quote) ≡ true
no_quote quote b q h = elim q [ inl e ↦ rw e (not_double b h) | inr e ↦ rw e (not_single b h) ]

no_quotes : (quote : ℕ) (s : Text) → IsQuote quote → list_all is_reference_byte s ≡ true → list_all (λ b. not (b == quote)) s ≡ true
no_quotes quote [] q all = refl
no_quotes quote (b ∷ s) q all = let t = both (is_reference_byte b) (list_all is_reference_byte s) all in rw (no_quote quote b q t.0, no_quotes quote s q t.1) refl

semicolon : (quote : ℕ) → IsQuote quote → not (59 == quote) ≡ true
semicolon quote q = elim q [ inl e ↦ rw e refl | inr e ↦ rw e refl ]

pub mapped : {A B : Type 0} (f : A → B) (o : Option A) (y : B) → option_map f o ≡ Some y → (x : A) × (o ≡ Some x) × (f x ≡ y)
mapped f None y h = cc
mapped f (Some x) y h = (x, refl, cc)

is_some_of : {A : Type 0} (o : Option A) → is_none o ≡ false → (x : A) × (o ≡ Some x)
is_some_of None h = cc
is_some_of (Some x) h = (x, refl)

-- what is read as a value and the quote behind it
pub record ReadsValue (quote : ℕ) (s : Text) (n : ℕ) : Type 0 where
  pub value : Text
  pub rest : Text
  pub split : s ≡ value ++ (quote ∷ rest)
  pub size : n ≡ length value
  pub is_value : IsValue quote value

-- the reference that was read at `&` ends before the quote
reference_inside : (quote : ℕ) (s : Text) → IsQuote quote → is_none (reference_at s) ≡ false → (v rest : Text) → s ≡ v ++ (quote ∷ rest) → BeginsReference (38 ∷ v)
reference_inside quote s q h v rest split =
    let found = is_some_of (reference_at s) h in
    let read = reference_at-sound s found.0.1 found.0.0 found.1 in
    let body = read.0 in
    let all : list_all (λ b. not (b == quote)) (body ++ (59 ∷ [])) ≡ true =
    (let plain = no_quotes quote body q (named-bytes body found.0.0 read.1) in let semi = semicolon quote q in rw (list_all-append, plain, semi) refl) in
    let stop : not (quote == quote) ≡ false = rw (eq-eqb quote quote refl) refl in
    let joined : (body ++ (59 ∷ [])) ++ found.0.1 ≡ v ++ (quote ∷ rest) = append_assoc body (59 ∷ []) found.0.1 ∙ sym read.2 ∙ split in
    let inside = prefix_within (λ b. not (b == quote)) (body ++ (59 ∷ [])) v quote found.0.1 rest all stop joined in
    (found.0.0, 38 ∷ (body ++ (59 ∷ [])), inside.0, (body, read.1, refl), ap (λ t. 38 ∷ t) inside.1)

references_of : (quote b : ℕ) (s : Text) → IsQuote quote → (b == 38 && is_none (reference_at s)) ≡ false → (v rest : Text) → s ≡ v ++ (quote ∷ rest) → IsValue quote v →
    (i : ℕ) → slice_index (b ∷ v) i ≡ 38 → BeginsReference (drop i (b ∷ v))
references_of quote b s q w v rest split val zero e =
    let none : is_none (reference_at s) ≡ false = (let amp : (b == 38) ≡ true = eq-eqb b 38 e in rw amp at w) in
    let P : ℕ → Type 0 = λ c. BeginsReference (c ∷ v) in
    subst P (sym e) (reference_inside quote s q none v rest split)
references_of quote b s q w v rest split val (suc i) e = val.references i e

one_more : (quote b : ℕ) (s : Text) (n : ℕ) → IsQuote quote → (b == quote) ≡ false → (b == 60) ≡ false → (b == 38 && is_none (reference_at s)) ≡ false →
    (m : ℕ) → suc m ≡ n → ReadsValue quote s m → ReadsValue quote (b ∷ s) n
one_more quote b s n q t u w m size others = record {
  value = b ∷ others.value;
  rest = others.rest;
  split = ap (λ r. b ∷ r) others.split;
  size = sym size ∙ ap suc others.size;
  is_value = record { bytes = rw (u, t) others.is_value.bytes; references = references_of quote b s q w others.value others.rest others.split others.is_value };
}

pub value_len-sound : (quote : ℕ) (s : Text) (n : ℕ) → IsQuote quote → value_len quote s ≡ Some n → ReadsValue quote s n
value_len-sound quote [] n q h = absurd (let bad : ⊥ = cc in bad)
value_len-sound quote (b ∷ s) n q h =
    elim (chosen (b == quote) _ _ _ h) [
      | inl t ↦ record { value = []; rest = s; split = ap (λ c. c ∷ s) (eqb-true b quote t.0); size = zero_size t.1; is_value = record { bytes = refl; references = λ i e. absurd (omega (arith, e)) } }
      | inr t ↦ elim (chosen (b == 60) _ _ _ t.1) [
        | inl u ↦ absurd (let e = u.1 in let bad : ⊥ = cc in bad)
        | inr u ↦ elim (chosen (b == 38 && is_none (reference_at s)) _ _ _ u.1) [
          | inl w ↦ absurd (let e = w.1 in let bad : ⊥ = cc in bad)
          | inr w ↦ (let m = mapped suc (value_len quote s) n w.1 in one_more quote b s n q t.0 u.0 w.0 m.0 m.2 (value_len-sound quote s m.0 q m.1))
        ]
      ]
    ]
  where
    zero_size : Some 0 ≡ Some n → n ≡ 0
    zero_size e = cc
