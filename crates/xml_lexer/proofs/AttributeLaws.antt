-- Attributes are read exactly where they are spelled.
use Rattle.std.proofs.Common.{◌≡◌, ◌+◌, ◌||◌, ◌==◌, inl, inr, ℕ, true, [], ◌∷◌, ◌++◌, length, take, drop, Some, refl, sym, ◌∙◌, ap, subst, arith}
use Rattle.std.specs.List.{prefix_len}
use Rattle.std.proofs.Math.Seq.{take-append_seam, drop-append-add}
use Rattle.std.proofs.lemmas.Bool.Decides.{nat_tests}
use Rattle.xml_lexer.specs.Characters.{Text, is_blank, is_spelled_name}
use Rattle.xml_lexer.specs.Token.{Spelled}
use Rattle.xml_lexer.specs.Spelling.{AreBlanks, IsValue, IsQuote}
use Rattle.xml_lexer.specs.Scan.{in_name, name_at, byte_at, skip_blanks, value_len, value_at, quoted_at, attribute_at}
use Rattle.xml_lexer.proofs.Runs.{bind-then, same_pair, byte_at-some}
use Rattle.xml_lexer.proofs.NameLaws.{name-stops, name_at-complete, name_at-sound, skip_blanks-complete, skip_blanks-sound}
use Rattle.xml_lexer.proofs.ReferenceLaws.{chosen}
use Rattle.xml_lexer.proofs.ValueLaws.{value_len-complete, value_len-sound}

pub value_at-complete : (quote : ℕ) (v rest : Text) → IsValue quote v → value_at quote (v ++ (quote ∷ rest)) ≡ Some (v, rest)
unfolding value_at
value_at-complete quote v rest val =
    let n = value_len-complete quote v rest val in
    rw (n, take-append_seam, drop-append-add) refl

value_joined : (quote : ℕ) (s v rest : Text) (n : ℕ) (value after : Text) → s ≡ value ++ (quote ∷ after) → n ≡ length value → IsValue quote value →
    take n s ≡ v → drop (n + 1) s ≡ rest → IsValue quote v × (s ≡ v ++ (quote ∷ rest))
value_joined quote s v rest n value after split size val front back =
    let v_is : value ≡ v = sym (take-append_seam value (quote ∷ after)) ∙ (rw (← split, ← size) refl) ∙ front in
    let rest_is : after ≡ rest = sym (drop-append-add value (quote ∷ after) 1) ∙ (rw (← split, ← size) refl) ∙ back in
    let P : Text → Type 0 = λ t. IsValue quote t in
    (subst P v_is val, split ∙ ap (λ t. t ++ (quote ∷ after)) v_is ∙ ap (λ t. v ++ (quote ∷ t)) rest_is)

pub value_at-sound : (quote : ℕ) (s v rest : Text) → IsQuote quote → value_at quote s ≡ Some (v, rest) → IsValue quote v × (s ≡ v ++ (quote ∷ rest))
unfolding value_at
value_at-sound quote s v rest q h =
    bind-then (value_len quote s) _ _ h (λ n read h1.
    let same = same_pair (take n s) v (drop (n + 1) s) rest h1 in
    let r = value_len-sound quote s n q read in
    value_joined quote s v rest n r.value r.rest r.split r.size r.is_value same.0 same.1)

is_quote_true : (q : ℕ) → IsQuote q → (q == 34 || q == 39) ≡ true
is_quote_true q h = elim h [ inl e ↦ rw e refl | inr e ↦ rw e refl ]

is_quote_from : (q : ℕ) → (q == 34 || q == 39) ≡ true → IsQuote q
is_quote_from q h = grind (arith, nat_tests)

pub quoted_at-complete : (quote : ℕ) (v rest : Text) → IsQuote quote → IsValue quote v → quoted_at (quote ∷ (v ++ (quote ∷ rest))) ≡ Some (v, rest)
unfolding quoted_at
quoted_at-complete quote v rest q val = rw (is_quote_true quote q) (value_at-complete quote v rest val)

pub quoted_at-sound : (s v rest : Text) → quoted_at s ≡ Some (v, rest) → (quote : ℕ) × IsQuote quote × IsValue quote v × (s ≡ quote ∷ (v ++ (quote ∷ rest)))
unfolding quoted_at
quoted_at-sound [] v rest h = absurd (let bad : ⊥ = cc in bad)
quoted_at-sound (b ∷ s) v rest h =
    elim (chosen (b == 34 || b == 39) _ _ _ h) [
      | inl t ↦ (let q = is_quote_from b t.0 in let r = value_at-sound b s v rest q t.1 in (b, q, r.0, ap (λ u. b ∷ u) r.1))
      | inr t ↦ absurd (let e = t.1 in let bad : ⊥ = cc in bad)
    ]

-- an attribute behind its first blanks
pub attribute_at-complete : (name before after : Text) (quote : ℕ) (v rest : Text) → is_spelled_name name ≡ true → AreBlanks before → AreBlanks after → IsQuote quote → IsValue quote v →
    attribute_at (name ++ (before ++ (61 ∷ (after ++ (quote ∷ (v ++ (quote ∷ rest))))))) ≡ Some (record { name = name; value = v }, rest)
unfolding attribute_at
attribute_at-complete name before after quote v rest spelled b1 b2 q val =
    let tail = quote ∷ (v ++ (quote ∷ rest)) in
    let n = name_at-complete name (before ++ (61 ∷ (after ++ tail))) spelled (name-stops before 61 (after ++ tail) b1 refl) in
    let skip1 = skip_blanks-complete before (61 ∷ (after ++ tail)) b1 refl in
    let skip2 = skip_blanks-complete after tail b2 (quote_stops quote q) in
    let read = quoted_at-complete quote v rest q val in
    rw (n, skip1, skip2, read) refl
  where
    quote_stops : (quote : ℕ) → IsQuote quote → prefix_len is_blank (quote ∷ (v ++ (quote ∷ rest))) ≡ 0
    quote_stops quote q = elim q [ inl e ↦ rw e refl | inr e ↦ rw e refl ]

pub record ReadsAttribute (s : Text) (a : Spelled) (rest : Text) : Type 0 where
  pub before : Text
  pub after : Text
  pub quote : ℕ
  pub spelled : is_spelled_name a.name ≡ true
  pub first_gap : AreBlanks before
  pub second_gap : AreBlanks after
  pub is_quote : IsQuote quote
  pub is_value : IsValue quote a.value
  pub split : s ≡ a.name ++ (before ++ (61 ∷ (after ++ (quote ∷ (a.value ++ (quote ∷ rest))))))

pub attribute_at-sound : (s : Text) (a : Spelled) (rest : Text) → attribute_at s ≡ Some (a, rest) → ReadsAttribute s a rest
unfolding attribute_at
attribute_at-sound s a rest h =
    bind-then (name_at s) _ _ h (λ n named h1.
    bind-then (byte_at 61 (skip_blanks n.1)) _ _ h1 (λ r equals h2.
    bind-then (quoted_at (skip_blanks r)) _ _ h2 (λ v quoted h3.
    joined n.0 n.1 r v.0 v.1 (same_pair (record { name = n.0; value = v.0 }) a v.1 rest h3)
    (name_at-sound s n.0 n.1 named) (skip_blanks-sound n.1) (byte_at-some 61 (skip_blanks n.1) r equals) (skip_blanks-sound r) (quoted_at-sound (skip_blanks r) v.0 v.1 quoted))))
  where
    joined : (n behind r v w : Text) → (let made : Spelled = record { name = n; value = v } in (made ≡ a) × (w ≡ rest)) → (is_spelled_name n ≡ true) × (s ≡ n ++ behind) × (prefix_len in_name behind ≡ 0) →
        (gap : Text) × AreBlanks gap × (behind ≡ gap ++ skip_blanks behind) × (prefix_len is_blank (skip_blanks behind) ≡ 0) → skip_blanks behind ≡ 61 ∷ r →
        (gap : Text) × AreBlanks gap × (r ≡ gap ++ skip_blanks r) × (prefix_len is_blank (skip_blanks r) ≡ 0) →
        (quote : ℕ) × IsQuote quote × IsValue quote v × (skip_blanks r ≡ quote ∷ (v ++ (quote ∷ w))) → ReadsAttribute s a rest
    joined n behind r v w same named gap1 equals gap2 quoted =
        let made : Spelled = record { name = n; value = v } in
        let P : Spelled → Type 0 = λ x. ReadsAttribute s x rest in
        subst P same.0 (record {
          before = gap1.0;
          after = gap2.0;
          quote = quoted.0;
          spelled = named.0;
          first_gap = gap1.1;
          second_gap = gap2.1;
          is_quote = quoted.1;
          is_value = quoted.2;
          split = named.1 ∙ ap (λ t. n ++ t) (gap1.2 ∙ ap (λ t. gap1.0 ++ t) (equals ∙ ap (λ t. 61 ∷ t) (gap2.2 ∙ ap (λ t. gap2.0 ++ t) (quoted.3 ∙ ap (λ t. quoted.0 ∷ (v ++ (quoted.0 ∷ t))) same.1))));
        })
