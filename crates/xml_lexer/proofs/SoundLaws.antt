-- What is read is spelled so: start tags, end tags, references and texts.
use Rattle.std.proofs.Common.{◌≡◌, ◌+◌, ◌≤◌, ◌||◌, ◌==◌, inl, inr, ℕ, zero, suc, Bool, true, false, List, [], ◌∷◌, ◌++◌, length, Option, Some, refl, sym, ◌∙◌, ap, subst, arith, eqb-true, append_assoc}
use Rattle.std.specs.Prelude.{not, slice_index, is_some}
use Rattle.std.specs.List.{prefix_len}
use Rattle.xml_lexer.specs.Characters.{Text, is_blank}
use Rattle.xml_lexer.specs.Token.{Spelled}
use Rattle.xml_lexer.specs.Spelling.{AreBlanks, AreAttributes, tag_end}
use Rattle.xml_lexer.specs.Scan.{byte_at, skip_blanks, attribute_at, tag_end_at, no_attributes_at, attributes_at}
use Rattle.xml_lexer.proofs.Runs.{bind-then, same_pair, byte_at-some}
use Rattle.xml_lexer.proofs.NameLaws.{skip_blanks-sound}
use Rattle.xml_lexer.proofs.ReferenceLaws.{chosen}
use Rattle.xml_lexer.proofs.ValueLaws.{mapped}
use Rattle.xml_lexer.proofs.AttributeLaws.{attribute_at-sound, ReadsAttribute}

pub tag_end_at-sound : (s rest : Text) (e : Bool) → tag_end_at s ≡ Some (e, rest) → s ≡ tag_end e ++ rest
tag_end_at-sound [] rest e h = absurd (let bad : ⊥ = cc in bad)
tag_end_at-sound (b ∷ s) rest e h =
    elim (chosen (b == 62) _ _ _ h) [
      | inl t ↦ (let same = same_pair false e s rest t.1 in ends false e s rest same.0 same.1 (ap (λ c. c ∷ s) (eqb-true b 62 t.0)))
      | inr t ↦ elim (chosen (b == 47) _ _ _ t.1) [
        | inl u ↦ (let m = mapped (λ (r : Text). (true, r)) (byte_at 62 s) (e, rest) u.1 in
            let same = same_pair true e m.0 rest (ap Some m.2) in
            ends true e m.0 rest same.0 same.1 (ap (λ c. c ∷ s) (eqb-true b 47 u.0) ∙ ap (λ t. 47 ∷ t) (byte_at-some 62 s m.0 m.1)))
        | inr u ↦ absurd (let n = u.1 in let bad : ⊥ = cc in bad)
      ]
    ]
  where
    ends : (d e : Bool) (x rest : Text) → d ≡ e → x ≡ rest → b ∷ s ≡ tag_end d ++ x → b ∷ s ≡ tag_end e ++ rest
    ends d e x rest p q h = h ∙ ap (λ t. tag_end d ++ t) q ∙ ap (λ t. tag_end t ++ rest) p

pub record ReadsAttributes (s : Text) (given : List Spelled) (e : Bool) (rest : Text) (n : ℕ) : Type 0 where
  pub attributes : Text
  pub gap : Text
  pub are : AreAttributes given attributes
  pub fit : length given ≤ n
  pub blanks : AreBlanks gap
  pub split : s ≡ attributes ++ (gap ++ (tag_end e ++ rest))

none_read : (s : Text) (given : List Spelled) (e : Bool) (rest : Text) (n : ℕ) → no_attributes_at s ≡ Some ((given, e), rest) → ReadsAttributes s given e rest n
none_read s given e rest n h =
    let m = mapped {A = Bool × Text} {B = (List Spelled × Bool) × Text} (λ x. (([], x.0), x.1)) (tag_end_at (skip_blanks s)) ((given, e), rest) h in
    by_parts m.0.0 m.0.1 m.1 m.2
  where
    by_parts : (d : Bool) (r : Text) → tag_end_at (skip_blanks s) ≡ Some (d, r) → ◌≡◌ {A = (List Spelled × Bool) × Text} (([], d), r) ((given, e), rest) → ReadsAttributes s given e rest n
    by_parts d r read same =
        let none : [] ≡ given = ap (λ p. p.0.0) same in
        let end_is : d ≡ e = ap (λ p. p.0.1) same in
        let rest_is : r ≡ rest = ap (λ p. p.1) same in
        let gap = skip_blanks-sound s in
        let P : List Spelled → Type 0 = λ l. ReadsAttributes s l e rest n in
        subst P none (record {
          attributes = [];
          gap = gap.0;
          are = refl;
          fit = omega arith;
          blanks = gap.1;
          split = gap.2 ∙ ap (λ t. gap.0 ++ t) (tag_end_at-sound (skip_blanks s) r d read ∙ ap (λ t. tag_end d ++ t) rest_is ∙ ap (λ t. tag_end t ++ rest) end_is);
        })

-- blanks that the first byte begins
pub first_blank : (s : Text) → is_blank (slice_index s 0) ≡ true → (first : ℕ) × (gap : Text) × (is_blank first ≡ true) × AreBlanks gap × (s ≡ first ∷ (gap ++ skip_blanks s))
first_blank [] h = absurd (let bad : ⊥ = cc in bad)
first_blank (b ∷ s) h =
    let gap = skip_blanks-sound s in
    let same : skip_blanks (b ∷ s) ≡ skip_blanks s = (let one : 1 + prefix_len is_blank s ≡ suc (prefix_len is_blank s) = omega arith in rw (h, one) refl) in
    (b, gap.0, h, gap.1, ap (λ t. b ∷ t) (gap.2 ∙ ap (λ t. gap.0 ++ t) (sym same)))

not_neither : (x y : Bool) → (x || not y) ≡ false → y ≡ true
not_neither true y h = cc
not_neither false true h = refl
not_neither false false h = cc

-- one attribute before the others
more_read : (s : Text) (a : Spelled) (after : Text) (given : List Spelled) (e : Bool) (rest : Text) (n : ℕ) → is_blank (slice_index s 0) ≡ true →
    ReadsAttribute (skip_blanks s) a after → ReadsAttributes after given e rest n → ReadsAttributes s (a ∷ given) e rest (suc n)
more_read s a after given e rest n blank one others =
    let first = first_blank s blank in
    let front = first.0 ∷ (first.1 ++ (a.name ++ (one.before ++ (61 ∷ (one.after ++ (one.quote ∷ (a.value ++ (one.quote ∷ [])))))))) in
    let whole : s ≡ front ++ after = first.4 ∙ ap (λ t. first.0 ∷ (first.1 ++ t)) one.split ∙ sym (simp append_assoc) in
    record {
      attributes = front ++ others.attributes;
      gap = others.gap;
      are = (
        front,
        others.attributes,
        (first.0, first.1, one.before, one.after, one.quote, first.2, first.3, one.spelled, one.first_gap, one.second_gap, one.is_quote, one.is_value, sym (simp append_assoc)),
        others.are,
        refl,
      );
      fit = (let fits = others.fit in omega arith);
      blanks = others.blanks;
      split = whole ∙ ap (λ t. front ++ t) others.split ∙ sym (append_assoc front others.attributes (others.gap ++ (tag_end e ++ rest)));
    }

joined : (n : ℕ) (s : Text) (given : List Spelled) (e : Bool) (rest : Text) → is_blank (slice_index s 0) ≡ true →
    (a : Spelled) (after : Text) (l : List Spelled) (d : Bool) (r : Text) → ReadsAttribute (skip_blanks s) a after → ReadsAttributes after l d r n →
    ◌≡◌ {A = Option ((List Spelled × Bool) × Text)} (Some ((a ∷ l, d), r)) (Some ((given, e), rest)) → ReadsAttributes s given e rest (suc n)
joined n s given e rest blank a after l d r one others same =
    let parts = same_pair {A = List Spelled × Bool} (a ∷ l, d) (given, e) r rest same in
    let list_is : a ∷ l ≡ given = ap (λ p. p.0) parts.0 in
    let end_is : d ≡ e = ap (λ p. p.1) parts.0 in
    let P : List Spelled → Bool → Text → Type 0 = λ x y z. ReadsAttributes s x y z (suc n) in
    let found = more_read s a after l d r n blank one others in
    subst (λ x. P x e rest) list_is (subst (λ y. P (a ∷ l) y rest) end_is (subst (λ z. P (a ∷ l) d z) parts.1 found))

pub attributes_at-sound : (n : ℕ) (s : Text) (given : List Spelled) (e : Bool) (rest : Text) → attributes_at n s ≡ Some ((given, e), rest) → ReadsAttributes s given e rest n
unfolding attributes_at
attributes_at-sound zero s given e rest h = none_read s given e rest zero h
attributes_at-sound (suc n) s given e rest h =
    elim (chosen (is_some (tag_end_at (skip_blanks s)) || not (is_blank (slice_index s 0))) _ _ _ h) [
      | inl t ↦ none_read s given e rest (suc n) t.1
      | inr t ↦ bind-then (attribute_at (skip_blanks s)) _ _ t.1 (λ a read h1.
          bind-then (attributes_at n a.1) _ _ h1 (λ more others h2.
          joined n s given e rest (not_neither _ _ t.0) a.0 a.1 more.0.0 more.0.1 more.1 (attribute_at-sound (skip_blanks s) a.0 a.1 read) (attributes_at-sound n a.1 more.0.0 more.0.1 more.1 others) h2))
    ]
