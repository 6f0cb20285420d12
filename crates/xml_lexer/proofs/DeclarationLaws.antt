-- The declaration is read exactly where it is spelled.
use Rattle.std.proofs.Common.{◌≡◌, ◌+◌, ◌<◌, ◌&&◌, ◌||◌, ◌==◌, ◌⊎◌, inl, inr, ℕ, Bool, true, false, cond, [], ◌∷◌, ◌++◌, length, take, drop, Option, Some, None, refl, sym, ◌∙◌, ap, subst, arith, append_assoc, length-append}
use Rattle.std.specs.Prelude.{is_none, slice_index, codes}
use Rattle.std.specs.List.{list_all, prefix_len}
use Rattle.std.proofs.lemmas.Bool.Decides.{nat_tests}
use Rattle.std.proofs.lemmas.List.{take-append-drop}
use Rattle.xml_lexer.specs.Characters.{Text, is_blank}
use Rattle.xml_lexer.specs.Spelling.{AreBlanks, IsQuote, is_value_byte, IsPart, IsOptionalPart, IsDeclaration}
use Rattle.xml_lexer.specs.Scan.{◌>>=◌, skip_blanks, byte_at, literal_at, plain_value_behind, plain_value_at, part_at, or_absent, optional_at, parts_at, declaration_at}
use Rattle.xml_lexer.proofs.Runs.{bind-then, same_pair, take-run, drop-run, list_all-run, byte_at-some, byte_at-cons}
use Rattle.xml_lexer.proofs.NameLaws.{skip_blanks-complete, skip_blanks-sound}
use Rattle.xml_lexer.proofs.ReferenceLaws.{chosen}
use Rattle.xml_lexer.proofs.SoundLaws.{first_blank}
use Rattle.xml_lexer.proofs.MarkupLaws.{literal_at-complete, literal_at-sound}

is_quote_from : (q : ℕ) → (q == 34 || q == 39) ≡ true → IsQuote q
is_quote_from q h = grind (arith, nat_tests)

is_quote_true : (q : ℕ) → IsQuote q → (q == 34 || q == 39) ≡ true
is_quote_true q h = elim h [ inl e ↦ rw e refl | inr e ↦ rw e refl ]

quote_ends : (quote : ℕ) (rest : Text) → IsQuote quote → prefix_len (is_value_byte quote) (quote ∷ rest) ≡ 0
quote_ends quote rest q = elim q [ inl e ↦ rw e refl | inr e ↦ rw e refl ]

quote_stops : (quote : ℕ) (rest : Text) → IsQuote quote → prefix_len is_blank (quote ∷ rest) ≡ 0
quote_stops quote rest q = elim q [ inl e ↦ rw e refl | inr e ↦ rw e refl ]

plain_value_at-complete : (quote : ℕ) (value rest : Text) → IsQuote quote → list_all (is_value_byte quote) value ≡ true → plain_value_at (quote ∷ (value ++ (quote ∷ rest))) ≡ Some (value, rest)
unfolding plain_value_at plain_value_behind
plain_value_at-complete quote value rest q all =
    let p = is_value_byte quote in
    let ends = quote_ends quote rest q in
    rw (is_quote_true quote q, take-run p value (quote ∷ rest) all ends, drop-run p value (quote ∷ rest) all ends) (rw (byte_at-cons quote rest) refl)

record ReadsPlain (s value rest : Text) : Type 0 where
  quote : ℕ
  is_quote : IsQuote quote
  all : list_all (is_value_byte quote) value ≡ true
  split : s ≡ quote ∷ (value ++ (quote ∷ rest))

plain_value_at-sound : (s value rest : Text) → plain_value_at s ≡ Some (value, rest) → ReadsPlain s value rest
unfolding plain_value_at plain_value_behind
plain_value_at-sound [] value rest h = absurd (let bad : ⊥ = cc in bad)
plain_value_at-sound (quote ∷ s) value rest h =
    let n = prefix_len (is_value_byte quote) s in
    elim (chosen (quote == 34 || quote == 39) _ _ _ h) [
      | inr t ↦ absurd (let e = t.1 in let bad : ⊥ = cc in bad)
      | inl t ↦ bind-then (byte_at quote (drop n s)) _ _ t.1 (λ r closed h1.
          (let same = same_pair (take n s) value r rest h1 in
          let front : take n s ≡ value = same.0 in
          let P : Text → Type 0 = λ x. list_all (is_value_byte quote) x ≡ true in
          record {
            quote = quote;
            is_quote = is_quote_from quote t.0;
            all = subst P front (list_all-run (is_value_byte quote) s);
            split = ap (λ u. quote ∷ u) (sym (take-append-drop n s) ∙ ap (λ u. u ++ drop n s) front ∙ ap (λ u. value ++ u) (byte_at-some quote (drop n s) r closed ∙ ap (λ u. quote ∷ u) same.1));
          }))
    ]

-- ---- a part

part_at-step : (name s x : Text) → is_blank (slice_index s 0) ≡ true → skip_blanks s ≡ x →
    part_at name s ≡ (literal_at name x >>= λ named. byte_at 61 (skip_blanks named) >>= λ rest. plain_value_at (skip_blanks rest))
unfolding part_at
part_at-step name s x blank skip = rw (blank, skip) refl

pub part_at-complete : (name value s rest : Text) → ((x : Text) → prefix_len is_blank (name ++ x) ≡ 0) → IsPart name value s → part_at name (s ++ rest) ≡ Some (value, rest)
unfolding part_at
part_at-complete name value s rest stops (first, gap, before, after, quote, is_first, b0, b1, b2, q, all, is) =
    let tail = quote ∷ (value ++ (quote ∷ rest)) in
    let more = before ++ (61 ∷ (after ++ tail)) in
    let whole : s ++ rest ≡ first ∷ (gap ++ (name ++ more)) = ap (λ t. t ++ rest) is ∙ simp append_assoc in
    let skip0 : skip_blanks (first ∷ (gap ++ (name ++ more))) ≡ name ++ more = skip_blanks-complete (first ∷ gap) (name ++ more) (rw is_first b0) (stops more) in
    let skip1 = skip_blanks-complete before (61 ∷ (after ++ tail)) b1 refl in
    let skip2 = skip_blanks-complete after tail b2 (quote_stops quote (value ++ (quote ∷ rest)) q) in
    ap (part_at name) whole ∙ part_at-step name (first ∷ (gap ++ (name ++ more))) (name ++ more) is_first skip0
    ∙ rw (literal_at-complete name more) (rw (skip1, skip2, plain_value_at-complete quote value rest q all) refl)

pub part_at-sound : (name s value rest : Text) → part_at name s ≡ Some (value, rest) → (t : Text) × IsPart name value t × (s ≡ t ++ rest)
unfolding part_at
part_at-sound name s value rest h =
    elim (chosen (is_blank (slice_index s 0)) _ _ _ h) [
      | inr t ↦ absurd (let e = t.1 in let bad : ⊥ = cc in bad)
      | inl t ↦ bind-then (literal_at name (skip_blanks s)) _ _ t.1 (λ x named h1.
          bind-then (byte_at 61 (skip_blanks x)) _ _ h1 (λ r equals h2.
          joined x r (first_blank s t.0) (literal_at-sound name (skip_blanks s) x named) (skip_blanks-sound x) (byte_at-some 61 (skip_blanks x) r equals) (skip_blanks-sound r)
          (plain_value_at-sound (skip_blanks r) value rest h2)))
    ]
  where
    joined : (x r : Text) → (first : ℕ) × (gap : Text) × (is_blank first ≡ true) × AreBlanks gap × (s ≡ first ∷ (gap ++ skip_blanks s)) → skip_blanks s ≡ name ++ x →
        (gap : Text) × AreBlanks gap × (x ≡ gap ++ skip_blanks x) × (prefix_len is_blank (skip_blanks x) ≡ 0) → skip_blanks x ≡ 61 ∷ r →
        (gap : Text) × AreBlanks gap × (r ≡ gap ++ skip_blanks r) × (prefix_len is_blank (skip_blanks r) ≡ 0) → ReadsPlain (skip_blanks r) value rest →
        (t : Text) × IsPart name value t × (s ≡ t ++ rest)
    joined x r (first, gap, is_first, b0, e0) named gap1 equals gap2 plain =
        let front = first ∷ (gap ++ (name ++ (gap1.0 ++ (61 ∷ (gap2.0 ++ (plain.quote ∷ (value ++ (plain.quote ∷ [])))))))) in
        let whole : s ≡ front ++ rest =
        e0 ∙ ap (λ t. first ∷ (gap ++ t)) (named ∙ ap (λ t. name ++ t) (gap1.2 ∙ ap (λ t. gap1.0 ++ t) (equals ∙ ap (λ t. 61 ∷ t) (gap2.2 ∙ ap (λ t. gap2.0 ++ t) plain.split))))
        ∙ sym (simp append_assoc) in
        (front, (first, gap, gap1.0, gap2.0, plain.quote, is_first, b0, gap1.1, gap2.1, plain.is_quote, plain.all, sym (simp append_assoc)), whole)

-- no part of that name stands there
part_at-other : (name gap x : Text) → AreBlanks gap → prefix_len is_blank x ≡ 0 → literal_at name x ≡ None → part_at name (gap ++ x) ≡ None
unfolding part_at
part_at-other name gap x blanks stops none =
    let skip = skip_blanks-complete gap x blanks stops in
    cases (is_blank (slice_index (gap ++ x) 0)) (ap (λ t. literal_at name t) skip ∙ none)
  where
    cases : (b : Bool) → literal_at name (skip_blanks (gap ++ x)) ≡ None →
        cond b (literal_at name (skip_blanks (gap ++ x)) >>= λ named. byte_at 61 (skip_blanks named) >>= λ rest. plain_value_at (skip_blanks rest)) None ≡ None
    cases true e = rw e refl
    cases false e = refl

-- a part of another name stands there
part-other : (name other value s rest : Text) → ((x : Text) → prefix_len is_blank (other ++ x) ≡ 0) → ((x : Text) → literal_at name (other ++ x) ≡ None) → IsPart other value s → part_at name (s ++ rest) ≡ None
part-other name other value s rest stops differs (first, gap, before, after, quote, is_first, b0, b1, b2, q, all, is) =
    let more = before ++ (61 ∷ (after ++ (quote ∷ (value ++ (quote ∷ rest))))) in
    let whole : s ++ rest ≡ (first ∷ gap) ++ (other ++ more) = ap (λ t. t ++ rest) is ∙ simp append_assoc in
    ap (part_at name) whole ∙ part_at-other name (first ∷ gap) (other ++ more) (rw is_first b0) (stops more) (differs more)

optional-other : (name other : Text) (o : Option Text) (s rest : Text) → ((x : Text) → prefix_len is_blank (other ++ x) ≡ 0) → ((x : Text) → literal_at name (other ++ x) ≡ None) →
    IsOptionalPart other o s → part_at name rest ≡ None → part_at name (s ++ rest) ≡ None
optional-other name other None s rest stops differs is none = rw is none
optional-other name other (Some value) s rest stops differs is none = part-other name other value s rest stops differs is

pub optional_at-complete : (name : Text) (o : Option Text) (s rest : Text) → ((x : Text) → prefix_len is_blank (name ++ x) ≡ 0) → IsOptionalPart name o s → part_at name rest ≡ None →
    ◌≡◌ {A = Option Text × Text} (optional_at name (s ++ rest)) (o, rest)
optional_at-complete name None s rest stops is none = rw is (ap (λ p. or_absent p rest) none)
optional_at-complete name (Some value) s rest stops is none = ap (λ p. or_absent p (s ++ rest)) (part_at-complete name value s rest stops is)

pub optional_at-sound : (name s : Text) → (t : Text) × IsOptionalPart name (optional_at name s).0 t × (s ≡ t ++ (optional_at name s).1)
optional_at-sound name s = by_part (part_at name s) refl
  where
    by_part : (p : Option (Text × Text)) → part_at name s ≡ p → (t : Text) × IsOptionalPart name (or_absent p s).0 t × (s ≡ t ++ (or_absent p s).1)
    by_part None e = ([], refl, refl)
    by_part (Some x) e = part_at-sound name s x.0 x.1 e

-- ---- the declaration

end_stops : (name gap rest : Text) → AreBlanks gap → literal_at name (codes "?>" ++ rest) ≡ None → part_at name (gap ++ (codes "?>" ++ rest)) ≡ None
end_stops name gap rest blanks none = part_at-other name gap (codes "?>" ++ rest) blanks refl none

part_len : (name : Text) (o : Option Text) (s : Text) → IsOptionalPart name o s → is_none o ≡ false → 0 < length s
part_len name None s is h = absurd (let bad : ⊥ = cc in bad)
part_len name (Some value) s (first, gap, before, after, quote, is_first, b0, b1, b2, q, all, is) h = rw is (omega arith)

no_part : (name : Text) (o : Option Text) (s : Text) → IsOptionalPart name o s → is_none o ≡ true → s ≡ []
no_part name None s is h = is
no_part name (Some value) s is h = absurd (let bad : ⊥ = cc in bad)

none_absent : (a b c : Bool) → (a && b && c) ≡ false → (a ≡ false) ⊎ ((b ≡ false) ⊎ (c ≡ false))
none_absent false b c h = inl refl
none_absent true false c h = inr (inl refl)
none_absent true true c h = inr (inr h)

some_part : (version encoding standalone : Option Text) (one two three : Text) → IsOptionalPart (codes "version") version one → IsOptionalPart (codes "encoding") encoding two →
    IsOptionalPart (codes "standalone") standalone three → 0 < length (one ++ two ++ three) → (is_none version && is_none encoding && is_none standalone) ≡ false
some_part None None None one two three a b c some = absurd (let sizes : length (one ++ two ++ three) ≡ 0 = rw (a, b, c) refl in omega arith)
some_part None None (Some z) one two three a b c some = refl
some_part None (Some y) standalone one two three a b c some = refl
some_part (Some x) encoding standalone one two three a b c some = refl

longer : (version encoding standalone : Option Text) (one two three : Text) → IsOptionalPart (codes "version") version one → IsOptionalPart (codes "encoding") encoding two →
    IsOptionalPart (codes "standalone") standalone three → (is_none version && is_none encoding && is_none standalone) ≡ false → 0 < length (one ++ two ++ three)
longer version encoding standalone one two three a b c some =
    let size1 : length (one ++ two ++ three) ≡ length (one ++ two) + length three = length-append (one ++ two) three in
    let size2 : length (one ++ two) ≡ length one + length two = length-append one two in
    elim (none_absent (is_none version) (is_none encoding) (is_none standalone) some) [
      | inl h ↦ omega (arith, part_len (codes "version") version one a h)
      | inr r ↦ elim r [
        | inl h ↦ omega (arith, part_len (codes "encoding") encoding two b h)
        | inr h ↦ omega (arith, part_len (codes "standalone") standalone three c h)
      ]
    ]

pub declaration_at-complete : (encoding : Option Text) (s rest : Text) → IsDeclaration encoding s → declaration_at (s ++ rest) ≡ Some (encoding, rest)
unfolding declaration_at
declaration_at-complete encoding s rest (version, standalone, one, two, three, gap, p1, p2, p3, some, blanks, is) =
    let end = gap ++ (codes "?>" ++ rest) in
    let whole : s ++ rest ≡ codes "<?xml" ++ (one ++ (two ++ (three ++ end))) = ap (λ t. t ++ rest) is ∙ simp append_assoc in
    let at3 : ◌≡◌ {A = Option Text × Text} (optional_at (codes "standalone") (three ++ end)) (standalone, end) =
    optional_at-complete (codes "standalone") standalone three end (λ x. refl) p3 (end_stops (codes "standalone") gap rest blanks refl) in
    let no2 : part_at (codes "encoding") (three ++ end) ≡ None =
    optional-other (codes "encoding") (codes "standalone") standalone three end (λ x. refl) (λ x. refl) p3 (end_stops (codes "encoding") gap rest blanks refl) in
    let at2 : ◌≡◌ {A = Option Text × Text} (optional_at (codes "encoding") (two ++ (three ++ end))) (encoding, three ++ end) =
    optional_at-complete (codes "encoding") encoding two (three ++ end) (λ x. refl) p2 no2 in
    let no1a : part_at (codes "version") (three ++ end) ≡ None =
    optional-other (codes "version") (codes "standalone") standalone three end (λ x. refl) (λ x. refl) p3 (end_stops (codes "version") gap rest blanks refl) in
    let no1 : part_at (codes "version") (two ++ (three ++ end)) ≡ None =
    optional-other (codes "version") (codes "encoding") encoding two (three ++ end) (λ x. refl) (λ x. refl) p2 no1a in
    let at1 : ◌≡◌ {A = Option Text × Text} (optional_at (codes "version") (one ++ (two ++ (three ++ end)))) (version, two ++ (three ++ end)) =
    optional_at-complete (codes "version") version one (two ++ (three ++ end)) (λ x. refl) p1 no1 in
    let present = some_part version encoding standalone one two three p1 p2 p3 some in
    let skip : skip_blanks end ≡ codes "?>" ++ rest = skip_blanks-complete gap (codes "?>" ++ rest) blanks refl in
    ap declaration_at whole ∙ rw at1 (rw at2 (rw at3 (rw (skip, present) refl)))

pub record ReadsDeclaration (s : Text) (encoding : Option Text) (rest : Text) : Type 0 where
  pub declared : Text
  pub is_declaration : IsDeclaration encoding declared
  pub split : s ≡ declared ++ rest

pub declaration_at-sound : (s : Text) (encoding : Option Text) (rest : Text) → declaration_at s ≡ Some (encoding, rest) → ReadsDeclaration s encoding rest
unfolding declaration_at
declaration_at-sound s encoding rest h =
    bind-then (literal_at (codes "<?xml") s) _ _ h (λ x begun h1.
    bind-then (literal_at (codes "?>") (skip_blanks (parts_at x).1)) _ _ h1 (λ r closed h2.
    joined x r (literal_at-sound (codes "<?xml") s x begun) (optional_at-sound (codes "version") x) (optional_at-sound (codes "encoding") (optional_at (codes "version") x).1)
    (optional_at-sound (codes "standalone") (optional_at (codes "encoding") (optional_at (codes "version") x).1).1)
    (literal_at-sound (codes "?>") (skip_blanks (parts_at x).1) r closed) (skip_blanks-sound (parts_at x).1)
    (guarded (is_none (parts_at x).0.0.0 && is_none (parts_at x).0.0.1 && is_none (parts_at x).0.1) (parts_at x).0.0.1 r h2)))
  where
    guarded : (b : Bool) (e : Option Text) (r : Text) → cond {A = Option (Option Text × Text)} b None (Some (e, r)) ≡ Some (encoding, rest) → (b ≡ false) × (e ≡ encoding) × (r ≡ rest)
    guarded true e r h = absurd (let bad : ⊥ = cc in bad)
    guarded false e r h = let same = same_pair e encoding r rest h in (refl, same.0, same.1)

    joined : (x r : Text) → s ≡ codes "<?xml" ++ x → (let one = optional_at (codes "version") x in
        let two = optional_at (codes "encoding") one.1 in
        let three = optional_at (codes "standalone") two.1 in
        (t : Text) × IsOptionalPart (codes "version") one.0 t × (x ≡ t ++ one.1) → (t : Text) × IsOptionalPart (codes "encoding") two.0 t × (one.1 ≡ t ++ two.1) →
        (t : Text) × IsOptionalPart (codes "standalone") three.0 t × (two.1 ≡ t ++ three.1) → skip_blanks three.1 ≡ codes "?>" ++ r →
        (gap : Text) × AreBlanks gap × (three.1 ≡ gap ++ skip_blanks three.1) × (prefix_len is_blank (skip_blanks three.1) ≡ 0) →
        ((is_none one.0 && is_none two.0 && is_none three.0) ≡ false) × (two.0 ≡ encoding) × (r ≡ rest) → ReadsDeclaration s encoding rest)
    joined x r begun p1 p2 p3 closed gap present =
        let one = optional_at (codes "version") x in
        let two = optional_at (codes "encoding") one.1 in
        let three = optional_at (codes "standalone") two.1 in
        let text = codes "<?xml" ++ (p1.0 ++ (p2.0 ++ (p3.0 ++ (gap.0 ++ codes "?>")))) in
        let some = longer one.0 two.0 three.0 p1.0 p2.0 p3.0 p1.1 p2.1 p3.1 present.0 in
        let P : Option Text → Type 0 = λ e. IsOptionalPart (codes "encoding") e p2.0 in
        record {
          declared = text;
          is_declaration = (one.0, three.0, p1.0, p2.0, p3.0, gap.0, p1.1, subst P present.1 p2.1, p3.1, some, gap.1, sym (simp append_assoc));
          split = begun ∙ ap (λ t. codes "<?xml" ++ t) (p1.2 ∙ ap (λ t. p1.0 ++ t) (p2.2 ∙ ap (λ t. p2.0 ++ t) (p3.2 ∙ ap (λ t. p3.0 ++ t) (gap.2 ∙ ap (λ t. gap.0 ++ t)
              (closed ∙ ap (λ t. codes "?>" ++ t) present.2))))) ∙ sym (simp append_assoc);
        }
