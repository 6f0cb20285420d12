-- One step of reading attributes.
use Rattle.std.proofs.Common.{◌≡◌, ◌||◌, ◌++◌, ℕ, zero, suc, Bool, true, false, cond, List, [], ◌∷◌, slice_index, Option, Some, None, refl, ap, append_assoc, append-nil, sym, ◌∙◌}
use Rattle.std.specs.Prelude.{not, is_some}
use Rattle.xml_lexer.specs.Characters.{Text, is_blank}
use Rattle.xml_lexer.specs.Token.{Spelled}
use Rattle.xml_lexer.specs.Scan.{◌>>=◌, skip_blanks, tag_end_at, attribute_at, no_attributes_at, attributes_at, with_front}

pub attributes_at-end : (n : ℕ) (s : Text) (e : Bool × Text) → tag_end_at (skip_blanks s) ≡ Some e → attributes_at n s ≡ Some (([], e.0), e.1)
unfolding attributes_at
attributes_at-end zero s e h = rw h refl
attributes_at-end (suc n) s e h = rw h refl

pub attributes_at-no_blank : (n : ℕ) (s : Text) → tag_end_at (skip_blanks s) ≡ None → is_blank (slice_index s 0) ≡ false → attributes_at n s ≡ None
unfolding attributes_at
attributes_at-no_blank zero s h b = rw h refl
attributes_at-no_blank (suc n) s h b = rw (h, b) refl

pub attributes_at-bad : (n : ℕ) (s : Text) → tag_end_at (skip_blanks s) ≡ None → attribute_at (skip_blanks s) ≡ None → attributes_at n s ≡ None
unfolding attributes_at
attributes_at-bad zero s h a = rw h refl
attributes_at-bad (suc n) s h a =
    elim (is_blank (slice_index s 0)) as (λ b. cond (is_some (tag_end_at (skip_blanks s)) || not b) (no_attributes_at s)
    (attribute_at (skip_blanks s) >>= λ x. attributes_at n x.1 >>= λ more. Some ((x.0 ∷ more.0.0, more.0.1), more.1)) ≡ None)
    [ true ↦ rw (h, a) refl | false ↦ rw h refl ]

pub attributes_at-more : (n : ℕ) (s : Text) (a : Spelled × Text) (front : List Spelled) → tag_end_at (skip_blanks s) ≡ None → is_blank (slice_index s 0) ≡ true →
    attribute_at (skip_blanks s) ≡ Some a → with_front front (attributes_at (suc n) s) ≡ with_front (front ++ a.0 ∷ []) (attributes_at n a.1)
unfolding attributes_at
attributes_at-more n s a front h b e = rw (h, b, e) (added front a.0 (attributes_at n a.1))
  where
    added : (front : List Spelled) (x : Spelled) (r : Option ((List Spelled × Bool) × Text)) →
        with_front front (r >>= λ more. Some ((x ∷ more.0.0, more.0.1), more.1)) ≡ with_front (front ++ x ∷ []) r
    added front x None = refl
    added front x (Some y) = ap (λ l. Some ((l, y.0.1), y.1)) (sym (append_assoc front (x ∷ []) y.0.0))

-- The same steps, where what was read before stands in front.

pub front-end : (front : List Spelled) (n : ℕ) (s : Text) (b : Bool) (rest : Text) (whole : Option ((List Spelled × Bool) × Text)) →
    tag_end_at (skip_blanks s) ≡ Some (b, rest) → with_front front (attributes_at n s) ≡ whole → Some ((front, b), rest) ≡ whole
front-end front n s b rest whole h e =
    ap (λ l. Some ((l, b), rest)) (sym (append-nil front)) ∙ ap (with_front front) (sym (attributes_at-end n s (b, rest) h)) ∙ e

pub front-no_blank : (front : List Spelled) (n : ℕ) (s : Text) (whole : Option ((List Spelled × Bool) × Text)) →
    tag_end_at (skip_blanks s) ≡ None → is_blank (slice_index s 0) ≡ false → with_front front (attributes_at n s) ≡ whole → None ≡ whole
front-no_blank front n s whole h b e = ap (with_front front) (sym (attributes_at-no_blank n s h b)) ∙ e

pub front-bad : (front : List Spelled) (n : ℕ) (s : Text) (whole : Option ((List Spelled × Bool) × Text)) →
    tag_end_at (skip_blanks s) ≡ None → attribute_at (skip_blanks s) ≡ None → with_front front (attributes_at n s) ≡ whole → None ≡ whole
front-bad front n s whole h a e = ap (with_front front) (sym (attributes_at-bad n s h a)) ∙ e

pub front-more : (front : List Spelled) (n m : ℕ) (s : Text) (a : Spelled) (rest : Text) (whole : Option ((List Spelled × Bool) × Text)) → m ≡ suc n →
    tag_end_at (skip_blanks s) ≡ None → is_blank (slice_index s 0) ≡ true → attribute_at (skip_blanks s) ≡ Some (a, rest) →
    with_front front (attributes_at m s) ≡ whole → with_front (front ++ a ∷ []) (attributes_at n rest) ≡ whole
front-more front n m s a rest whole size h b r e =
    sym (attributes_at-more n s (a, rest) front h b r) ∙ ap (λ k. with_front front (attributes_at k s)) (sym size) ∙ e

pub front-last : (front : List Spelled) (n : ℕ) (s : Text) (whole : Option ((List Spelled × Bool) × Text)) → n ≡ 0 →
    tag_end_at (skip_blanks s) ≡ None → with_front front (attributes_at n s) ≡ whole → None ≡ whole
unfolding attributes_at
front-last front n s whole size h e =
    (rw h refl) ∙ ap (λ k. with_front front (attributes_at k s)) (sym size) ∙ e
