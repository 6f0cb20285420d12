-- Cutting by the reader is the cut of a text, and there is only one.
use Rattle.std.proofs.Common.{◌≡◌, ◌≢◌, ℕ, zero, suc, ◌+◌, ◌-◌, ◌≤◌, true, false, cond, List, [], ◌∷◌, ◌++◌, length, Option, Some, None, refl, sym, ◌∙◌, ap, subst, append_assoc, length-append, arith}
use Rattle.std.specs.Prelude.{slice_index}
use Rattle.std.specs.List.{prefix_len}
use Rattle.xml_lexer.specs.Characters.{is_blank}
use Rattle.xml_lexer.specs.Scan.{skip_blanks}
use Rattle.xml_lexer.proofs.NameLaws.{skip_blanks-complete, skip_blanks-sound}
use Rattle.xml_lexer.specs.Characters.{Text}
use Rattle.filter_tokens.specs.Token.{Token, Placed, IsSpelled, IsLongest, AreBlanks, IsCut}
use Rattle.filter_tokens.specs.Scan.{token_at, placed_before, tokens_at, cut_of}
use Rattle.filter_tokens.proofs.TokenLaws.{Found, finds, Begins, SoundAt, token-sound}

no-token : token_at [] ≡ None
unfolding token_at
no-token = refl

nothing-found : (s : Text) → token_at s ≡ None → (t : Token) (spelled behind : Text) → IsSpelled t spelled → s ≢ spelled ++ behind
nothing-found s e t spelled behind is f =
    let P : Option (Token × Text) → Type 0 = λ o. Found t behind o in
    subst P (ap token_at (sym f) ∙ e) (finds t spelled behind is)

is-longest : (s spelled rest : Text) (t : Token) → s ≡ spelled ++ rest → token_at s ≡ Some (t, rest) → IsLongest spelled rest
is-longest s spelled rest t e at other longer behind is f =
    let P : Option (Token × Text) → Type 0 = λ o. Found other behind o in
    let found = subst P (ap token_at (sym f) ∙ ap token_at (sym e) ∙ at) (finds other longer behind is) in
    let short = found.0.short in
    let sizes : length spelled + length rest ≡ length longer + length behind = sym (length-append spelled rest) ∙ ap length f ∙ length-append longer behind in
    omega arith

by-longest : (t : Token) (spelled behind : Text) → IsSpelled t spelled → IsLongest spelled behind → token_at (spelled ++ behind) ≡ Some (t, behind)
by-longest t spelled behind is longest = by_token (token_at (spelled ++ behind)) refl (token-sound (spelled ++ behind)) (finds t spelled behind is)
  where
    by_token : (o : Option (Token × Text)) → token_at (spelled ++ behind) ≡ o → SoundAt (spelled ++ behind) o → Found t behind o → token_at (spelled ++ behind) ≡ Some (t, behind)
    by_token None e s f = absurd f
    by_token (Some x) e s f =
        let le = longest x.0 s.spelled x.1 s.is_spelled s.is_front in
        let sizes : length spelled + length behind ≡ length s.spelled + length x.1 = sym (length-append spelled behind) ∙ ap length s.is_front ∙ length-append s.spelled x.1 in
        let short = f.0.short in
        let size : length x.1 ≡ length behind = omega arith in
        let rest : x.1 ≡ behind = f.0.same size in
        let token : x.0 ≡ t = f.1 size in
        e ∙ ap (λ y. Some (y, x.1)) token ∙ ap (λ y. Some (t, y)) rest

-- ---- what the reader cuts is a cut

no-blank-front : (s : Text) → is_blank (slice_index s 0) ≡ false → prefix_len is_blank s ≡ 0
no-blank-front [] h = refl
no-blank-front (b ∷ s) h = rw h refl

front-no-blank : (s : Text) → prefix_len is_blank s ≡ 0 → is_blank (slice_index s 0) ≡ false
front-no-blank [] h = refl
front-no-blank (b ∷ s) h =
    elim (is_blank b) as (λ o. is_blank b ≡ o → cond o (1 + prefix_len is_blank s) 0 ≡ 0 → is_blank b ≡ false) [
      | true ↦ λ e z. absurd (let bad : ⊥ = omega arith in bad)
      | false ↦ λ e z. e
    ] refl h

empty-of : (s : Text) → length s ≤ 0 → s ≡ []
empty-of [] le = refl
empty-of (b ∷ s) le = absurd (let bad : ⊥ = omega arith in bad)

stop-cut : (size : ℕ) (s gap : Text) (from : ℕ) → AreBlanks gap → prefix_len is_blank s ≡ 0 → from + length gap + length s ≡ size → token_at s ≡ None → IsCut from (gap ++ s) [] (size - length s) s
stop-cut size s gap from blanks front sizes none = (gap, blanks, refl, omega arith, front-no-blank s front, nothing-found s none)

pub cut-is : (n size : ℕ) (s gap : Text) (from : ℕ) → AreBlanks gap → prefix_len is_blank s ≡ 0 → length s ≤ n → from + length gap + length s ≡ size →
    IsCut from (gap ++ s) (tokens_at n size s).0 (size - length (tokens_at n size s).1) (tokens_at n size s).1
unfolding tokens_at
cut-is zero size s gap from blanks front le sizes = stop-cut size s gap from blanks front sizes (ap token_at (empty-of s le) ∙ no-token)
cut-is (suc n) size s gap from blanks front le sizes =
    by_token (token_at s) refl (token-sound s) (λ r g f b z l e. cut-is n size r g f b z l e)
  where
    by_token : (o : Option (Token × Text)) → token_at s ≡ o → SoundAt s o →
        ((r g : Text) (f : ℕ) → AreBlanks g → prefix_len is_blank r ≡ 0 → length r ≤ n → f + length g + length r ≡ size → IsCut f (g ++ r) (tokens_at n size r).0 (size - length (tokens_at n size r).1) (tokens_at n size r).1) →
        IsCut from (gap ++ s) (placed_before size s o (tokens_at n size)).0 (size - length (placed_before size s o (tokens_at n size)).1) (placed_before size s o (tokens_at n size)).1
    by_token None e b others = stop-cut size s gap from blanks front sizes e
    by_token (Some x) e b others =
        let skipped = skip_blanks-sound x.1 in
        let whole : length s ≡ length b.spelled + length x.1 = ap length b.is_front ∙ length-append b.spelled x.1 in
        let parts : length x.1 ≡ length skipped.0 + length (skip_blanks x.1) = ap length skipped.2 ∙ length-append skipped.0 (skip_blanks x.1) in
        let some = b.some in
        let next = others (skip_blanks x.1) skipped.0 (from + length gap + length b.spelled) skipped.1 skipped.3 (omega arith) (omega arith) in (
          gap,
          b.spelled,
          x.1,
          blanks,
          ap (λ y. gap ++ y) b.is_front ∙ sym (append_assoc gap b.spelled x.1),
          omega arith,
          b.is_spelled,
          is-longest s b.spelled x.1 x.0 b.is_front e,
          subst (λ (y : Text). IsCut (from + length gap + length b.spelled) y (tokens_at n size (skip_blanks x.1)).0 (size - length (tokens_at n size (skip_blanks x.1)).1) (tokens_at n size (skip_blanks x.1)).1) (sym skipped.2) next,
        )

-- the cut that the reader makes
pub cut-of : (s : Text) → IsCut 0 s (cut_of s).0 (length s - length (cut_of s).1) (cut_of s).1
cut-of s =
    let skipped = skip_blanks-sound s in
    let parts : length s ≡ length skipped.0 + length (skip_blanks s) = ap length skipped.2 ∙ length-append skipped.0 (skip_blanks s) in
    subst (λ (y : Text). IsCut 0 y (cut_of s).0 (length s - length (cut_of s).1) (cut_of s).1) (sym skipped.2)
    (cut-is (length s) (length s) (skip_blanks s) skipped.0 0 skipped.1 skipped.3 (omega arith) (omega arith))

-- ---- there is only one

stop-at : (n size : ℕ) (s : Text) → token_at s ≡ None → ◌≡◌ {A = List Placed × Text} (tokens_at n size s) ([], s)
unfolding tokens_at
stop-at zero size s e = refl
stop-at (suc n) size s e = ap (λ o. placed_before size s o (tokens_at n size)) e

token-none : (s : Text) → ((t : Token) (spelled behind : Text) → IsSpelled t spelled → s ≢ spelled ++ behind) → token_at s ≡ None
token-none s none = by_token (token_at s) refl (token-sound s)
  where
    by_token : (o : Option (Token × Text)) → token_at s ≡ o → SoundAt s o → token_at s ≡ None
    by_token None e b = e
    by_token (Some x) e b = absurd (none x.0 b.spelled x.1 b.is_spelled b.is_front)

begins-at : (s : Text) (x : Token × Text) → token_at s ≡ Some x → Begins s x.0 x.1
begins-at s x e = let P : Option (Token × Text) → Type 0 = λ o. SoundAt s o in subst P e (token-sound s)

abbrev pub IsCutting : ℕ → ℕ → Text → List Placed → ℕ → Text → Type 0
IsCutting n size s ks end rest = (◌≡◌ {A = List Placed × Text} (tokens_at n size (skip_blanks s)) (ks, rest)) × (end + length rest ≡ size)

pub is-cut : (ks : List Placed) (n size from : ℕ) (s : Text) (end : ℕ) (rest : Text) → IsCut from s ks end rest → length s ≤ n → from + length s ≡ size → IsCutting n size s ks end rest
unfolding tokens_at
is-cut [] n size from s end rest (gap, blanks, e, at, front, none) le sizes =
    let skipped : skip_blanks s ≡ rest = ap skip_blanks e ∙ skip_blanks-complete gap rest blanks (no-blank-front rest front) in
    let parts : length s ≡ length gap + length rest = ap length e ∙ length-append gap rest in
    (ap (tokens_at n size) skipped ∙ stop-at n size rest (token-none rest none), omega arith)
is-cut (k ∷ ks) zero size from s end rest (gap, spelled, behind, blanks, e, at, is, longest, more) le sizes =
    absurd (let some = (begins-at (spelled ++ behind) (k.token, behind) (by-longest k.token spelled behind is longest)) in
    let whole : length s ≡ (length gap + length spelled) + length behind = ap length e ∙ length-append (gap ++ spelled) behind ∙ ap (λ x. x + length behind) (length-append gap spelled) in
    let inner : length some.spelled + length behind ≡ length spelled + length behind = sym (length-append some.spelled behind) ∙ ap length (sym some.is_front) ∙ length-append spelled behind in
    let positive = some.some in
    let bad : ⊥ = omega arith in bad)
is-cut (k ∷ ks) (suc n) size from s end rest (gap, spelled, behind, blanks, e, at, is, longest, more) le sizes =
    let found = by-longest k.token spelled behind is longest in
    let begins = begins-at (spelled ++ behind) (k.token, behind) found in
    let whole : length s ≡ (length gap + length spelled) + length behind = ap length e ∙ length-append (gap ++ spelled) behind ∙ ap (λ x. x + length behind) (length-append gap spelled) in
    let inner : length begins.spelled + length behind ≡ length spelled + length behind = sym (length-append begins.spelled behind) ∙ ap length (sym begins.is_front) ∙ length-append spelled behind in
    let positive = begins.some in
    let joint : length (spelled ++ behind) ≡ length spelled + length behind = length-append spelled behind in
    let skipped : skip_blanks s ≡ spelled ++ behind =
    ap skip_blanks (e ∙ append_assoc gap spelled behind) ∙ skip_blanks-complete gap (spelled ++ behind) blanks (no-blank-front (spelled ++ behind) begins.no_blank) in
    let others = is-cut ks n size (from + length gap + length spelled) behind end rest more (omega arith) (omega arith) in
    let place : size - length (spelled ++ behind) ≡ k.place = omega arith in
    let one : ◌≡◌ {A = List Placed × Text} (tokens_at (suc n) size (spelled ++ behind)) (k ∷ (tokens_at n size (skip_blanks behind)).0, (tokens_at n size (skip_blanks behind)).1) =
    ap (λ o. placed_before size (spelled ++ behind) o (tokens_at n size)) found
    ∙ ap (λ p. (record { token = k.token; place = p } ∷ (tokens_at n size (skip_blanks behind)).0, (tokens_at n size (skip_blanks behind)).1)) place in
    (ap (tokens_at (suc n) size) skipped ∙ one ∙ ap (λ x. (k ∷ x.0, x.1)) others.0, others.1)

-- a text has one cut
pub one-cut : (s : Text) (ks others : List Placed) (end stop : ℕ) (rest more : Text) → IsCut 0 s ks end rest → IsCut 0 s others stop more → (ks ≡ others) × (end ≡ stop) × (rest ≡ more)
one-cut s ks others end stop rest more a b =
    let x = is-cut ks (length s) (length s) 0 s end rest a (omega arith) (omega arith) in
    let y = is-cut others (length s) (length s) 0 s stop more b (omega arith) (omega arith) in
    let same : ◌≡◌ {A = List Placed × Text} (ks, rest) (others, more) = sym x.0 ∙ y.0 in
    let behind : rest ≡ more = ap (λ p. p.1) same in
    let sizes : length rest ≡ length more = ap length behind in
    let first = x.1 in let second = y.1 in
    (ap (λ p. p.0) same, omega arith, behind)

pub rest-short : (s : Text) (k : Token) (rest : Text) → token_at s ≡ Some (k, rest) → length (skip_blanks rest) ≤ length s
rest-short s k rest e =
    let begins = begins-at s (k, rest) e in
    let whole : length s ≡ length begins.spelled + length rest = ap length begins.is_front ∙ length-append begins.spelled rest in
    let skipped = skip_blanks-sound rest in
    let parts : length rest ≡ length skipped.0 + length (skip_blanks rest) = ap length skipped.2 ∙ length-append skipped.0 (skip_blanks rest) in
    omega arith

-- each token has a byte
pub few-tokens : (ks : List Placed) (from : ℕ) (s : Text) (end : ℕ) (rest : Text) → IsCut from s ks end rest → length ks + length rest ≤ length s
few-tokens [] from s end rest (gap, blanks, e, at, front, none) = let parts : length s ≡ length gap + length rest = ap length e ∙ length-append gap rest in omega arith
few-tokens (k ∷ ks) from s end rest (gap, spelled, behind, blanks, e, at, is, longest, more) =
    let begins = begins-at (spelled ++ behind) (k.token, behind) (by-longest k.token spelled behind is longest) in
    let whole : length s ≡ (length gap + length spelled) + length behind = ap length e ∙ length-append (gap ++ spelled) behind ∙ ap (λ x. x + length behind) (length-append gap spelled) in
    let inner : length begins.spelled + length behind ≡ length spelled + length behind = sym (length-append begins.spelled behind) ∙ ap length (sym begins.is_front) ∙ length-append spelled behind in
    let positive = begins.some in
    let others = few-tokens ks (from + length gap + length spelled) behind end rest more in
    omega arith
