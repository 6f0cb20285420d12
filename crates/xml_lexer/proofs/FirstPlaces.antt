-- The first place of some bytes, as the search gives it.
use Rattle.std.proofs.Common.{◌≡◌, ◌+◌, ◌≤◌, ◌<◌, ℕ, zero, suc, Bool, true, false, [], ◌∷◌, length, take, drop, Option, Some, None, refl, sym, ap, subst, arith, length-drop}
use Rattle.std.specs.Prelude.{nat_eq, slice_index, IfSome, not}
use Rattle.std.specs.List.{starts_with, prefix_len}
use Rattle.std.specs.Cmp.Lexicographic.{bytes_decides}
use Rattle.memchr.specs.Find.{OccursAt, IsFirst, IsFirstByte, is_byte2}
use Rattle.memchr.proofs.lemmas.MatchLemmas.{OccursAt-part, OccursAt-from_part}
use Rattle.xml_lexer.specs.Characters.{Text}
use Rattle.xml_lexer.specs.Spelling.{is_text_byte}
use Rattle.xml_lexer.specs.Scan.{find_at}

abbrev pub stands : Text → Text → ℕ → Bool
stands ending s k = starts_with nat_eq (drop k s) ending

pub find_at-some : (ending s : Text) (k : ℕ) → k ≤ length s → stands ending s k ≡ true → ((j : ℕ) → j < k → stands ending s j ≡ false) → find_at ending s ≡ Some k
find_at-some ending [] zero le h before = rw h refl
find_at-some ending [] (suc k) le h before = absurd (omega arith)
find_at-some ending (b ∷ s) zero le h before = rw h refl
find_at-some ending (b ∷ s) (suc k) le h before =
    rw (before 0 (omega arith), find_at-some ending s k (omega arith) h (λ j lt. before (suc j) (omega arith))) refl

pub find_at-none : (ending s : Text) → ((j : ℕ) → j ≤ length s → stands ending s j ≡ false) → find_at ending s ≡ None
find_at-none ending [] never = rw (never 0 (omega arith)) refl
find_at-none ending (b ∷ s) never = rw (never 0 (omega arith), find_at-none ending s (λ j le. never (suc j) (omega arith))) refl

pub stands-occurs : (s ending : Text) (k : ℕ) → OccursAt s ending k → stands ending s k ≡ true
stands-occurs s ending k h = (bytes_decides ending (take (length ending) (drop k s))).1 (sym (OccursAt-part s ending k h))

pub occurs-stands : (s ending : Text) (k : ℕ) → k ≤ length s → stands ending s k ≡ true → OccursAt s ending k
occurs-stands s ending k le h =
    let e : ending ≡ take (length ending) (drop k s) = (bytes_decides ending (take (length ending) (drop k s))).0 h in
    let size : length ending ≡ length (take (length ending) (drop k s)) = ap length e in
    OccursAt-from_part s ending k (omega (arith, short (length ending) (drop k s) size, length-drop k s)) (sym e)
  where
    short : (n : ℕ) (t : Text) → n ≡ length (take n t) → n ≤ length t
    short zero t h = omega arith
    short (suc n) [] h = absurd (omega arith)
    short (suc n) (b ∷ t) h = omega (arith, short n t (omega arith))

not_stands : (s ending : Text) (k : ℕ) → k ≤ length s → (OccursAt s ending k → ⊥) → stands ending s k ≡ false
not_stands s ending k le never = cases (stands ending s k) refl
  where
    cases : (b : Bool) → stands ending s k ≡ b → b ≡ false
    cases true e = absurd (never (occurs-stands s ending k le e))
    cases false e = refl

-- what the search finds
pub found : (s ending : Text) (r : Option ℕ) → IsFirst (OccursAt s ending) 0 (length s + 1) r → r ≡ find_at ending s
found s ending None h = sym (find_at-none ending s (λ j le. not_stands s ending j le (λ o. h j (omega arith) (omega arith) o)))
found s ending (Some k) h =
    let high = h.0.high in
    sym (find_at-some ending s k (omega arith) (stands-occurs s ending k h.1) (λ j lt. not_stands s ending j (omega arith) (λ o. h.0.before j (omega arith) lt o)))

pub record Finds (s ending : Text) (r : Option ℕ) : Type 0 where
  pub value : r ≡ find_at ending s
  pub within : IfSome r (λ at. at < length s)
  pub first : IfSome r (λ at. slice_index s at ≡ slice_index ending 0)

finds_here : (s ending : Text) (r : Option ℕ) → 0 < length ending → IsFirst (OccursAt s ending) 0 (length s + 1) r → Finds s ending r
finds_here s ending None some h = record { value = found s ending None h; within = tt; first = tt }
finds_here s ending (Some k) some h =
    let fits = h.1.fits in
    let at : k + 0 ≡ k = omega arith in
    record { value = found s ending (Some k) h; within = omega arith; first = rw at at (h.1.reads 0 some) }

pub finds : (s t ending e : Text) (r : Option ℕ) → s ≡ t → ending ≡ e → 0 < length e → IsFirst (OccursAt s ending) 0 (length s + 1) r → Finds t e r
finds s t ending e r p q some h =
    let P : Text → Type 0 = λ x. Finds x e r in
    let Q : Text → Type 0 = λ x. 0 < length x in
    let R : Text → Type 0 = λ x. Finds s x r in
    subst P p (subst R q (finds_here s ending r (subst Q (sym q) some) h))

-- ---- runs of bytes

run_to : (p : ℕ → Bool) (s : Text) (k : ℕ) → k < length s → ((j : ℕ) → j < k → p (slice_index s j) ≡ true) → p (slice_index s k) ≡ false → prefix_len p s ≡ k
run_to p [] k lt all stop = absurd (omega arith)
run_to p (b ∷ s) zero lt all stop = rw stop refl
run_to p (b ∷ s) (suc k) lt all stop = rw (all 0 (omega arith), run_to p s k (omega arith) (λ j l. all (suc j) (omega arith)) stop) (omega arith)

run_through : (p : ℕ → Bool) (s : Text) → ((j : ℕ) → j < length s → p (slice_index s j) ≡ true) → prefix_len p s ≡ length s
run_through p [] all = refl
run_through p (b ∷ s) all = rw (all 0 (omega arith), run_through p s (λ j l. all (suc j) (omega arith))) (omega arith)

abbrev pub end_of : Option ℕ → Text → ℕ
end_of None s = length s
end_of (Some k) s = k

passes_not : (b : Bool) → (b ≡ true → ⊥) → not b ≡ true
passes_not true h = absurd (h refl)
passes_not false h = refl

run_end : (test : ℕ → Bool) (s : Text) (r : Option ℕ) → IsFirstByte test s r → end_of r s ≡ prefix_len (λ b. not (test b)) s
run_end test s None h = sym (run_through (λ b. not (test b)) s (λ j l. passes_not (test (slice_index s j)) (h j (omega arith) l)))
run_end test s (Some k) h =
    sym (run_to (λ b. not (test b)) s k h.0.high (λ j l. passes_not (test (slice_index s j)) (h.0.before j (omega arith) l)) (ap not h.1))

-- where a text run ends
pub text_end : (s t : Text) (r : Option ℕ) → s ≡ t → IsFirstByte (is_byte2 60 38) s r → end_of r t ≡ prefix_len is_text_byte t
text_end s t r e h = let P : Text → Type 0 = λ x. end_of r x ≡ prefix_len is_text_byte x in subst P e (run_end (is_byte2 60 38) s r h)
