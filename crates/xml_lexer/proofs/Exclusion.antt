-- The answers leave one another out.
use Rattle.std.proofs.Common.{◌≡◌, ◌+◌, inl, inr, ℕ, Bool, true, List, [], ◌++◌, length, drop, Option, sym, ◌∙◌, ap, subst, arith}
use Rattle.std.specs.Prelude.{nat_eq, codes}
use Rattle.std.specs.List.{starts_with}
use Rattle.std.proofs.lemmas.Bool.{cases_lt}
use Rattle.std.proofs.lemmas.List.{append_cancel_right}
use Rattle.xml_lexer.specs.Characters.{Text, xml_front}
use Rattle.xml_lexer.specs.Token.{Token}
use Rattle.xml_lexer.specs.Cut.{IsCut}
use Rattle.xml_lexer.specs.Phases.{mark_len, without_mark, BeginsDeclared, IsText, IsNoTextAt, IsFrontOf, Covers, StopsAt, IsTokensOf, RefusesText, RefusesToken, RefusesMany}
use Rattle.xml_lexer.proofs.Runs.{same_pair}
use Rattle.xml_lexer.proofs.Cuts.{covering_longest, same_follow, same_tokens, same_cut}
use Rattle.xml_lexer.proofs.Phases.{declared-read}

same_declared : (s : Text) (e f : Option Text) (d g b h : Text) → BeginsDeclared s e d b → BeginsDeclared s f g h → (d ≡ g) × (b ≡ h)
same_declared s e f d g b h one other =
    let rests : b ≡ h = (same_pair e f b h (sym (declared-read s e d b one) ∙ declared-read s f g h other)).1 in
    let both : d ++ b ≡ g ++ b = sym one.1 ∙ other.1 ∙ ap (λ t. g ++ t) (sym rests) in
    (append_cancel_right d g b both, rests)

same_front : (s front other : Text) → IsFrontOf front s → IsFrontOf other s → front ≡ other
same_front s front other (inl (e, d, b, begins, is)) (inl (f, g, h, begins2, is2)) =
    let same = same_declared s e f d g b h begins begins2 in
    is ∙ ap (λ t. t ++ xml_front b) same.0 ∙ ap (λ t. g ++ xml_front t) same.1 ∙ sym is2
same_front s front other (inl (e, d, b, begins, is)) (inr (never, is2)) = absurd (never e d b begins)
same_front s front other (inr (never, is)) (inl (f, g, h, begins2, is2)) = absurd (never f g h begins2)
same_front s front other (inr (never, is)) (inr (never2, is2)) = is ∙ sym is2

same_stop : (s : Text) (d e : Bool) (p q : ℕ) → StopsAt s p d → StopsAt s q e → (d ≡ e) × (p ≡ q)
same_stop s d e p q (front, is_front, ks, after, cut, place, goes_on, test) (front2, is_front2, ks2, after2, cut2, place2, goes_on2, test2) =
    let fronts = same_front s front front2 is_front is_front2 in
    let P : Text → Type 0 = λ t. IsCut t ks after in
    let same = same_cut front2 ks ks2 after after2 (subst P fronts cut) cut2 in
    let afters = ap length same.1 in
    let sizes = ap length fronts in
    let places : p ≡ q = omega (arith, place, place2, afters, sizes) in
    (sym test ∙ ap (λ n. starts_with nat_eq (drop n s) (codes "<!DOCTYPE")) places ∙ test2, places)

covered_stops : (s : Text) (ks : List Token) (d : Bool) (p : ℕ) → StopsAt s p d → Covers s ks → ⊥
covered_stops s ks d p (front, is_front, others, after, cut, place, goes_on, test) (is_whole, follow) =
    let whole : front ≡ s = same_front s front s is_front is_whole in
    let P : Text → Type 0 = λ t. IsCut t others after in
    let cut2 = subst P whole cut in
    let more = cut2.1 ks [] follow in
    let fewer = covering_longest s ks others after follow cut2.0 in
    let same = same_follow true s ks others [] after follow cut2.0 (omega (arith, more, fewer)) in
    let nothing : 0 ≡ length after = ap length same.1 in
    let size = ap length whole in
    omega (arith, place, goes_on, nothing, size)

same_no_text : (s : Text) (p q : ℕ) → IsNoTextAt s p → IsNoTextAt s q → p ≡ q
same_no_text s p q (inl (bad, is)) (inl (bad2, is2)) = is ∙ sym is2
same_no_text s p q (inl (bad, is)) (inr other) = absurd (bad other.0)
same_no_text s p q (inr one) (inl (bad, is)) = absurd (bad one.0)
same_no_text s p q (inr (u, breaks, here, before)) (inr (u2, breaks2, here2, before2)) = elim (cases_lt p q) [
  | inl less ↦ absurd (let low = before2 p less in omega (arith, low, here))
  | inr other ↦ elim (cases_lt q p) [
    | inl less ↦ absurd (let low = before q less in omega (arith, low, here2))
    | inr more ↦ omega (arith, other, more)
  ]
]

pub text_place : (bytes : Text) (p q : ℕ) → RefusesText bytes p → RefusesText bytes q → p ≡ q
text_place bytes p q (at, is, place) (at2, is2, place2) = place ∙ ap (λ n. mark_len bytes + n) (same_no_text (without_mark bytes) at at2 is is2) ∙ sym place2

no_text : (s : Text) (p : ℕ) → IsNoTextAt s p → IsText s → ⊥
no_text s p (inl (bad, is)) (u, keeps) = bad u
no_text s p (inr other) (u, keeps) = other.1 keeps

pub text_first : (bytes : Text) (p : ℕ) → RefusesText bytes p → IsText (without_mark bytes) → ⊥
text_first bytes p (at, is, place) text = no_text (without_mark bytes) at is text

pub token_place : (bytes : Text) (d e : Bool) (p q : ℕ) → RefusesToken bytes d p → RefusesToken bytes e q → (d ≡ e) × (p ≡ q)
token_place bytes d e p q (text, at, stop, place) (text2, at2, stop2, place2) =
    let same = same_stop (without_mark bytes) d e at at2 stop stop2 in
    (same.0, place ∙ ap (λ n. mark_len bytes + n) same.1 ∙ sym place2)

pub token_first : (bytes : Text) (d : Bool) (p : ℕ) (ks : List Token) → RefusesToken bytes d p → Covers (without_mark bytes) ks → ⊥
token_first bytes d p ks (text, at, stop, place) covered = covered_stops (without_mark bytes) ks d at stop covered

pub many_first : (bytes : Text) (ks : List Token) → RefusesMany bytes → IsTokensOf ks bytes → ⊥
many_first bytes ks (text, others, covered, many) (text2, covered2, few) =
    let same = ap length (same_tokens (without_mark bytes) ks others covered2.1 covered.1) in
    omega (arith, many, few, same)
