-- Standings with a citation more.
use Rattle.std.proofs.Common.{◌≡◌, ◌∙◌, ap, sym, refl, subst, inl, inr, ◌⊎◌, ℕ, zero, suc, ◌<◌, Bool, true, false, ◌&&◌, ◌||◌, List, [], ◌∷◌, ◌++◌, length, get_or, set, take, append_assoc, ◌+◌, Some, None, All, arith}
use Rattle.std.specs.Prelude.{if◌then◌else◌}
use Rattle.std.specs.List.{slice_get, list_any}
use Rattle.std.specs.Str.{bytes_eq}
use Rattle.std.proofs.lemmas.Bool.{cases_eq}
use Rattle.std.proofs.lemmas.List.Folds.{list_any-append, list_any_none}
use Rattle.std.proofs.lemmas.List.Elements.{All-nil, All-push, All-weaker}
use Rattle.std.proofs.lemmas.Option.{slice_get_within, same_Some}
use Rattle.voe_values.specs.declared.citation.Cite.{Cite}
use Rattle.voe_values.specs.declared.citation.Cite.TheVariants.{Followup, Supersedes, Retraction}
use Rattle.cite_index.specs.declared.standing.Standing.{Standing}
use Rattle.cite_index.specs.declared.standing.Standing.TheVariants.{Current, Superseded, Retracted}
use Rattle.cite_index.specs.declared.standings.Standings.{Standings}
use Rattle.cite_index.specs.declared.triple.Triple.{Triple}
use Rattle.cite_index.specs.Cites.{after, is_of, is_retraction, is_supersession, retracts, standing, supersedes}
use Rattle.cite_index.specs.Names.{is_in}
use Rattle.cite_index.specs.Kept.{AreStandings, knows}
use Rattle.cite_index.proofs.Naming.{at_of_in, at_push, at_front, at_last, bytes_same, in_front, in_of_at, none_is_some, not_at, one_more, same_bytes, true_or_false}

of_tests : Bool → Bool → Standing
of_tests r s = if r then Retracted else (if s then Superseded else Current)

test_step : (r s o : Bool) (k : Cite) → of_tests (r || ((o && is_retraction k) || false)) (s || ((o && is_supersession k) || false)) ≡ (if o then after (of_tests r s) k else of_tests r s)
unfolding of_tests
test_step true true true Followup = refl
test_step true true true Supersedes = refl
test_step true true true Retraction = refl
test_step true true false Followup = refl
test_step true true false Supersedes = refl
test_step true true false Retraction = refl
test_step true false true Followup = refl
test_step true false true Supersedes = refl
test_step true false true Retraction = refl
test_step true false false Followup = refl
test_step true false false Supersedes = refl
test_step true false false Retraction = refl
test_step false true true Followup = refl
test_step false true true Supersedes = refl
test_step false true true Retraction = refl
test_step false true false Followup = refl
test_step false true false Supersedes = refl
test_step false true false Retraction = refl
test_step false false true Followup = refl
test_step false false true Supersedes = refl
test_step false false true Retraction = refl
test_step false false false Followup = refl
test_step false false false Supersedes = refl
test_step false false false Retraction = refl

as_tests : (cites : List Triple) (x : List ℕ) → standing cites x ≡ of_tests (list_any (retracts x) cites) (list_any (supersedes x) cites)
unfolding of_tests
as_tests cites x = refl

pub standing_push : (cites : List Triple) (t : Triple) (x : List ℕ) → standing (cites ++ t ∷ []) x ≡ (if is_of x t then after (standing cites x) t.kind else standing cites x)
unfolding of_tests
standing_push cites t x =
    let one : list_any (retracts x) (cites ++ t ∷ []) ≡ (list_any (retracts x) cites || (retracts x t || false)) = list_any-append (retracts x) cites (t ∷ []) in
    let two : list_any (supersedes x) (cites ++ t ∷ []) ≡ (list_any (supersedes x) cites || (supersedes x t || false)) = list_any-append (supersedes x) cites (t ∷ []) in
    ap (λ (r : Bool). of_tests r (list_any (supersedes x) (cites ++ t ∷ []))) one
    ∙ (ap (λ (s : Bool). of_tests (list_any (retracts x) cites || (retracts x t || false)) s) two
    ∙ test_step (list_any (retracts x) cites) (list_any (supersedes x) cites) (is_of x t) t.kind)

pub standing_after : (cites : List Triple) (t : Triple) → standing (cites ++ t ∷ []) t.cited ≡ after (standing cites t.cited) t.kind
standing_after cites t = standing_push cites t t.cited ∙ ap (λ (b : Bool). if b then after (standing cites t.cited) t.kind else standing cites t.cited) (bytes_same t.cited t.cited refl)

pub standing_other : (cites : List Triple) (t : Triple) (x : List ℕ) → (t.cited ≡ x → ⊥) → standing (cites ++ t ∷ []) x ≡ standing cites x
standing_other cites t x ne =
    elim (true_or_false (is_of x t)) as (λ v. standing (cites ++ t ∷ []) x ≡ standing cites x) [
      | inl h ↦ absurd (ne (same_bytes t.cited x h))
      | inr h ↦ standing_push cites t x ∙ ap (λ (b : Bool). if b then after (standing cites x) t.kind else standing cites x) h
    ]

not_of : (names : List (List ℕ)) (x : List ℕ) (t : Triple) → is_in names t.cited ≡ true → is_in names x ≡ false → is_of x t ≡ false
not_of names x t known new =
    elim (true_or_false (is_of x t)) as (λ v. is_of x t ≡ false) [
      | inl h ↦ let n : true ≡ false = sym known ∙ (ap (is_in names) (same_bytes t.cited x h) ∙ new) in absurd (cc n)
      | inr h ↦ h
    ]

-- nothing is cited under an identifier that is not known
pub uncited : (names : List (List ℕ)) (cites : List Triple) (x : List ℕ) → All (λ t. is_in names t.cited ≡ true) cites → is_in names x ≡ false → standing cites x ≡ Current
uncited names cites x known new =
    let one : list_any (retracts x) cites ≡ false = list_any_none (retracts x) cites (All-weaker (λ (t : Triple). is_in names t.cited ≡ true) (λ (t : Triple). retracts x t ≡ false) (λ t h. ap (λ (b : Bool). b && is_retraction t.kind) (not_of names x t h new)) cites known) in
    let two : list_any (supersedes x) cites ≡ false = list_any_none (supersedes x) cites (All-weaker (λ (t : Triple). is_in names t.cited ≡ true) (λ (t : Triple). supersedes x t ≡ false) (λ t h. ap (λ (b : Bool). b && is_supersession t.kind) (not_of names x t h new)) cites known) in
    rw (one, two) refl

set_here : (xs : List Standing) (k : ℕ) (v : Standing) → k < length xs → slice_get (set xs k v) k ≡ Some v
set_here [] k v h = absurd (omega arith)
set_here (x ∷ xs) zero v h = refl
set_here (x ∷ xs) (suc k) v h = set_here xs k v (omega arith)

set_there : (xs : List Standing) (k j : ℕ) (v : Standing) → (j ≡ k → ⊥) → slice_get (set xs k v) j ≡ slice_get xs j
set_there [] k j v ne = refl
set_there (x ∷ xs) zero zero v ne = absurd (ne refl)
set_there (x ∷ xs) zero (suc j) v ne = refl
set_there (x ∷ xs) (suc k) zero v ne = refl
set_there (x ∷ xs) (suc k) (suc j) v ne = set_there xs k j v (λ e. ne (ap suc e))

abbrev pub Tells : List Triple → List (List ℕ) → List Standing → Type 0
Tells cites names kept = (n : ℕ) (x : List ℕ) → slice_get names n ≡ Some x → slice_get kept n ≡ Some (standing cites x)

pub noted : (cites : List Triple) (t : Triple) (names : List (List ℕ)) (kept : List Standing) (at : ℕ) (was : Standing) → slice_get names at ≡ Some t.cited → ((n : ℕ) → slice_get names n ≡ Some t.cited → n ≡ at) → length kept ≡ length names → slice_get kept at ≡ Some was → Tells cites names kept → Tells (cites ++ t ∷ []) names (set kept at (after was t.kind))
noted cites t names kept at was here only same is tells n x e =
    elim (cases_eq n at) as (λ v. slice_get (set kept at (after was t.kind)) n ≡ Some (standing (cites ++ t ∷ []) x)) [
      | inl h ↦
          let x_is : t.cited ≡ x = same_Some t.cited x (sym here ∙ (ap (slice_get names) (sym h) ∙ e)) in
          let was_is : was ≡ standing cites t.cited = same_Some was (standing cites t.cited) (sym is ∙ tells at t.cited here) in
          let within : at < length names = slice_get_within names at t.cited here in
          let within' : at < length kept = omega arith in
          ap (slice_get (set kept at (after was t.kind))) h
          ∙ (set_here kept at (after was t.kind) within'
          ∙ ap (λ (s : Standing). Some s) (ap (λ (s : Standing). after s t.kind) was_is ∙ (sym (standing_after cites t) ∙ ap (standing (cites ++ t ∷ [])) x_is)))
      | inr ne ↦
          let differ : t.cited ≡ x → ⊥ = λ s. ne (only n (e ∙ ap (λ (l : List ℕ). Some l) (sym s))) in
          set_there kept at n (after was t.kind) ne ∙ (tells n x e ∙ ap (λ (s : Standing). Some s) (sym (standing_other cites t x differ)))
    ]

-- a known identifier more, which nothing cites
pub known_more : (cites : List Triple) (names : List (List ℕ)) (kept : List Standing) (i : List ℕ) → ((n : ℕ) → slice_get names n ≡ Some i → ⊥) → length kept ≡ length names → All (λ t. is_in names t.cited ≡ true) cites → Tells cites names kept → Tells cites (names ++ i ∷ []) (kept ++ Current ∷ [])
known_more cites names kept i new same known tells n x e =
    elim (at_push names i n x e) as (λ v. slice_get (kept ++ Current ∷ []) n ≡ Some (standing cites x)) [
      | inl l ↦ kept_front kept n (standing cites x) (tells n x l)
      | inr r ↦
          let none : standing cites i ≡ Current = uncited names cites i known (not_at names i new) in
          let at : n ≡ length kept = r.0 ∙ sym same in
          ap (slice_get (kept ++ Current ∷ [])) at ∙ (kept_last kept ∙ ap (λ (s : Standing). Some s) (sym none ∙ ap (standing cites) r.1))
    ]
  where
    kept_front : (kept : List Standing) (n : ℕ) (s : Standing) → slice_get kept n ≡ Some s → slice_get (kept ++ Current ∷ []) n ≡ Some s
    kept_front kept n s e = at_front kept (Current ∷ []) n s e

    kept_last : (kept : List Standing) → slice_get (kept ++ Current ∷ []) (length kept) ≡ Some Current
    kept_last kept = at_last kept Current

pub still_known : (names : List (List ℕ)) (more : List (List ℕ)) (cites : List Triple) → All (λ t. is_in names t.cited ≡ true) cites → All (λ t. is_in (names ++ more) t.cited ≡ true) cites
still_known names more cites h = All-weaker (λ (t : Triple). is_in names t.cited ≡ true) (λ (t : Triple). is_in (names ++ more) t.cited ≡ true) (λ t k. in_front names more t.cited k) cites h

pub noted_as : (cites : List Triple) (t : Triple) (names : List (List ℕ)) (kept : List Standing) (at : ℕ) (was now : Standing) → now ≡ after was t.kind → slice_get names at ≡ Some t.cited → ((n : ℕ) → slice_get names n ≡ Some t.cited → n ≡ at) → length kept ≡ length names → slice_get kept at ≡ Some was → Tells cites names kept → Tells (cites ++ t ∷ []) names (set kept at now)
noted_as cites t names kept at was now is here only same had tells =
    subst (λ (s : Standing). Tells (cites ++ t ∷ []) names (set kept at s)) (sym is) (noted cites t names kept at was here only same had tells)

pub more_behind : (before xs : List Triple) (i : ℕ) (x : Triple) → i < length xs → x ≡ get_or xs i x → before ++ take (i + 1) xs ≡ (before ++ take i xs) ++ x ∷ []
more_behind before xs i x h e = ap (λ (l : List Triple). before ++ l) (one_more xs i x h e) ∙ sym (append_assoc before (take i xs) (x ∷ []))
