-- A text has one filter or one refusal.
use Rattle.std.proofs.Common.{◌≡◌, ◌⊎◌, inl, inr, ℕ, zero, suc, ◌+◌, ◌-◌, ◌<◌, ◌≤◌, true, false, cond, List, [], ◌∷◌, length, take, Option, Some, None, refl, sym, ◌∙◌, ap, subst, arith}
use Rattle.std.specs.Prelude.{nat_eq, nat_lt, is_some}
use Rattle.std.proofs.lemmas.Bool.Decides.{nat_tests}
use Rattle.filter_text.specs.Filter.{Text, Path, path, Condition}
use Rattle.filter_tokens.specs.Token.{Placed}
use Rattle.filter_text.specs.Grammar.{Symbol, IsPath, IsCondition, conjunct, simple, operand, of_path}
use Rattle.filter_text.specs.Reading.{symbols_of, first_outside, first_too_deep, at_document, place_of, IsSentence, GoesOn, IsStop, IsTokenized, IsOfFilters, Reads}
use Rattle.filter_text.specs.Refusal.{Refuses}
use Rattle.filter_text.specs.Size.{IsSmall, size_of_path, steps_in_path}
use Rattle.filter_tokens.specs.Scan.{cut_of}
use Rattle.filter_text.specs.Machine.{Machine, beginning, sentence_of, path_of_machine, Walked, refused, ended, walk}
use Rattle.filter_text.specs.declared.fault.FilterFault.{FilterFault}
use Rattle.filter_text.specs.declared.fault.FilterFault.TheVariants.{Length, BadToken, OutOfProfile, Syntax, TooDeep, NotPath, NoMemory}
use Rattle.filter_tokens.proofs.CutLaws.{is-cut, one-cut, few-tokens}
use Rattle.filter_text.proofs.Walks.{one_path, sentence-found, path-found, walk-ended}
use Rattle.filter_text.proofs.Sound.{beginning-ok}
use Rattle.filter_text.proofs.Sizes.{path-fits}
use Rattle.filter_text.proofs.TokensRead.{front-goes_on, stop-refused, stop-ended, sentence-ended, path-ended}

same-tokens : (s : Text) (ks js : List Placed) → IsOfFilters s ks → IsOfFilters s js → ks ≡ js
same-tokens s ks js a b = (one-cut s ks js a.end b.end [] [] a.tokenized.cut b.tokenized.cut).0

pub one-filter : (s : Text) (f g : Path) → Reads f s → Reads g s → f ≡ g
one-filter s f g a b =
    let same = same-tokens s b.tokens a.tokens b.of_filters a.of_filters in
    let there : IsPath (symbols_of a.tokens) b.spelled = subst (λ (x : List Placed). IsPath (symbols_of x) b.spelled) same b.is_path in
    a.is_filter ∙ ap at_document (one_path (symbols_of a.tokens) a.spelled b.spelled a.is_path there) ∙ sym b.is_filter

-- what is read is small
at_document-size : (p : Path) → (size_of_path (at_document p) ≡ size_of_path p) × (steps_in_path (at_document p) ≡ steps_in_path p)
at_document-size (path absolute ss) = (refl, refl)

symbols-length : (ks : List Placed) → length (symbols_of ks) ≡ length ks
symbols-length [] = refl
symbols-length (k ∷ ks) = ap suc (symbols-length ks)

pub small : (s : Text) (f : Path) → Reads f s → IsSmall f
small s f r =
    let fits = path-fits (symbols_of r.tokens) r.spelled r.is_path in
    let count = symbols-length r.tokens in
    let few = few-tokens r.tokens 0 s r.of_filters.end [] r.of_filters.tokenized.cut in
    let limit = r.of_filters.tokenized.few in
    let size = fits.size_fits in let steps = fits.steps_fit in
    let same = at_document-size r.spelled in let a = same.0 in let b = same.1 in
    subst IsSmall (sym r.is_filter) (omega arith, omega arith)

-- ---- the one refusal

abbrev by_path : Option Path → Option FilterFault
by_path None = Some (NotPath 0)
by_path (Some p) = None

abbrev by_depth : Option ℕ → Machine → Option FilterFault
by_depth (Some place) m = Some (TooDeep place)
by_depth None m = by_path (path_of_machine m)

abbrev by_walk : Walked → List Placed → ℕ → Option FilterFault
by_walk (refused place) ks end = Some (Syntax place)
by_walk (ended m) ks end = cond (is_some (sentence_of m)) (by_depth (first_too_deep 0 ks) m) (Some (Syntax end))

abbrev by_outside : Option ℕ → List Placed → ℕ → Option FilterFault
by_outside (Some place) ks end = Some (OutOfProfile place)
by_outside None ks end = by_walk (walk ks beginning) ks end

abbrev by_rest : ℕ → List Placed × Text → Option FilterFault
by_rest size x = cond (nat_eq (length x.1) 0) (by_outside (first_outside x.0) x.0 size) (Some (BadToken (size - length x.1)))

abbrev fault_at : Text → Option FilterFault
fault_at s = cond (nat_eq (length s) 0) (Some (Length 0)) (cond (nat_lt 1024 (length s)) (Some (Length 1024)) (by_rest (length s) (cut_of s)))

not-zero : (n : ℕ) → 0 < n → nat_eq n 0 ≡ false
not-zero n lt = grind (arith, nat_tests)

not-long : (n : ℕ) → n ≤ 1024 → nat_lt 1024 n ≡ false
not-long n le = grind (arith, nat_tests)

is-long : (n : ℕ) → 1024 < n → (nat_eq n 0 ≡ false) × (nat_lt 1024 n ≡ true)
is-long n lt = (grind (arith, nat_tests), grind (arith, nat_tests))

at-cut : (s : Text) (ks : List Placed) (end : ℕ) (rest : Text) → IsTokenized s ks end rest → (fault_at s ≡ by_rest (length s) (ks, rest)) × (end + length rest ≡ length s)
at-cut s ks end rest t =
    let c = is-cut ks (length s) (length s) 0 s end rest t.cut (omega arith) (omega arith) in
    (rw (not-zero (length s) t.some, not-long (length s) t.few) (ap (by_rest (length s)) c.0), c.1)

at-tokens : (s : Text) (ks : List Placed) → IsOfFilters s ks → fault_at s ≡ by_walk (walk ks beginning) ks (length s)
at-tokens s ks t = (at-cut s ks t.end [] t.tokenized).0 ∙ ap (λ o. by_outside o ks (length s)) t.inside

take-take : (ts : List Symbol) (n m : ℕ) → n ≤ m → take n (take m ts) ≡ take n ts
take-take ts zero m le = refl
take-take ts (suc n) zero le = absurd (let bad : ⊥ = omega arith in bad)
take-take [] (suc n) (suc m) le = refl
take-take (t ∷ ts) (suc n) (suc m) le = ap (λ x. t ∷ x) (take-take ts n m (omega arith))

not-before : (ks : List Placed) (end p q : ℕ) (a : IsStop ks end p) (b : IsStop ks end q) → a.at < b.at → ⊥
not-before ks end p q a b lt =
    let within = b.within in
    a.stops (omega arith) (subst GoesOn (take-take (symbols_of ks) (a.at + 1) b.at (omega arith)) (front-goes_on (take b.at (symbols_of ks)) (a.at + 1) b.front))

one-stop : (ks : List Placed) (end p q : ℕ) → IsStop ks end p → IsStop ks end q → p ≡ q
one-stop ks end p q a b =
    let x = not-before ks end p q a b in
    let y = not-before ks end q p b a in
    let same : a.at ≡ b.at = omega (arith, x, y) in
    a.is_place ∙ ap (λ n. place_of ks n end) same ∙ sym b.is_place

syntax-walk : (ks : List Placed) (end place : ℕ) → IsStop ks end place → by_walk (walk ks beginning) ks end ≡ Some (Syntax place)
syntax-walk ks end place stop = on_walk (walk ks beginning) refl
  where
    on_walk : (w : Walked) → walk ks beginning ≡ w → by_walk w ks end ≡ Some (Syntax place)
    on_walk (refused p) e = ap (λ n. Some (Syntax n)) (one-stop ks end p place (stop-refused ks end p e) stop)
    on_walk (ended m) e = on_sentence (sentence_of m) refl
      where
        on_sentence : (o : Option Condition) → sentence_of m ≡ o → cond (is_some o) (by_depth (first_too_deep 0 ks) m) (Some (Syntax end)) ≡ Some (Syntax place)
        on_sentence None f = ap (λ n. Some (Syntax n)) (one-stop ks end end place (stop-ended ks end m e f) stop)
        on_sentence (Some c) f = absurd (stop.no_sentence (sentence-ended ks m c e f))

-- a sentence is walked to its end
sentence-walk : (ks : List Placed) (end : ℕ) (c : Condition) → IsCondition (symbols_of ks) c → (m : Machine) × (walk ks beginning ≡ ended m) × (by_walk (walk ks beginning) ks end ≡ by_depth (first_too_deep 0 ks) m)
sentence-walk ks end c is = on_walk (walk ks beginning) refl
  where
    on_walk : (w : Walked) → walk ks beginning ≡ w → (m : Machine) × (w ≡ ended m) × (by_walk w ks end ≡ by_depth (first_too_deep 0 ks) m)
    on_walk (refused p) e = absurd ((stop-refused ks end p e).no_sentence (c, is))
    on_walk (ended m) e = (m, refl, (let found = sentence-found (symbols_of ks) m c (walk-ended ks beginning m [] beginning-ok e).1 is in rw found refl))

path-condition : (ts : List Symbol) (p : Path) → IsPath ts p → IsSentence ts
path-condition ts p is = (_, conjunct ts _ (simple ts _ (operand ts _ (of_path ts p is))))

no-path-read : (o : Option Path) → ((p : Path) → o ≡ Some p → ⊥) → by_path o ≡ Some (NotPath 0)
no-path-read None none = refl
no-path-read (Some p) none = absurd (none p refl)

pub determined : (s : Text) (fault : FilterFault) → Refuses s fault → (fault ≡ NoMemory) ⊎ (fault_at s ≡ Some fault)
determined s (Length place) (inl (e, p)) = inr (rw (e, p) refl)
determined s (Length place) (inr (lt, p)) = inr (let t = is-long (length s) lt in let a = t.0 in let b = t.1 in rw (a, b, p) refl)
determined s (BadToken place) r =
    let t = at-cut s r.tokens place r.rest r.tokenized in
    let some : 0 < length r.rest = positive r.rest r.goes_on in
    let sizes = t.1 in
    let same : length s - length r.rest ≡ place = omega arith in
    inr (t.0 ∙ (let n = not-zero (length r.rest) some in rw n (ap (λ x. Some (BadToken x)) same)))
  where
    positive : (x : Text) → (x ≡ [] → ⊥) → 0 < length x
    positive [] f = absurd (f refl)
    positive (b ∷ x) f = omega arith
determined s (OutOfProfile place) r = inr ((at-cut s r.tokens r.end [] r.tokenized).0 ∙ ap (λ o. by_outside o r.tokens (length s)) r.outside)
determined s (Syntax place) r = inr (at-tokens s r.tokens r.of_filters ∙ syntax-walk r.tokens (length s) place r.stop)
determined s (TooDeep place) r =
    let w = sentence-walk r.tokens (length s) r.sentence.0 r.sentence.1 in
    inr (at-tokens s r.tokens r.of_filters ∙ w.2 ∙ ap (λ o. by_depth o w.0) r.deep)
determined s (NotPath place) r =
    let w = sentence-walk r.tokens (length s) r.sentence.0 r.sentence.1 in
    inr (at-tokens s r.tokens r.of_filters ∙ w.2 ∙ ap (λ o. by_depth o w.0) r.shallow ∙ no-path-read (path_of_machine w.0) (λ p e. r.no_path p (path-ended r.tokens w.0 p w.1 e)) ∙ ap (λ n. Some (NotPath n)) (sym r.is_place))
determined s NoMemory r = inl refl

pub read-fault : (s : Text) (f : Path) → Reads f s → fault_at s ≡ None
read-fault s f r =
    let c = path-condition (symbols_of r.tokens) r.spelled r.is_path in
    let w = sentence-walk r.tokens (length s) c.0 c.1 in
    let found = path-found (symbols_of r.tokens) w.0 r.spelled (walk-ended r.tokens beginning w.0 [] beginning-ok w.1).1 r.is_path in
    at-tokens s r.tokens r.of_filters ∙ w.2 ∙ ap (λ o. by_depth o w.0) r.shallow ∙ ap by_path found

pub not-refused : (s : Text) (f : Path) (fault : FilterFault) → Reads f s → Refuses s fault → fault ≡ NoMemory
not-refused s f fault r e = elim (determined s fault e) [ inl n ↦ n | inr n ↦ absurd (let bad : None ≡ Some fault = sym (read-fault s f r) ∙ n in let worse : ⊥ = none-some fault bad in worse) ]
  where
    none-some : (x : FilterFault) → None ≡ Some x → ⊥
    none-some x h = cc

pub one-refusal : (s : Text) (a b : FilterFault) → Refuses s a → Refuses s b → (a ≡ NoMemory) ⊎ ((b ≡ NoMemory) ⊎ (a ≡ b))
one-refusal s a b x y =
    elim (determined s a x) [
      | inl n ↦ inl n
      | inr m ↦ inr (elim (determined s b y) [ inl n ↦ inl n | inr n ↦ inr (let both : Some a ≡ Some b = sym m ∙ n in cc) ])
    ]
