-- Runs of bytes at the front of a text.
use Rattle.std.proofs.Common.{◌≡◌, ◌+◌, ◌&&◌, ◌==◌, ℕ, suc, Bool, true, false, cond, [], ◌∷◌, ◌++◌, length, take, drop, Option, Some, None, refl, ◌∙◌, ap, arith, eq-eqb, eqb-true}
use Rattle.std.specs.List.{list_all, prefix_len}
use Rattle.std.proofs.Math.Seq.{take-append_seam, drop-append_seam}
use Rattle.xml_lexer.specs.Characters.{Text}
use Rattle.xml_lexer.specs.Scan.{◌>>=◌, byte_at}

pub both : (a b : Bool) → (a && b) ≡ true → (a ≡ true) × (b ≡ true)
both true b h = (refl, h)
both false b h = cc

pub bind-some : {A B : Type 0} (r : Option A) (f : A → Option B) (y : B) → (r >>= f) ≡ Some y → (x : A) × (r ≡ Some x) × (f x ≡ Some y)
bind-some None f y h = cc
bind-some (Some x) f y h = (x, refl, h)

-- the same, for a proof that goes on with the value by a name
pub bind-then : {A B G : Type 0} (r : Option A) (f : A → Option B) (y : B) → (r >>= f) ≡ Some y → ((x : A) → r ≡ Some x → f x ≡ Some y → G) → G
bind-then None f y h k = absurd (let bad : ⊥ = cc in bad)
bind-then (Some x) f y h k = k x refl h

some-injective : {A : Type 0} (x y : A) → Some x ≡ Some y → x ≡ y
some-injective x y h = cc

pub same_pair : {A B : Type 0} (a c : A) (b d : B) → ◌≡◌ {A = Option (A × B)} (Some (a, b)) (Some (c, d)) → (a ≡ c) × (b ≡ d)
same_pair {A} {B} a c b d h =
    let e : ◌≡◌ {A = A × B} (a, b) (c, d) = some-injective {A = A × B} _ _ h in
    (ap (λ p. p.0) e, ap (λ p. p.1) e)

pub guard-some : {A : Type 0} (b : Bool) (x y : A) → cond b (Some x) None ≡ Some y → (b ≡ true) × (x ≡ y)
guard-some true x y h = (refl, cc)
guard-some false x y h = cc

pub prefix_len-run : (p : ℕ → Bool) (a s : Text) → list_all p a ≡ true → prefix_len p s ≡ 0 → prefix_len p (a ++ s) ≡ length a
prefix_len-run p [] s all stops = stops
prefix_len-run p (x ∷ a) s all stops =
    let t = both (p x) (list_all p a) all in
    let rest = prefix_len-run p a s t.1 stops in
    rw (t.0, rest) (omega arith)

-- a run and what stops it
pub take-run : (p : ℕ → Bool) (a s : Text) → list_all p a ≡ true → prefix_len p s ≡ 0 → take (prefix_len p (a ++ s)) (a ++ s) ≡ a
take-run p a s all stops = rw (prefix_len-run p a s all stops) (take-append_seam a s)

pub drop-run : (p : ℕ → Bool) (a s : Text) → list_all p a ≡ true → prefix_len p s ≡ 0 → drop (prefix_len p (a ++ s)) (a ++ s) ≡ s
drop-run p a s all stops = rw (prefix_len-run p a s all stops) (drop-append_seam a s)

pub list_all-run : (p : ℕ → Bool) (s : Text) → list_all p (take (prefix_len p s) s) ≡ true
list_all-run p [] = refl
list_all-run p (x ∷ s) =
    elim (p x) as (λ b. p x ≡ b → list_all p (take (cond b (1 + prefix_len p s) 0) (x ∷ s)) ≡ true)
    [ true ↦ λ e. (let one : 1 + prefix_len p s ≡ suc (prefix_len p s) = omega arith in rw (one, e) (list_all-run p s)) | false ↦ λ e. refl ] refl

pub prefix_len-behind : (p : ℕ → Bool) (s : Text) → prefix_len p (drop (prefix_len p s) s) ≡ 0
prefix_len-behind p [] = refl
prefix_len-behind p (x ∷ s) =
    elim (p x) as (λ b. p x ≡ b → prefix_len p (drop (cond b (1 + prefix_len p s) 0) (x ∷ s)) ≡ 0)
    [ true ↦ λ e. (let one : 1 + prefix_len p s ≡ suc (prefix_len p s) = omega arith in rw one (prefix_len-behind p s)) | false ↦ λ e. rw e refl ] refl

pub byte_at-some : (b : ℕ) (s rest : Text) → byte_at b s ≡ Some rest → s ≡ b ∷ rest
byte_at-some b [] rest h = cc
byte_at-some b (x ∷ s) rest h =
    let t = guard-some (x == b) s rest h in
    ap (λ y. y ∷ s) (eqb-true x b t.0) ∙ ap (λ r. b ∷ r) t.1

pub byte_at-cons : (b : ℕ) (rest : Text) → byte_at b (b ∷ rest) ≡ Some rest
byte_at-cons b rest = rw (eq-eqb b b refl) refl
