-- Choices among finitely many, where each can't be missing.
use Rattle.std.proofs.Common.{◌≡◌, ◌⊎◌, inl, inr, ℕ, zero, suc, ◌<◌, ◌==◌, Bool, true, false, cond, List, [], ◌∷◌, refl, sym, ◌∙◌, subst, arith}
use Rattle.std.specs.Prelude.{IsTrue, ◌↔◌}
use Rattle.std.specs.Str.{bytes_eq}
use Rattle.std.proofs.lemmas.Bool.{false≢true}
use Rattle.std.proofs.lemmas.Bool.Decides.{Decides-eqb}
use Rattle.std.proofs.lemmas.Slice.Eq.{bytes_eq-Decides}
use Rattle.net_model.specs.Laws.{IsIn}

-- it can't be missing
abbrev pub CanBe : Type 0 → Type 0
CanBe P = (P → ⊥) → ⊥

pub then_can : {P Q : Type 0} → CanBe P → (P → CanBe Q) → CanBe Q
then_can can next never = can (λ p. next p never)

pub so_can : {P Q : Type 0} → CanBe P → (P → Q) → CanBe Q
so_can can next never = can (λ p. never (next p))

-- what holds or not is told by a bit
pub decided : (P : Type 0) → CanBe ((b : Bool) × (IsTrue b ↔ P))
decided P never = never (false, ((λ wrong. absurd (false≢true wrong)), (λ p. absurd (never (true, ((λ yes. p), (λ q. refl)))))))

either_bool : (r : Bool) → (r ≡ true) ⊎ (r ≡ false)
either_bool true = inl refl
either_bool false = inr refl

-- one for each number below another
pub each_number : {X : Type 0} (other : X) (P : ℕ → X → Type 0) (count : ℕ) → ((k : ℕ) → k < count → CanBe ((x : X) × P k x))
    → CanBe ((f : ℕ → X) × ((k : ℕ) → k < count → P k (f k)))
each_number {X = X} other P zero can = λ never. never ((λ k. other), (λ k lt. absurd (omega arith)))
each_number {X = X} other P (suc count) can =
    then_can (each_number other P count (λ k lt. can k (omega arith))) (λ before.
    so_can (can count (omega arith)) (λ last.
    let chosen : ℕ → _ = λ k. cond (k == count) last.0 (before.0 k) in
    (chosen, (λ k lt. at before last k lt (either_bool (k == count))))))
  where
    at : (before : (f : ℕ → X) × ((k : ℕ) → k < count → P k (f k))) (last : (x : X) × P count x) (k : ℕ) → k < suc count → ((k == count) ≡ true) ⊎ ((k == count) ≡ false)
        → P k (cond (k == count) last.0 (before.0 k))
    at before last k lt (inl is) =
        let same : k ≡ count = (Decides-eqb k count).0 is in
        subst (λ b. P k (cond b last.0 (before.0 k))) (sym is) (subst (λ n. P n last.0) (sym same) last.1)
    at before last k lt (inr not) =
        let apart : k ≡ count → ⊥ = λ same. false≢true (sym not ∙ (Decides-eqb k count).1 same) in
        subst (λ b. P k (cond b last.0 (before.0 k))) (sym not) (before.1 k (omega arith))

-- one for each of some texts
pub each_text : {X : Type 0} (other : X) (P : List ℕ → X → Type 0) (texts : List (List ℕ)) → ((text : List ℕ) → IsIn text texts → CanBe ((x : X) × P text x))
    → CanBe ((f : List ℕ → X) × ((text : List ℕ) → IsIn text texts → P text (f text)))
each_text {X = X} other P [] can = λ never. never ((λ text. other), (λ text is. absurd is))
each_text {X = X} other P (first ∷ more) can =
    then_can (each_text other P more (λ text is. can text (inr is))) (λ behind.
    so_can (can first (inl refl)) (λ own.
    let chosen : List ℕ → _ = λ text. cond (bytes_eq text first) own.0 (behind.0 text) in
    (chosen, (λ text is. at behind own text is (either_bool (bytes_eq text first))))))
  where
    at : (behind : (f : List ℕ → X) × ((text : List ℕ) → IsIn text more → P text (f text))) (own : (x : X) × P first x) (text : List ℕ) → IsIn text (first ∷ more)
        → (bytes_eq text first ≡ true) ⊎ (bytes_eq text first ≡ false) → P text (cond (bytes_eq text first) own.0 (behind.0 text))
    at behind own text is (inl same) =
        subst (λ b. P text (cond b own.0 (behind.0 text))) (sym same) (subst (λ t. P t own.0) (sym ((bytes_eq-Decides text first).0 same)) own.1)
    at behind own text (inl here) (inr not) = absurd (false≢true (sym not ∙ (bytes_eq-Decides text first).1 here))
    at behind own text (inr later) (inr not) = subst (λ b. P text (cond b own.0 (behind.0 text))) (sym not) (behind.1 text later)
