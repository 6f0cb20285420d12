use Rattle.std.proofs.Common.{◌≡◌, ◌≢◌, ◌<◌, ◌-◌, ℕ, suc, Bool, true, false, ◌==◌, nat_lt, List, [], ◌∷◌, ◌++◌, length, take, get_or, refl, sym, ◌∙◌, ap, arith, if◌then◌else◌}
use Rattle.std.proofs.lemmas.Bool.{and_parts, eqb-true}
use Rattle.std.proofs.lemmas.Bool.Decides.{nat_tests}
use Rattle.std.proofs.Math.Seq.{take-suc, take-length}
use Rattle.std.specs.Io.BufRead.{ends_with_byte}
use Rattle.voe_time.proofs.without_zone.Goals as goal

kept : (b : Bool) (s t : List ℕ) → (b ≡ true → ⊥) → s ≡ (if b then t else s)
kept true s t h = absurd (h refl)
kept false s t h = refl

-- a text that ends so is its front and that byte
ended : (s : List ℕ) → ends_with_byte 90 s ≡ true → s ≡ take (length s - 1) s ++ 90 ∷ []
ended s h =
    let parts = and_parts (nat_lt 0 (length s)) (get_or s (length s - 1) 0 == 90) h in
    let first : nat_lt 0 (length s) ≡ true = parts.0 in
    let some : 0 < length s = grind (arith, nat_tests) in
    let last : get_or s (length s - 1) 0 ≡ 90 = eqb-true _ _ parts.1 in
    let place : suc (length s - 1) ≡ length s = omega (arith, some) in
    let cut : take (suc (length s - 1)) s ≡ take (length s - 1) s ++ (get_or s (length s - 1) 0 ∷ []) = take-suc s (length s - 1) 0 (omega (arith, some)) in
    let all : take (suc (length s - 1)) s ≡ s = ap (λ n. take n s) place ∙ take-length s in
    sym all ∙ cut ∙ ap (λ b. take (length s - 1) s ++ (b ∷ [])) last

pub returns-in-None : goal.returns-in-None
unfolding lib.Utf8.encode
returns-in-None c =
    let s : List ℕ = c.args.text.now in
    let none : (front : List ℕ) → s ≢ front ++ (90 ∷ []) = c.in-None.ensures.cases in
    kept (ends_with_byte 90 s) s (take (length s - 1) s) (λ h. none (take (length s - 1) s) (ended s h))
