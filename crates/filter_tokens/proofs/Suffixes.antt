-- What is left of a text behind its front.
use Rattle.std.proofs.Common.{◌≡◌, ◌+◌, ◌≤◌, ◌<◌, ℕ, zero, suc, Bool, true, false, [], ◌∷◌, ◌++◌, length, take, drop, refl, ◌∙◌, ap, arith}
use Rattle.std.specs.List.{list_all, prefix_len}
use Rattle.std.specs.Char.{is_ascii_digit}
use Rattle.std.proofs.lemmas.Bool.Decides.{nat_tests}
use Rattle.xml_lexer.specs.Characters.{starts_name}
use Rattle.xml_lexer.proofs.Runs.{both}
use Rattle.xml_lexer.specs.Characters.{Text}

pub record Suffix (rest s : Text) : Type 0 where
  pub short : length rest ≤ length s
  pub same : length rest ≡ length s → rest ≡ s

pub suffix-refl : (s : Text) → Suffix s s
suffix-refl s = record { short = omega arith; same = λ e. refl }

pub suffix-trans : (a b c : Text) → Suffix a b → Suffix b c → Suffix a c
suffix-trans a b c x y =
    record { short = (let p = x.short in let q = y.short in omega arith); same = λ e. (let p = x.short in let q = y.short in let eb : length b ≡ length c = omega arith in let ea : length a ≡ length b = omega arith in x.same ea ∙ y.same eb) }

pub suffix-tail : (b : ℕ) (a s : Text) → Suffix a s → Suffix a (b ∷ s)
suffix-tail b a s x = record { short = (let p = x.short in omega arith); same = λ e. absurd (let p = x.short in let bad : ⊥ = omega arith in bad) }

pub suffix-drop : (n : ℕ) (s : Text) → Suffix (drop n s) s
suffix-drop zero s = suffix-refl s
suffix-drop (suc n) [] = suffix-refl []
suffix-drop (suc n) (b ∷ s) = suffix-tail b (drop n s) s (suffix-drop n s)

-- a run goes on behind its first part
pub prefix_len-more : (p : ℕ → Bool) (a s : Text) → list_all p a ≡ true → prefix_len p (a ++ s) ≡ length a + prefix_len p s
prefix_len-more p [] s all = omega arith
prefix_len-more p (x ∷ a) s all =
    let t = both (p x) (list_all p a) all in
    let rest = prefix_len-more p a s t.1 in
    rw (t.0, rest) (omega arith)

pub drop-more : (a s : Text) (n : ℕ) → drop (length a + n) (a ++ s) ≡ drop n s
drop-more [] s n = let e : 0 + n ≡ n = omega arith in rw e refl
drop-more (x ∷ a) s n = let e : suc (length a) + n ≡ suc (length a + n) = omega arith in rw e (drop-more a s n)

pub take-more : (a s : Text) (n : ℕ) → take (length a + n) (a ++ s) ≡ a ++ take n s
take-more [] s n = let e : 0 + n ≡ n = omega arith in rw e refl
take-more (x ∷ a) s n = let e : suc (length a) + n ≡ suc (length a + n) = omega arith in rw e (ap (λ l. x ∷ l) (take-more a s n))

pub digit-ascii : (b : ℕ) → is_ascii_digit b ≡ true → b < 128
digit-ascii b h = grind (arith, nat_tests)

-- what begins no name is ASCII
pub low_mark : (b : ℕ) → starts_name b ≡ false → b < 128
low_mark b h = grind (arith, nat_tests)
