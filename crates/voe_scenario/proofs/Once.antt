-- Lines give one outcome.
use Rattle.std.proofs.Common.{◌≡◌, ℕ, ◌+◌, Bool, true, false, List, [], ◌∷◌, Option, Some, None, Result, Err, length, nat_lt, refl, sym, ◌∙◌, ap, subst}
use Rattle.std.specs.Bool.{MatchBool}
use Rattle.std.specs.Option.{MatchOption}
use Rattle.voe_scenario.specs.Lines.{DecidedBy, LinesRead, Refusal, TextRead, is_passed_over, taken_with}
use Rattle.voe_scenario.specs.Rules.{IsLeastBroken, IsRefusedFilter, least_that_holds}
use Rattle.voe_scenario.specs.Words.{lines_of}

filter_once : (filter : Option (List ℕ)) (p q : Option ℕ) → IsRefusedFilter filter p → IsRefusedFilter filter q → p ≡ q
filter_once None p q first second = first ∙ sym second
filter_once (Some text) None None first second = refl
filter_once (Some text) None (Some n) first second = absurd (second.1 first)
filter_once (Some text) (Some m) None first second = absurd (first.1 second)
filter_once (Some text) (Some m) (Some n) first second = ap Some (first.0 ∙ sym second.0)

least_of : (least : Option ℕ) (filter : Option (List ℕ)) (p q : Option ℕ)
    → MatchOption least (IsRefusedFilter filter p) (λ number. p ≡ Some number)
    → MatchOption least (IsRefusedFilter filter q) (λ number. q ≡ Some number) → p ≡ q
least_of None filter p q first second = filter_once filter p q first second
least_of (Some number) filter p q first second = first ∙ sym second

-- a line breaks one least rule
pub least_once : (rules : List (ℕ × Bool)) (filter : Option (List ℕ)) (p q : Option ℕ) → IsLeastBroken rules filter p → IsLeastBroken rules filter q → p ≡ q
least_once rules filter p q first second = least_of (least_that_holds rules) filter p q first second

module _ {S : Type 0} (Refuses : S → List ℕ → Option ℕ → Type 0) (with_line : S → List ℕ → S)
    (once : (s : S) (line : List ℕ) (p q : Option ℕ) → Refuses s line p → Refuses s line q → p ≡ q) where
  refused_once : (b : Bool) (s : S) (line : List ℕ) (p q : Option ℕ) → MatchBool b (p ≡ None) (Refuses s line p) → MatchBool b (q ≡ None) (Refuses s line q) → p ≡ q
  refused_once true s line p q first second = first ∙ sym second
  refused_once false s line p q first second = once s line p q first second

  decided_once : (p : Option ℕ) (place : ℕ) (a b : Result S Refusal) (A B : Type 0) → DecidedBy p place a A → DecidedBy p place b B → (A → B → a ≡ b) → a ≡ b
  decided_once None place a b A B first second others = others first second
  decided_once (Some number) place a b A B first second others = first ∙ sym second

  lines_once : (before : S) (place : ℕ) (lines : List (List ℕ)) (a b : Result S Refusal)
      → LinesRead Refuses with_line before place lines a → LinesRead Refuses with_line before place lines b → a ≡ b
  unfolding LinesRead
  lines_once before place [] a b first second = first ∙ sym second
  lines_once before place (line ∷ lines) a b first second =
      let same = refused_once (is_passed_over line) before line second.0 first.0 second.1 first.1 in
      let after : S = taken_with with_line before line in
      let B : Type 0 = LinesRead Refuses with_line after (place + 1) lines b in
      let moved = subst (λ p. DecidedBy p place b B) same second.2 in
      decided_once first.0 place a b _ B first.2 moved (lines_once after (place + 1) lines a b)

  chosen_once : (b : Bool) (refused x y : Result S Refusal) (X Y : Type 0) → MatchBool b (x ≡ refused) X → MatchBool b (y ≡ refused) Y → (X → Y → x ≡ y) → x ≡ y
  chosen_once true refused x y X Y first second others = first ∙ sym second
  chosen_once false refused x y X Y first second others = others first second

  -- a text gives one outcome
  pub text_once : (before : S) (text : List ℕ) (a b : Result S Refusal) → TextRead Refuses with_line before text a → TextRead Refuses with_line before text b → a ≡ b
  text_once before text a b first second =
      chosen_once (nat_lt 33554432 (length text)) (Err (record { number = 3; line = 0 })) a b _ _ first second (lines_once before 1 (lines_of text) a b)
