-- Which rules a line breaks: each for itself, and the least that is broken decides.
use Rattle.std.specs.Prelude.{◌≡◌, ℕ, Bool, cond, List, [], ◌∷◌, Option, Some, None, MatchOption}
use Rattle.voe_scenario.specs.Filters.{IsFilter}

abbrev pub least_that_holds : List (ℕ × Bool) → Option ℕ
least_that_holds [] = None
least_that_holds (rule ∷ rules) = cond rule.1 (Some rule.0) (least_that_holds rules)

-- the last rule, 6: the filter that a line brings reads
abbrev pub IsRefusedFilter : Option (List ℕ) → Option ℕ → Type 0
IsRefusedFilter None refusal = refusal ≡ None
IsRefusedFilter (Some text) None = IsFilter text
IsRefusedFilter (Some text) (Some number) = (number ≡ 6) × (IsFilter text → ⊥)

-- the least number of the rules that a line breaks, if it breaks any: of those before the last, and of the last
abbrev pub IsLeastBroken : List (ℕ × Bool) → Option (List ℕ) → Option ℕ → Type 0
IsLeastBroken rules filter refusal = MatchOption (least_that_holds rules) (IsRefusedFilter filter refusal) (λ number. refusal ≡ Some number)
