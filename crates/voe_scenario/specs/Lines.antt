-- The lines of a text, taken one after another up to the first that is refused.
use Rattle.std.specs.Prelude.{◌≡◌, ℕ, ◌+◌, cond, Bool, true, List, [], ◌∷◌, Option, Some, None, Result, Ok, Err, length, nat_lt, ◌==◌, MatchBool}
use Rattle.voe_scenario.specs.Words.{lines_of}

-- a refused line: why, and which, counted from 1
pub record Refusal : Type 0 where
  pub number : ℕ
  pub line : ℕ

-- an empty line, or a comment, whatever its bytes and its length
unfoldable pub is_passed_over : List ℕ → Bool
is_passed_over [] = true
is_passed_over (b ∷ bytes) = b == 35

-- by which number a line is refused behind what was taken before it, if it is; one that is passed over never is
abbrev pub IsRefusedBy : {S : Type 0} → (S → List ℕ → Option ℕ → Type 0) → S → List ℕ → Option ℕ → Type 0
IsRefusedBy Refuses before line refusal = MatchBool (is_passed_over line) (refusal ≡ None) (Refuses before line refusal)

-- what was taken with a line that isn't refused
abbrev pub taken_with : {S : Type 0} → (S → List ℕ → S) → S → List ℕ → S
taken_with with_line before line = cond (is_passed_over line) before (with_line before line)

-- a refused line ends the reading; else the lines behind it decide
abbrev pub DecidedBy : {S : Type 0} → Option ℕ → ℕ → Result S Refusal → Type 0 → Type 0
DecidedBy None place outcome Others = Others
DecidedBy (Some number) place outcome Others = outcome ≡ Err (record { number = number; line = place })

-- what lines, the first of which stands at this place, make of what was taken before them
unfoldable pub LinesRead : {S : Type 0} → (S → List ℕ → Option ℕ → Type 0) → (S → List ℕ → S) → S → ℕ → List (List ℕ) → Result S Refusal → Type 0
LinesRead Refuses with_line before place [] outcome = outcome ≡ Ok before
LinesRead Refuses with_line before place (line ∷ lines) outcome =
    (refusal : Option ℕ) × IsRefusedBy Refuses before line refusal
    × DecidedBy refusal place outcome (LinesRead Refuses with_line (taken_with with_line before line) (place + 1) lines outcome)

-- what a text makes of what was taken before it; one above the limit is refused before all else
abbrev pub TextRead : {S : Type 0} → (S → List ℕ → Option ℕ → Type 0) → (S → List ℕ → S) → S → List ℕ → Result S Refusal → Type 0
TextRead Refuses with_line before text outcome =
    MatchBool (nat_lt 33554432 (length text)) (outcome ≡ Err (record { number = 3; line = 0 })) (LinesRead Refuses with_line before 1 (lines_of text) outcome)
