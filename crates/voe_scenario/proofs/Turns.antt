-- Lines one after another.
use Rattle.std.proofs.Common.{◌≡◌, ℕ, ◌+◌, ◌<◌, List, [], ◌∷◌, Option, Some, None, Result, Ok, Err, IfNone, IfSome, length, refl, subst, arith, Bor}
use Rattle.voe_scenario.specs.declared.fault.ScenarioFault.{ScenarioFault}
use Rattle.voe_scenario.specs.declared.fault.ScenarioFault.TheVariants.{Refused, NoMemory}
use Rattle.voe_scenario.specs.Faults.{IsFaultAt, IsTextFault}
use Rattle.voe_scenario.specs.Lines.{IsRefusedBy, LinesRead, Refusal, taken_with}
use Rattle.voe_scenario.specs.Words.{lines_of}

-- the lines of what is left
abbrev pub lines_left : Option (Bor (List ℕ)) → List (List ℕ)
lines_left None = []
lines_left (Some rest) = lines_of rest.now

-- above how many lines are left
abbrev pub left_of : Option (Bor (List ℕ)) → ℕ
left_of None = 0
left_of (Some rest) = length rest.now + 1

pub lines_left-cut : (bytes piece : List ℕ) (behind : Option (Bor (List ℕ))) → IfNone behind (lines_of bytes ≡ piece ∷ [])
    → IfSome behind (λ rest. lines_of bytes ≡ piece ∷ lines_of rest.now) → lines_of bytes ≡ piece ∷ lines_left behind
lines_left-cut bytes piece None last first = last
lines_left-cut bytes piece (Some rest) last first = first

pub left_of-cut : (bytes : List ℕ) (behind : Option (Bor (List ℕ))) → IfSome behind (λ rest. length rest.now < length bytes) → left_of behind < length bytes + 1
left_of-cut bytes None shorter = omega arith
left_of-cut bytes (Some rest) shorter = omega arith

-- whatever the lines left give, all lines give
abbrev pub LeadOn : {S : Type 0} → (S → List ℕ → Option ℕ → Type 0) → (S → List ℕ → S) → S → List (List ℕ) → S → ℕ → List (List ℕ) → Type 0
LeadOn {S = S} Refuses with_line start all before place lines =
    (outcome : Result S Refusal) → LinesRead Refuses with_line before place lines outcome → LinesRead Refuses with_line start 1 all outcome

pub lines_read-nil : {S : Type 0} (Refuses : S → List ℕ → Option ℕ → Type 0) (with_line : S → List ℕ → S) (before : S) (place : ℕ)
    → LinesRead Refuses with_line before place [] (Ok before)
unfolding LinesRead
lines_read-nil Refuses with_line before place = refl

-- a line is taken
pub lines_read-taken : {S : Type 0} (Refuses : S → List ℕ → Option ℕ → Type 0) (with_line : S → List ℕ → S) (start : S) (all : List (List ℕ))
    (before after : S) (place : ℕ) (line : List ℕ) (lines : List (List ℕ))
    → LeadOn Refuses with_line start all before place (line ∷ lines)
    → IsRefusedBy Refuses before line None → after ≡ taken_with with_line before line
    → LeadOn Refuses with_line start all after (place + 1) lines
unfolding LinesRead
lines_read-taken Refuses with_line start all before after place line lines leads unrefused taken =
    λ outcome reads. leads outcome (None, unrefused, subst (λ s. LinesRead Refuses with_line s (place + 1) lines outcome) taken reads)

-- a line is refused
pub lines_read-refused : {S : Type 0} (Refuses : S → List ℕ → Option ℕ → Type 0) (with_line : S → List ℕ → S) (start : S) (all : List (List ℕ))
    (before : S) (place : ℕ) (line : List ℕ) (lines : List (List ℕ)) (fault : ScenarioFault)
    → LeadOn Refuses with_line start all before place (line ∷ lines)
    → IsFaultAt (IsRefusedBy Refuses before line) place fault
    → IsTextFault (LinesRead Refuses with_line start 1 all) fault
unfolding LinesRead
lines_read-refused Refuses with_line start all before place line lines (Refused number at) leads refused =
    leads (Err (record { number = number; line = at })) (Some number, refused.0, rw refused.1 refl)
lines_read-refused Refuses with_line start all before place line lines NoMemory leads refused = tt
