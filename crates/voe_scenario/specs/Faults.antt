-- The numbers of the rules, and what a fault tells.
use Rattle.std.specs.Prelude.{◌≡◌, ℕ, List, Option, Some, Result, Err}
use Rattle.voe_scenario.specs.declared.fault.Rule.{Rule}
use Rattle.voe_scenario.specs.declared.fault.Rule.TheVariants.{Grammar, Naming, Limit, Identifier, Parameter, Filter}
use Rattle.voe_scenario.specs.declared.fault.LineFault.{LineFault}
use Rattle.voe_scenario.specs.declared.fault.LineFault.TheVariants.{Broken, NoMemory as LineWithoutMemory}
use Rattle.voe_scenario.specs.declared.fault.ScenarioFault.{ScenarioFault}
use Rattle.voe_scenario.specs.declared.fault.ScenarioFault.TheVariants.{Refused, NoMemory as TextWithoutMemory}
use Rattle.voe_scenario.specs.Filters.{IsFilter}
use Rattle.voe_scenario.specs.Lines.{Refusal}

abbrev pub number_of_rule : Rule → ℕ
number_of_rule Grammar = 1
number_of_rule Naming = 2
number_of_rule Limit = 3
number_of_rule Identifier = 4
number_of_rule Parameter = 5
number_of_rule Filter = 6

-- the fault tells by which number the line is refused; memory may be wanted too
abbrev pub IsLineFault : (Option ℕ → Type 0) → LineFault → Type 0
IsLineFault Refuses (Broken rule) = Refuses (Some (number_of_rule rule))
IsLineFault Refuses LineWithoutMemory = Unit {0}

-- the fault tells by which number the line at this place is refused; memory may be wanted too
abbrev pub IsFaultAt : (Option ℕ → Type 0) → ℕ → ScenarioFault → Type 0
IsFaultAt Refuses place (Refused number line) = Refuses (Some number) × (line ≡ place)
IsFaultAt Refuses place TextWithoutMemory = Unit {0}

-- the fault tells what refuses the text; memory may be wanted too
abbrev pub IsTextFault : {S : Type 0} → (Result S Refusal → Type 0) → ScenarioFault → Type 0
IsTextFault Reads (Refused number line) = Reads (Err (record { number = number; line = line }))
IsTextFault Reads TextWithoutMemory = Unit {0}

-- the filter doesn't read; memory may be wanted too
abbrev pub IsFilterFault : List ℕ → LineFault → Type 0
IsFilterFault text (Broken rule) = (number_of_rule rule ≡ 6) × (IsFilter text → ⊥)
IsFilterFault text LineWithoutMemory = Unit {0}
