-- The lines that the program writes, other than those of reports.
use Rattle.std.specs.Prelude.{ℕ, ◌/◌, ◌%◌, List, [], ◌∷◌, ◌++◌, Some, None, codes}
use Rattle.std.specs.Fmt.{decimal}
use Rattle.voevent_cli.specs.declared.refusal.Refusal.{Refusal}
use Rattle.voevent_cli.specs.declared.refusal.Refusal.TheVariants.{TooLong, Tree, Validity, BadRole, NoOrigin, Scenario, Filter, Foreign, Damaged, Made, MadeAt}
use Rattle.voevent_cli.specs.declared.outcome.Status.{Status}
use Rattle.voevent_cli.specs.declared.outcome.Status.TheVariants.{Refused, JournalRefused}

-- a number below a hundred, in two digits
abbrev pub two_digits : ℕ → List ℕ
two_digits n = decimal (n / 10) ++ decimal (n % 10)

-- the rule that refuses, as a letter and its number
abbrev pub code_of_refusal : Refusal → List ℕ
code_of_refusal TooLong = codes "F2"
code_of_refusal (Tree number place) = codes "T" ++ two_digits number
code_of_refusal (Validity number) = codes "V" ++ two_digits number
code_of_refusal BadRole = codes "M2"
code_of_refusal NoOrigin = codes "M3"
code_of_refusal (Scenario number line) = codes "S0" ++ decimal number
code_of_refusal (Filter number place) = codes "P" ++ decimal number
code_of_refusal (Foreign place) = codes "G2"
code_of_refusal (Damaged place) = codes "G3"
code_of_refusal Made = codes "G5"
code_of_refusal (MadeAt node) = codes "G5"

-- where, for the rules that have a byte or a token, a line, or a node
abbrev pub place_of_refusal : Refusal → List ℕ
place_of_refusal TooLong = []
place_of_refusal (Tree number None) = []
place_of_refusal (Tree number (Some place)) = codes " at " ++ decimal place
place_of_refusal (Validity number) = []
place_of_refusal BadRole = []
place_of_refusal NoOrigin = []
place_of_refusal (Scenario number line) = codes " line " ++ decimal line
place_of_refusal (Filter number place) = codes " at " ++ decimal place
place_of_refusal (Foreign place) = codes " at " ++ decimal place
place_of_refusal (Damaged place) = codes " at " ++ decimal place
place_of_refusal Made = []
place_of_refusal (MadeAt node) = codes " node " ++ decimal node

-- how the program ends: the input is refused, or what a disk holds
abbrev pub status_of_refusal : Refusal → Status
status_of_refusal TooLong = Refused
status_of_refusal (Tree number place) = Refused
status_of_refusal (Validity number) = Refused
status_of_refusal BadRole = Refused
status_of_refusal NoOrigin = Refused
status_of_refusal (Scenario number line) = Refused
status_of_refusal (Filter number place) = Refused
status_of_refusal (Foreign place) = JournalRefused
status_of_refusal (Damaged place) = JournalRefused
status_of_refusal Made = JournalRefused
status_of_refusal (MadeAt node) = JournalRefused

-- the line that says why an input is refused
abbrev pub refusal_line : Refusal → List ℕ
refusal_line refusal = codes "refused " ++ (code_of_refusal refusal ++ (place_of_refusal refusal ++ codes "\n"))

-- the line of a valid packet
abbrev pub valid_line : List ℕ → List ℕ
valid_line identifier = codes "valid " ++ (identifier ++ codes "\n")

-- the line of a remark
abbrev pub remark_line : ℕ → List ℕ
remark_line number = codes "remark N" ++ (two_digits number ++ codes "\n")

abbrev pub remark_lines : List ℕ → List ℕ
remark_lines [] = []
remark_lines (number ∷ numbers) = remark_line number ++ remark_lines numbers
