-- The line that says why a command was refused.
use Rattle.std.specs.Prelude.{ℕ, ◌/◌, ◌%◌, List, [], ◌++◌, Some, None, codes}
use Rattle.std.specs.Fmt.{decimal}
use Rattle.voevent_online.specs.declared.refusal.Refusal.{Refusal}
use Rattle.voevent_online.specs.declared.refusal.Refusal.TheVariants.{Usage, TooLong, Tree, Validity, Conflict, Unmade, Foreign, Damaged, BadNote}
use Rattle.voevent_online.specs.declared.status.Status.{Status}
use Rattle.voevent_online.specs.declared.status.Status.TheVariants as status

-- a number below a hundred, in two digits
abbrev pub two_digits : ℕ → List ℕ
two_digits n = decimal (n / 10) ++ decimal (n % 10)

-- the rule that refuses
abbrev pub code_of_refusal : Refusal → List ℕ
code_of_refusal Usage = codes "usage"
code_of_refusal TooLong = codes "F2"
code_of_refusal (Tree number place) = codes "T" ++ two_digits number
code_of_refusal (Validity number) = codes "V" ++ two_digits number
code_of_refusal Conflict = codes "conflict"
code_of_refusal Unmade = codes "G1"
code_of_refusal (Foreign place) = codes "G2"
code_of_refusal (Damaged place) = codes "G3"
code_of_refusal (BadNote place) = codes "G6"

-- where, for the rules that have a byte or a token
abbrev pub place_of_refusal : Refusal → List ℕ
place_of_refusal Usage = []
place_of_refusal TooLong = []
place_of_refusal (Tree number None) = []
place_of_refusal (Tree number (Some place)) = codes " at " ++ decimal place
place_of_refusal (Validity number) = []
place_of_refusal Conflict = []
place_of_refusal Unmade = []
place_of_refusal (Foreign place) = codes " at " ++ decimal place
place_of_refusal (Damaged place) = codes " at " ++ decimal place
place_of_refusal (BadNote place) = codes " at " ++ decimal place

-- how the command ends: the words, the packet, or what the disk holds is refused
abbrev pub status_of_refusal : Refusal → Status
status_of_refusal Usage = status.Usage
status_of_refusal TooLong = status.Refused
status_of_refusal (Tree number place) = status.Refused
status_of_refusal (Validity number) = status.Refused
status_of_refusal Conflict = status.Refused
status_of_refusal Unmade = status.JournalRefused
status_of_refusal (Foreign place) = status.JournalRefused
status_of_refusal (Damaged place) = status.JournalRefused
status_of_refusal (BadNote place) = status.JournalRefused

abbrev pub refusal_line : Refusal → List ℕ
refusal_line refusal = codes "refused " ++ (code_of_refusal refusal ++ (place_of_refusal refusal ++ codes "\n"))
