-- What is wanted: a status and the bytes to write, for the words of a command line, the bytes of the input and the disks.
use Rattle.std.specs.Prelude.{◌≡◌, ℕ, cond, List, [], ◌∷◌, Some, None, bytes_eq, codes}
use Rattle.std.specs.declared.option.Option.{Option}
use Rattle.voevent_cli.specs.Documents.{WantedOf, checked, max_document, shown}
use Rattle.voe_disk.specs.declared.disk.Disk.{Ghosts}
use Rattle.voevent_cli.specs.Inits.{Inits}
use Rattle.voevent_cli.specs.Matches.{Matches}
use Rattle.voevent_cli.specs.Nets.{Nets}
use Rattle.voevent_cli.specs.Racks.{Disks, AreSame, RealRose, TrialRose}
use Rattle.voevent_cli.specs.declared.command.Command.{Command}
use Rattle.voevent_cli.specs.declared.command.Command.TheVariants.{Net, Check, Show, Match, Init}
use Rattle.voevent_cli.specs.declared.outcome.Status.{Status}
use Rattle.voevent_cli.specs.declared.outcome.Status.TheVariants.{Done, Usage, Refused, ReadFault, WriteFault, DiskFault, NoMemory, JournalRefused}
use Rattle.voevent_cli.specs.declared.outcome.Outcome.{Outcome}

-- the exit status
abbrev pub code_of : Status → ℕ
code_of Done = 0
code_of Usage = 2
code_of Refused = 3
code_of ReadFault = 4
code_of WriteFault = 5
code_of DiskFault = 6
code_of NoMemory = 7
code_of JournalRefused = 8

-- ---- the words

-- the command that one word is
abbrev pub command_named : List ℕ → Option Command
command_named word =
    cond (bytes_eq word (codes "net")) (Some Net)
    (cond (bytes_eq word (codes "check")) (Some Check)
    (cond (bytes_eq word (codes "show")) (Some Show)
    (cond (bytes_eq word (codes "init")) (Some Init) None)))

-- the command that the words are, if they are one
abbrev pub command_of : List (List ℕ) → Option Command
command_of (word ∷ []) = command_named word
command_of (word ∷ (filter ∷ [])) = cond (bytes_eq word (codes "match")) (Some Match) None
command_of _ = None

-- the second word: the text of a filter
abbrev pub filter_of : List (List ℕ) → List ℕ
filter_of (word ∷ (filter ∷ words)) = filter
filter_of _ = []

-- the greatest number of bytes of a command's input
abbrev pub limit_of : Command → ℕ
limit_of Net = 33554432
limit_of Check = max_document
limit_of Show = max_document
limit_of Match = max_document
limit_of Init = 33554432

-- ---- all commands

abbrev pub usage : Outcome
usage = record { status = Usage; output = codes "refused usage\n" }

-- the outcome that a command line has for an input, and what it does to the disks
abbrev pub Acts : {T D : Type 0} → Ghosts T → Ghosts D → List (List ℕ) → Command → List ℕ → Disks T D → Disks T D → Outcome → Type 0
Acts trial real words Net input before now outcome = Nets trial input before now outcome
Acts trial real words Check input before now outcome = WantedOf checked input outcome × AreSame before now
Acts trial real words Show input before now outcome = WantedOf shown input outcome × AreSame before now
Acts trial real words Match input before now outcome = Matches (filter_of words) input outcome × AreSame before now
Acts trial real words Init input before now outcome = Inits real input before now outcome

-- the same by the command that it is, if it is one
abbrev pub ActsAs : {T D : Type 0} → Ghosts T → Ghosts D → List (List ℕ) → Option Command → List ℕ → Disks T D → Disks T D → Outcome → Type 0
ActsAs trial real words None input before now outcome = (outcome ≡ usage) × AreSame before now
ActsAs trial real words (Some command) input before now outcome = Acts trial real words command input before now outcome

-- what is wanted of a command line
abbrev pub Wants : {T D : Type 0} → Ghosts T → Ghosts D → List (List ℕ) → List ℕ → Disks T D → Disks T D → Outcome → Type 0
Wants trial real words input before now outcome = ActsAs trial real words (command_of words) input before now outcome

-- the count of faults of a disk that the command calls has risen: a trial disk's for `net`, the real one's for `init`
abbrev pub DiskRose : {T D : Type 0} → Ghosts T → Ghosts D → Option Command → Disks T D → Disks T D → Type 0
DiskRose trial real (Some Net) before now = TrialRose trial before now
DiskRose trial real (Some Check) before now = ⊥
DiskRose trial real (Some Show) before now = ⊥
DiskRose trial real (Some Match) before now = ⊥
DiskRose trial real (Some Init) before now = RealRose real before now
DiskRose trial real None before now = ⊥
