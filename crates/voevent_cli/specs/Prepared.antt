-- What was read, made and done to the disks before anything is written.
use Rattle.std.specs.Prelude.{◌≡◌, ℕ, ◌<◌, ◌≤◌, List, length, Bool, true, false, Result, Ok, Err, Some}
use Rattle.std.specs.declared.option.Option.{Option}
use Rattle.voe_disk.specs.declared.disk.Disk.{Ghosts}
use Rattle.voe_outside.specs.Causes.{Rose}
use Rattle.voe_outside.specs.Whole.{Gave}
use Rattle.voevent_cli.specs.Racks.{Disks, AreSame}
use Rattle.voevent_cli.specs.declared.command.Command.{Command}
use Rattle.voevent_cli.specs.declared.outcome.Outcome.{Outcome}
use Rattle.voevent_cli.specs.declared.prepare.Hindrance.{Hindrance}
use Rattle.voevent_cli.specs.declared.prepare.Hindrance.TheVariants.{ReadFault, DiskFault, NoMemory}
use Rattle.voe_scenario.specs.Configs.{IsConfigOf}
use Rattle.voe_scenario.specs.Lines.{Refusal as BadLine}
use Rattle.voe_scenario.specs.Scenarios.{IsScenarioOf}
use Rattle.voevent_cli.specs.Outcomes.{refused}
use Rattle.voevent_cli.specs.declared.refusal.Refusal.TheVariants.{Scenario}
use Rattle.voevent_cli.specs.Documents.{WantedOf, checked, shown}
use Rattle.voevent_cli.specs.Matches.{Matches}
use Rattle.voevent_cli.specs.Wanted.{Acts, Wants, DiskRose, command_of, filter_of, limit_of}
use Rattle.voevent_cli.specs.declared.command.Command.TheVariants.{Net, Check, Show, Match, Init}
use Rattle.voevent_cli.specs.Answers.{HasRead, IsWithin, most_of}

-- these bytes were taken, and not too many
abbrev pub Took : List (List ℕ) → List ℕ → Option (List ℕ) → Option (List ℕ) → Type 0
Took words taken before now = Gave taken before now × (length taken ≤ most_of (command_of words))

-- the outcome that a command has for every input above its limit, where it does nothing to the disks
abbrev pub IsWantedAbove : Command → Outcome → Type 0
IsWantedAbove Net outcome =
    (line : BadLine) × (outcome ≡ refused (Scenario line.number line.line)) × ((input : List ℕ) → limit_of Net < length input → IsScenarioOf input (Err line))
IsWantedAbove Check outcome = (input : List ℕ) → limit_of Check < length input → WantedOf checked input outcome
IsWantedAbove Show outcome = (input : List ℕ) → limit_of Show < length input → WantedOf shown input outcome
IsWantedAbove Match outcome = ⊥
IsWantedAbove Init outcome =
    (line : BadLine) × (outcome ≡ refused (Scenario line.number line.line)) × ((input : List ℕ) → limit_of Init < length input → IsConfigOf input (Err line))

-- why a command did not do what it is for: the count of faults of a disk that it calls rose, or there was no memory
abbrev pub IsHinderedRack : {T D : Type 0} → Ghosts T → Ghosts D → Command → Disks T D → Disks T D → Hindrance → Type 0
IsHinderedRack trial real command before now ReadFault = ⊥
IsHinderedRack trial real command before now DiskFault = DiskRose trial real (Some command) before now
IsHinderedRack trial real command before now NoMemory = Unit {0}

-- what a command did with its whole input
abbrev pub Acted : {T D : Type 0} → Ghosts T → Ghosts D → List (List ℕ) → Command → List ℕ → Disks T D → Disks T D → Result Outcome Hindrance → Type 0
Acted trial real words command input before now (Ok outcome) = Acts trial real words command input before now outcome
Acted trial real words command input before now (Err hindrance) = IsHinderedRack trial real command before now hindrance

-- what was done of the words
abbrev pub Prepares : {T D : Type 0} → Ghosts T → Ghosts D → List (List ℕ) → Option (List ℕ) → Option (List ℕ) → ℕ → ℕ → Disks T D → Disks T D → Result Outcome Hindrance → Type 0
Prepares trial real words left left_now faults faults_now before now (Ok outcome) =
    (taken : List ℕ) × Took words taken left left_now × HasRead words taken left_now × Wants trial real words taken before now outcome
Prepares trial real words left left_now faults faults_now before now (Err ReadFault) =
    (taken : List ℕ) × Took words taken left left_now × IsWithin (command_of words) taken × Rose faults faults_now × AreSame before now
Prepares trial real words left left_now faults faults_now before now (Err DiskFault) =
    (taken : List ℕ) × Took words taken left left_now × HasRead words taken left_now × DiskRose trial real (command_of words) before now
Prepares trial real words left left_now faults faults_now before now (Err NoMemory) =
    (taken : List ℕ) × Took words taken left left_now

-- a read failed
abbrev pub is_unread : Result Outcome Hindrance → Bool
is_unread (Ok outcome) = false
is_unread (Err ReadFault) = true
is_unread (Err DiskFault) = false
is_unread (Err NoMemory) = false

-- what was done of a filter and a document, which calls no disk
abbrev pub MatchPrepares : List (List ℕ) → Option (List ℕ) → Option (List ℕ) → ℕ → ℕ → Result Outcome Hindrance → Type 0
MatchPrepares words left left_now faults faults_now (Ok outcome) =
    (taken : List ℕ) × Took words taken left left_now × HasRead words taken left_now × Matches (filter_of words) taken outcome
MatchPrepares words left left_now faults faults_now (Err ReadFault) =
    (taken : List ℕ) × Took words taken left left_now × IsWithin (command_of words) taken × Rose faults faults_now
MatchPrepares words left left_now faults faults_now (Err DiskFault) = ⊥
MatchPrepares words left left_now faults faults_now (Err NoMemory) =
    (taken : List ℕ) × Took words taken left left_now
