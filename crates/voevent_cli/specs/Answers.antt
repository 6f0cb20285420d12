-- What a call of the program did: what it took from its source, what it put on its sink, what it did to the disks, and how it ended.
use Rattle.std.specs.Prelude.{◌≡◌, ℕ, ◌+◌, ◌<◌, ◌≤◌, List, [], length, take, Some, None, ◌⊎◌}
use Rattle.std.specs.declared.option.Option.{Option}
use Rattle.std.specs.Io.KnownBytes.{append_known, IsAtEnd}
use Rattle.voe_disk.specs.declared.disk.Disk.{Ghosts}
use Rattle.voe_outside.specs.Causes.{Rose}
use Rattle.voe_outside.specs.Whole.{Gave}
use Rattle.voe_outside.specs.declared.whole.TheConstants.{BUFFER}
use Rattle.voevent_cli.specs.Racks.{Disks, AreSame}
use Rattle.voevent_cli.specs.declared.command.Command.{Command}
use Rattle.voevent_cli.specs.declared.command.Command.TheVariants.{Net, Check, Show, Match, Init}
use Rattle.voevent_cli.specs.declared.outcome.Outcome.{Outcome}
use Rattle.voevent_cli.specs.declared.outcome.Status.{Status}
use Rattle.voevent_cli.specs.declared.outcome.Status.TheVariants.{Done, Usage, Refused, ReadFault, WriteFault, DiskFault, NoMemory, JournalRefused}
use Rattle.voevent_cli.specs.Safety.{IsSafeText}
use Rattle.filter_text.specs.Filter.{Path}
use Rattle.filter_text.specs.Reading.{Reads}
use Rattle.voevent_cli.specs.Matches.{IsNoFilter}
use Rattle.voevent_cli.specs.Wanted.{Wants, DiskRose, code_of, command_of, filter_of, limit_of}

-- A source, a sink and a rack at one moment: what is left and what is held, where they tell it, how often each has failed, and
-- the disks.
pub record Moment (T D : Type 0) : Type 0 where
  pub left : Option (List ℕ)
  pub read_faults : ℕ
  pub held : Option (List ℕ)
  pub write_faults : ℕ
  pub rack : Disks T D

abbrev pub moment : {T D : Type 0} → Option (List ℕ) → ℕ → Option (List ℕ) → ℕ → Disks T D → Moment T D
moment left read_faults held write_faults rack =
    record { left = left; read_faults = read_faults; held = held; write_faults = write_faults; rack = rack }

-- the most that is taken of an input: its limit and a buffer, and nothing without a command
abbrev pub most_of : Option Command → ℕ
most_of None = 0
most_of (Some command) = limit_of command + BUFFER

-- the input was read to its end, or past the command's limit
abbrev pub ReadsOn : Command → List ℕ → Option (List ℕ) → Type 0
ReadsOn command taken left = IsAtEnd left ⊎ (limit_of command < length taken)

-- a command's input was read so; without a command, and for a filter that is none, nothing was read
abbrev pub HasReadFor : List (List ℕ) → Option Command → List ℕ → Option (List ℕ) → Type 0
HasReadFor words None taken left = taken ≡ []
HasReadFor words (Some Match) taken left = (((f : Path) × Reads f (filter_of words)) × ReadsOn Match taken left) ⊎ (IsNoFilter (filter_of words) × (taken ≡ []))
HasReadFor words (Some Net) taken left = ReadsOn Net taken left
HasReadFor words (Some Check) taken left = ReadsOn Check taken left
HasReadFor words (Some Show) taken left = ReadsOn Show taken left
HasReadFor words (Some Init) taken left = ReadsOn Init taken left

abbrev pub HasRead : List (List ℕ) → List ℕ → Option (List ℕ) → Type 0
HasRead words taken left = HasReadFor words (command_of words) taken left

-- of a command's input no more was taken than its limit
abbrev pub IsWithin : Option Command → List ℕ → Type 0
IsWithin None taken = ⊥
IsWithin (Some command) taken = length taken ≤ limit_of command

-- the outcome is a wanted one of this status, and its bytes stand behind what the sink held
pub record Answered {T D : Type 0} (trial : Ghosts T) (real : Ghosts D) (words : List (List ℕ)) (taken : List ℕ) (before now : Moment T D) (status : Status) : Type 0 where
  pub read : HasRead words taken now.left
  pub outcome : Outcome
  pub wanted : Wants trial real words taken before.rack now.rack outcome
  pub wanted_status : outcome.status ≡ status
  pub output : now.held ≡ append_known before.held outcome.output

-- a front of the wanted bytes stands behind what the sink held
pub record CutShort {T D : Type 0} (trial : Ghosts T) (real : Ghosts D) (words : List (List ℕ)) (taken : List ℕ) (before now : Moment T D) : Type 0 where
  pub read : HasRead words taken now.left
  pub outcome : Outcome
  pub wanted : Wants trial real words taken before.rack now.rack outcome
  pub count : ℕ
  pub part : count < length outcome.output
  pub output : now.held ≡ append_known before.held (take count outcome.output)

-- the run of the scenario that was taken is safe, where the words are `net`
abbrev pub IsSafeRun : Option Command → List ℕ → Type 0
IsSafeRun (Some Net) taken = IsSafeText taken
IsSafeRun (Some Check) taken = Unit {0}
IsSafeRun (Some Show) taken = Unit {0}
IsSafeRun (Some Match) taken = Unit {0}
IsSafeRun (Some Init) taken = Unit {0}
IsSafeRun None taken = Unit {0}

-- what each status says, where these bytes were taken
abbrev pub Says : {T D : Type 0} → Ghosts T → Ghosts D → List (List ℕ) → List ℕ → Moment T D → Moment T D → Status → Type 0
Says trial real words taken before now Done = Answered trial real words taken before now Done × IsSafeRun (command_of words) taken
Says trial real words taken before now Usage = Answered trial real words taken before now Usage
Says trial real words taken before now Refused = Answered trial real words taken before now Refused
Says trial real words taken before now JournalRefused = Answered trial real words taken before now JournalRefused
Says trial real words taken before now ReadFault =
    IsWithin (command_of words) taken × (now.held ≡ before.held) × Rose before.read_faults now.read_faults × AreSame before.rack now.rack
Says trial real words taken before now WriteFault = CutShort trial real words taken before now × Rose before.write_faults now.write_faults
Says trial real words taken before now DiskFault =
    HasRead words taken now.left × (now.held ≡ before.held) × DiskRose trial real (command_of words) before.rack now.rack
Says trial real words taken before now NoMemory = now.held ≡ before.held

-- some bytes were taken from the source's start, and the status is right for them
pub record Ends {T D : Type 0} (trial : Ghosts T) (real : Ghosts D) (words : List (List ℕ)) (before now : Moment T D) (status : Status) : Type 0 where
  pub taken : List ℕ
  pub gave : Gave taken before.left now.left
  pub few : length taken ≤ most_of (command_of words)
  pub says : Says trial real words taken before now status

-- the same by the exit status, which is one of 0 and 2 to 8
abbrev pub Answers : {T D : Type 0} → Ghosts T → Ghosts D → List (List ℕ) → Moment T D → Moment T D → ℕ → Type 0
Answers trial real words before now code = (status : Status) × (code ≡ code_of status) × Ends trial real words before now status

-- what is wanted for this input was done
pub record IsDone {T D : Type 0} (trial : Ghosts T) (real : Ghosts D) (words : List (List ℕ)) (input : List ℕ) (before now : Moment T D) (code : ℕ) : Type 0 where
  pub outcome : Outcome
  pub wanted : Wants trial real words input before.rack now.rack outcome
  pub wanted_code : code ≡ code_of outcome.status
  pub output : now.held ≡ append_known before.held outcome.output

-- What is wanted for a whole input was done. Else a count of faults rose, and 4, 5 or 6 is answered for it, or 7 is.
abbrev pub DoesAll : {T D : Type 0} → Ghosts T → Ghosts D → List (List ℕ) → List ℕ → Moment T D → Moment T D → ℕ → Type 0
DoesAll trial real words input before now code =
    IsDone trial real words input before now code
    ⊎ (((code ≡ 4) × Rose before.read_faults now.read_faults)
    ⊎ (((code ≡ 5) × Rose before.write_faults now.write_faults)
    ⊎ (((code ≡ 6) × DiskRose trial real (command_of words) before.rack now.rack)
    ⊎ (code ≡ 7))))
