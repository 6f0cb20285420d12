-- The line and the status by what became of a packet that was to be submitted.
use Rattle.std.specs.Prelude.{◌≡◌, ℕ, List, ◌++◌, Option, Some, None, codes}
use Rattle.voe_outside.specs.declared.stream.Sink.{Ghosts as SinkGhosts}
use Rattle.voevent_online.specs.Lines.{refusal_line}
use Rattle.voevent_online.specs.Telling.{Tells}
use Rattle.voevent_online.specs.declared.refusal.Refusal.TheVariants as refusal
use Rattle.voevent_online.specs.declared.status.Status.{Status}
use Rattle.voevent_online.specs.declared.status.Status.TheVariants as status
use Rattle.voevent_online.specs.declared.submit_lines.Outcome.{Outcome}
use Rattle.voevent_online.specs.declared.submit_lines.Outcome.TheVariants.{Acked, Nak, Conflict, NoLine, Full, DiskFault, NoMemory, LinkFault, Ended}

abbrev pub ack_line : List ℕ → List ℕ
ack_line identifier = codes "ack " ++ (identifier ++ codes "\n")

-- with the reason, where it is known
abbrev pub nak_line : Option (List ℕ) → List ℕ
nak_line None = codes "nak\n"
nak_line (Some why) = codes "nak " ++ (why ++ codes "\n")

-- how the command ends; a configuration without a line is refused as what the journal holds
abbrev pub status_of_outcome : Outcome → Status
status_of_outcome Acked = status.Done
status_of_outcome (Nak why) = status.Refused
status_of_outcome Conflict = status.Refused
status_of_outcome NoLine = status.JournalRefused
status_of_outcome Full = status.Full
status_of_outcome DiskFault = status.DiskFault
status_of_outcome NoMemory = status.NoMemory
status_of_outcome LinkFault = status.LinkFault
status_of_outcome Ended = status.Ended

-- the line of a packet's outcome, where one is written
abbrev pub line_of_outcome : List ℕ → Outcome → Option (List ℕ)
line_of_outcome identifier Acked = Some (ack_line identifier)
line_of_outcome identifier (Nak why) = Some (nak_line why)
line_of_outcome identifier Conflict = Some (refusal_line refusal.Conflict)
line_of_outcome identifier NoLine = Some (refusal_line (refusal.BadNote 16))
line_of_outcome identifier Full = None
line_of_outcome identifier DiskFault = None
line_of_outcome identifier NoMemory = None
line_of_outcome identifier LinkFault = None
line_of_outcome identifier Ended = None

-- this line with its status, or this status and no line
abbrev pub TellsOrNot : {K : Type 0} → SinkGhosts K → Option (List ℕ) → Status → Status → K → K → Type 0
TellsOrNot sink (Some line) wanted result old new = Tells sink wanted line result old new
TellsOrNot sink None wanted result old new = (result ≡ wanted) × (new ≡ old)

-- what is written, and the status
abbrev pub Concludes : {K : Type 0} → SinkGhosts K → List ℕ → Outcome → Status → K → K → Type 0
Concludes sink identifier outcome result old new = TellsOrNot sink (line_of_outcome identifier outcome) (status_of_outcome outcome) result old new
