-- The exit statuses of the program.
use Rattle.std.specs.Prelude.{ℕ}
use Rattle.voevent_online.specs.declared.status.Status.{Status}
use Rattle.voevent_online.specs.declared.status.Status.TheVariants.{Done, Usage, Refused, ReadFault, WriteFault, DiskFault, NoMemory, JournalRefused, Full, LinkFault, Ended, SpawnFault}

abbrev pub code_of : Status → ℕ
code_of Done = 0
code_of Usage = 2
code_of Refused = 3
code_of ReadFault = 4
code_of WriteFault = 5
code_of DiskFault = 6
code_of NoMemory = 7
code_of JournalRefused = 8
code_of Full = 9
code_of LinkFault = 10
code_of Ended = 11
code_of SpawnFault = 12
