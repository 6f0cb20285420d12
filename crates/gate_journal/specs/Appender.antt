-- A journal that has none of its payloads in memory.
use Rattle.std.specs.Prelude.{◌≡◌, List, ℕ, length, Option}
use Rattle.gate_journal.specs.Format.{front}
use Rattle.gate_journal.specs.Journal.{IsSound}
use Rattle.voe_disk.specs.declared.fail.DiskFail.{DiskFail}
use Rattle.voe_disk.specs.declared.disk.Disk.{Ghosts}

-- The disk, and the place of the closed gate. An appender whose disk has failed is down, and takes nothing more.
pub record AppenderView (D : Type 0) : Type 0 where
  pub disk : D
  pub end : ℕ
  pub down : Option DiskFail

-- The disk's journal has these payloads, and the gate stands behind them.
pub record HasPayloads {D : Type 0} (disk : Ghosts D) (appender : AppenderView D) (payloads : List (List ℕ)) : Type 0 where
  pub sound : IsSound disk (record { disk = appender.disk; payloads = payloads; down = appender.down })
  pub end : appender.end ≡ length (front payloads)

-- there are such payloads
abbrev pub IsAppender : {D : Type 0} → Ghosts D → AppenderView D → Type 0
IsAppender disk appender = (payloads : List (List ℕ)) × HasPayloads disk appender payloads

-- whichever they are
abbrev pub ForPayloads : {D : Type 0} → Ghosts D → AppenderView D → (List (List ℕ) → Type 0) → Type 0
ForPayloads disk appender P = (payloads : List (List ℕ)) → HasPayloads disk appender payloads → P payloads
