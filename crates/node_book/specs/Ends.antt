-- What an end is.
use Rattle.std.specs.Prelude.{ℕ, ◌+◌, ◌-◌, ◌^◌, min, Bool, true, false, List, Option}
use Rattle.voe_disk.specs.declared.disk.Disk.{Ghosts}
use Rattle.voe_disk.specs.declared.fail.DiskFail.{DiskFail}
use Rattle.voe_disk.specs.declared.fail.DiskFail.TheVariants.{Fault, Stopped}
use Rattle.net_model.specs.declared.note.Note.{Note}
use Rattle.node_notes.specs.declared.config.Config.{Config}
use Rattle.node_book.specs.Book.{BookView, IsSound as IsSoundBook}
use Rattle.node_book.specs.declared.fallen.Fallen.{Fallen}

-- The disk, the configuration and the notes of an end; of a broker's links the numbers of their last sessions; how many
-- steps it has made since it was made or loaded; and how its disk has failed, where the end is down.
pub record EndView (D : Type 0) : Type 0 where
  pub disk : D
  pub config : Config
  pub notes : List Note
  pub sessions : List ℕ
  pub steps : ℕ
  pub down : Option DiskFail

-- its book
abbrev pub book_of : {D : Type 0} → EndView D → BookView D
book_of end = record { disk = end.disk; config = end.config; notes = end.notes; down = end.down }

-- Between two steps the notes keep to their forms and order, and where the end is up, what its disk reads and whatever a
-- crash leaves of it keep the configuration and the notes.
abbrev pub IsSound : {D : Type 0} → Ghosts D → EndView D → Type 0
IsSound disk end = IsSoundBook disk (book_of end)

-- one step more, up to the greatest number of 64 bits
abbrev pub one_more : ℕ → ℕ
one_more steps = min (steps + 1) (2 ^ 64 - 1)

-- the end with one step more
abbrev pub after_step : {D : Type 0} → EndView D → EndView D
after_step end = record { disk = end.disk; config = end.config; notes = end.notes; sessions = end.sessions; steps = one_more end.steps; down = end.down }

-- the end with other sessions
abbrev pub with_sessions : {D : Type 0} → EndView D → List ℕ → EndView D
with_sessions end sessions = record { disk = end.disk; config = end.config; notes = end.notes; sessions = sessions; steps = end.steps; down = end.down }

-- the disk had been armed and has stopped
abbrev pub is_stopped : DiskFail → Bool
is_stopped Fault = false
is_stopped Stopped = true

-- how a disk fails
abbrev pub fail_of : Bool → DiskFail
fail_of false = Fault
fail_of true = Stopped

-- how an end that is down answers, its disk having this count of faults
abbrev pub fallen_of : ℕ → DiskFail → Fallen
fallen_of faults fail = record { faults = faults; stopped = is_stopped fail }
