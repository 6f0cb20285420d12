-- What a journal keeps.
use Rattle.std.specs.Prelude.{◌≡◌, List, ℕ, Option, None}
use Rattle.std.specs.Option.{ForSome}
use Rattle.gate_journal.specs.Format.{Stands, StandsBeyond}
use Rattle.voe_disk.specs.declared.fail.DiskFail.{DiskFail}
use Rattle.voe_disk.specs.declared.disk.Disk.{Ghosts}

-- The disk, and the payloads in the order in which they were added. A journal whose disk has failed is down, and takes
-- nothing more.
pub record JournalView (D : Type 0) : Type 0 where
  pub disk : D
  pub payloads : List (List ℕ)
  pub down : Option DiskFail

-- what the disk reads and whatever a crash leaves of it, as far as it tells them
pub record EachFile {D : Type 0} (disk : Ghosts D) (state : D) (P : List ℕ → Type 0) : Type 0 where
  pub reading : ForSome (disk.reads state) P
  pub images : (image : List ℕ) → disk.may_leave state image → P image

-- The disk stands for the payloads. Where the journal is down, it stands for a list that begins with them.
pub record IsSound {D : Type 0} (disk : Ghosts D) (journal : JournalView D) : Type 0 where
  pub up : journal.down ≡ None → EachFile disk journal.disk (λ file. Stands file journal.payloads)
  pub begins : EachFile disk journal.disk (StandsBeyond journal.payloads)
