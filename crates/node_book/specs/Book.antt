-- What a book keeps.
use Rattle.std.specs.Prelude.{◌≡◌, List, Option, None}
use Rattle.gate_journal.specs.Format.{StandsBeyond}
use Rattle.gate_journal.specs.Journal.{EachFile}
use Rattle.voe_disk.specs.declared.disk.Disk.{Ghosts}
use Rattle.voe_disk.specs.declared.fail.DiskFail.{DiskFail}
use Rattle.net_model.specs.declared.note.Note.{Note}
use Rattle.node_notes.specs.declared.config.Config.{Config}
use Rattle.node_notes.specs.Tells.{payloads_of, Tells}
use Rattle.node_book.specs.Keeps.{Keeps}

-- The disk, a configuration, and the notes in the order in which they were added. A book whose disk has failed is down,
-- and takes nothing more.
pub record BookView (D : Type 0) : Type 0 where
  pub disk : D
  pub config : Config
  pub notes : List Note
  pub down : Option DiskFail

-- The configuration and the notes keep to their forms and order, and the disk keeps them. Where the book is down, the
-- disk stands for payloads that begin with theirs.
pub record IsSound {D : Type 0} (disk : Ghosts D) (book : BookView D) : Type 0 where
  pub told : Tells (payloads_of book.config book.notes) book.config book.notes
  pub up : book.down ≡ None → EachFile disk book.disk (λ file. Keeps file book.config book.notes)
  pub begins : EachFile disk book.disk (StandsBeyond (payloads_of book.config book.notes))
