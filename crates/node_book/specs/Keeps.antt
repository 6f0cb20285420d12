-- What a file keeps of a node, and whether one more note has room.
use Rattle.std.specs.Prelude.{◌⊎◌, ℕ, ◌+◌, Bool, ◌&&◌, ◌||◌, not, nat_le, nat_lt, if◌then◌else◌, List, [], ◌∷◌, ◌++◌, length, Option}
use Rattle.gate_journal.specs.Format.{front, is_kept, Stands}
use Rattle.net_model.specs.declared.note.Note.{Note}
use Rattle.node_notes.specs.declared.config.Config.{Config}
use Rattle.node_notes.specs.Spelling.{note_payload}
use Rattle.node_notes.specs.Held.{is_bringing, held}
use Rattle.node_notes.specs.Tells.{payloads_of, Tells}

-- the file keeps this configuration and these notes
pub record Keeps (file : List ℕ) (config : Config) (notes : List Note) : Type 0 where
  pub payloads : List (List ℕ)
  pub stands : Stands file payloads
  pub tells : Tells payloads config notes

-- with one note more or without it
abbrev pub KeepsBeforeOrAfter : Config → List Note → Note → List ℕ → Type 0
KeepsBeforeOrAfter config notes note file = Keeps file config notes ⊎ Keeps file config (notes ++ note ∷ [])

-- the notes after a crash, where the writing of one more was begun with this many calls to go until the disk stops
abbrev pub kept_notes : Option ℕ → ℕ → List Note → Note → List Note
kept_notes calls fill notes note = if is_kept calls fill then notes ++ note ∷ [] else notes

-- the journal's 67,108,864 bytes have room for one note more, and the book's 65,536 identifiers for one that it brings
unfoldable pub has_room : Config → List Note → Note → Bool
has_room config notes note =
    nat_le (length (front (payloads_of config notes)) + 6 + length (note_payload note)) 67108864
    && (not (is_bringing note) || nat_lt (held notes) 65536)
