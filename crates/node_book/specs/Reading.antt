-- Why a file keeps no configuration and notes.
use Rattle.std.specs.Prelude.{◌≡◌, ◌⊎◌, ℕ, true, List, [], ◌∷◌, ◌++◌, length, Option, IfSome}
use Rattle.gate_journal.specs.Format.{front, Stands}
use Rattle.gate_journal.specs.Reading.{IsUnmade, IsRefusal as IsJournalRefusal}
use Rattle.gate_journal.specs.declared.fault.JournalFault.TheVariants as journal
use Rattle.net_model.specs.declared.note.Note.{Note}
use Rattle.node_notes.specs.declared.config.Config.{Config}
use Rattle.node_notes.specs.Spelling.{note_payload, config_payload}
use Rattle.node_notes.specs.Forms.{is_config, is_next}
use Rattle.node_notes.specs.Tells.{Tells}
use Rattle.node_book.specs.declared.fault.BookFault.{BookFault}
use Rattle.node_book.specs.declared.fault.BookFault.TheVariants.{Unmade, NotJournal, Damaged, Full, AlreadyMade, DiskFault, Stopped, NoMemory, BadNote}

-- The payload is not of the form that its place behind these demands: behind none a configuration's, behind others that
-- of a note that may follow them.
abbrev pub IsBadBehind : List (List ℕ) → List ℕ → Type 0
IsBadBehind good bad = (good ≡ []) × ((config : Config) → is_config config ≡ true → bad ≡ config_payload config → ⊥)
    ⊎ ((config : Config) × (notes : List Note) × Tells good config notes × ((note : Note) → is_next config notes note ≡ true → bad ≡ note_payload note → ⊥))

-- the first payload that is not of the form that its place demands, and where its gate stands
pub record HasBadAt (payloads : List (List ℕ)) (place : ℕ) : Type 0 where
  pub good : List (List ℕ)
  pub bad : List ℕ
  pub rest : List (List ℕ)
  pub payloads_are : payloads ≡ good ++ bad ∷ rest
  pub place_is : place ≡ length (front good)
  pub is_bad : IsBadBehind good bad

pub record IsBadAt (file : List ℕ) (place : ℕ) : Type 0 where
  pub payloads : List (List ℕ)
  pub stands : Stands file payloads
  pub has_bad : HasBadAt payloads place

-- why a load is refused, by what the disk reads
abbrev pub IsRefusal : BookFault → Option (List ℕ) → Type 0
IsRefusal Unmade reading = IfSome reading (λ file. IsUnmade file ⊎ Stands file [])
IsRefusal (NotJournal place) reading = IsJournalRefusal (journal.NotJournal place) reading
IsRefusal (Damaged place) reading = IsJournalRefusal (journal.Damaged place) reading
IsRefusal Full reading = ⊥
IsRefusal AlreadyMade reading = ⊥
IsRefusal DiskFault reading = Unit {0}
IsRefusal Stopped reading = Unit {0}
IsRefusal NoMemory reading = Unit {0}
IsRefusal (BadNote place) reading = IfSome reading (λ file. IsBadAt file place)
