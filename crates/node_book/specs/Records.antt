-- A configuration and notes in memory.
use Rattle.std.specs.Prelude.{◌≡◌, ◌⊎◌, ℕ, ◌<◌, true, List, [], ◌∷◌, ◌++◌, length, slice_get, Some, vec_len, vec_capacity}
use Rattle.indexmap.specs.IndexMap.{spare}
use Rattle.std.specs.VecDeque.{deque_len, deque_capacity}
use Rattle.std.specs.Global.{Vec}
use Rattle.net_model.specs.declared.note.Note.{Note}
use Rattle.node_notes.specs.declared.config.Config.{Config}
use Rattle.node_notes.specs.Forms.{is_broker, is_config, is_next}
use Rattle.node_notes.specs.Held.{is_bringing, identifier_in}
use Rattle.node_notes.specs.Spelling.{note_payload}
use Rattle.node_notes.specs.Tells.{AreInOrder, payloads_of, Tells}
use Rattle.gate_journal.specs.Appender.{AppenderView, HasPayloads}
use Rattle.voe_disk.specs.declared.disk.Disk.{Ghosts}
use Rattle.node_book.specs.Index.{IsIndexOf}
use Rattle.node_book.specs.declared.fault.BookFault.{BookFault}
use Rattle.node_book.specs.declared.fault.BookFault.TheVariants.{Unmade, NotJournal, Damaged, Full, AlreadyMade, DiskFault, Stopped, NoMemory, BadNote}
use Rattle.node_book.specs.declared.index.Index.{Index}
use Rattle.node_book.specs.declared.open.OpenPlaces.{OpenPlaces}
use Rattle.node_book.specs.declared.records.Records.{Records}
use Rattle.node_book.specs.Reading.{HasBadAt}

-- they keep to their forms and their order, and the index is theirs
pub record AreKept (records : Records) : Type 0 where
  pub config_fits : is_config records.config ≡ true
  pub in_order : AreInOrder records.config [] records.notes.items
  pub indexed : IsIndexOf records.notes.items (length records.config.links) records.index

-- the payloads tell them
pub record IsTold (payloads : List (List ℕ)) (records : Records) : Type 0 where
  pub kept : AreKept records
  pub tells : Tells payloads records.config records.notes.items

-- the payloads of the configuration and the notes
abbrev pub payloads_in : Records → List (List ℕ)
payloads_in records = payloads_of records.config records.notes.items

-- they are in order, and a disk's journal has their payloads
pub record AreOnDisk {D : Type 0} (disk : Ghosts D) (journal : AppenderView D) (records : Records) : Type 0 where
  pub kept : AreKept records
  pub has : HasPayloads disk journal (payloads_in records)

-- a link or line that is configured, or any of a broker
abbrev pub IsEdge : Config → ℕ → Type 0
IsEdge config number = (number < length config.links) ⊎ (is_broker config.kind ≡ true)

-- one place more fits without memory
abbrev pub HasPlace : OpenPlaces → Type 0
HasPlace edge = deque_len edge.places < deque_capacity edge.places

-- so does one identifier more, with its place on each edge
pub record HasIndexPlace (index : Index) : Type 0 where
  pub known : 0 < spare index.known.places
  pub edges : (number : ℕ) (edge : OpenPlaces) → slice_get index.edges.edges.items number ≡ Some edge → HasPlace edge

-- one note more can be added without memory, where this is a copy of the identifier that it brings
pub record HasNotePlace (note : Note) (key : Vec ℕ) (records : Records) : Type 0 where
  pub notes : vec_len records.notes < vec_capacity records.notes
  pub index : is_bringing note ≡ true → HasIndexPlace records.index
  pub copied : is_bringing note ≡ true → key.items ≡ identifier_in note

-- the note of this payload was added
pub record Grew (payload : List ℕ) (old new : Records) : Type 0 where
  pub note : Note
  pub next : is_next old.config old.notes.items note ≡ true
  pub spelled : payload ≡ note_payload note
  pub config_is : new.config ≡ old.config
  pub notes_are : new.notes.items ≡ old.notes.items ++ note ∷ []

-- why records were not read from these payloads
abbrev pub IsReadRefusal : BookFault → List (List ℕ) → Type 0
IsReadRefusal Unmade payloads = payloads ≡ []
IsReadRefusal (BadNote place) payloads = HasBadAt payloads place
IsReadRefusal NoMemory payloads = Unit {0}
IsReadRefusal (NotJournal place) payloads = ⊥
IsReadRefusal (Damaged place) payloads = ⊥
IsReadRefusal Full payloads = ⊥
IsReadRefusal AlreadyMade payloads = ⊥
IsReadRefusal DiskFault payloads = ⊥
IsReadRefusal Stopped payloads = ⊥
