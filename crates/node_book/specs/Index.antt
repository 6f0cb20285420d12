-- What the indexes of notes hold.
use Rattle.std.specs.Prelude.{◌≡◌, ℕ, ◌+◌, ◌≤◌, Bool, true, false, ◌&&◌, cond, List, [], ◌∷◌, length, map, Option, Some, slice_get}
use Rattle.std.specs.Global.{Vec}
use Rattle.std.specs.Map.{lookup}
use Rattle.std.specs.Str.{bytes_eq}
use Rattle.sha1.specs.Sha1.{sha1}
use Rattle.net_model.specs.declared.note.Note.{Note}
use Rattle.net_model.specs.declared.note.Note.TheVariants.{Wrote, Acked, Refused, Accept, Done, Enter}
use Rattle.net_model.specs.Notes.{lists, is_open}
use Rattle.node_notes.specs.declared.config.Config.{Config}
use Rattle.node_notes.specs.Forms.{is_next}
use Rattle.node_notes.specs.Tells.{AreInOrder}
use Rattle.node_notes.specs.Held.{is_bringing, identifier_in, packet_in}
use Rattle.node_book.specs.declared.known.Entry.{Entry}
use Rattle.node_book.specs.declared.open.OpenPlaces.{OpenPlaces}
use Rattle.node_book.specs.declared.index.Index.{Index}

-- the place of a note, and the digest of its packet
abbrev pub entry_of : ℕ → Note → Entry
entry_of place note = record { at = place; digest = record { bytes = sha1 (packet_in note) } }

-- the identifiers in the order in which they are brought, each with its entry, among the notes from a place on
abbrev pub brought_from : ℕ → List Note → List (List ℕ × Entry)
brought_from place [] = []
brought_from place (note ∷ notes) =
    cond (is_bringing note) ((identifier_in note, entry_of place note) ∷ brought_from (place + 1) notes) (brought_from (place + 1) notes)

unfoldable pub brought_by : List Note → List (List ℕ × Entry)
brought_by notes = brought_from 0 notes

-- the entries of a map without where their keys lie in memory
abbrev pub plain : List (Vec ℕ × Entry) → List (List ℕ × Entry)
plain entries = map (λ entry. (entry.0.items, entry.1)) entries

abbrev pub found_in : List ℕ → List (List ℕ × Entry) → Option Entry
found_in identifier entries = lookup (bytes_eq identifier) entries

-- the note hands its identifier to the edge of this number
abbrev pub hands : ℕ → Note → Bool
hands number (Wrote own packet) = true
hands number (Accept own links packet) = lists links number
hands number (Enter own packet) = false
hands number (Acked line own) = false
hands number (Refused line own) = false
hands number (Done link own) = false

-- and the identifier is open there
abbrev pub is_open_note : List Note → ℕ → Note → Bool
is_open_note notes number note = hands number note && is_open notes number (identifier_in note)

-- the places of those among the notes from a place on
abbrev pub open_from : List Note → ℕ → ℕ → List Note → List ℕ
open_from all number place [] = []
open_from all number place (note ∷ notes) =
    cond (is_open_note all number note) (place ∷ open_from all number (place + 1) notes) (open_from all number (place + 1) notes)

unfoldable pub open_places : List Note → ℕ → List ℕ
open_places notes number = open_from notes number 0 notes

-- each number is above the one before it
abbrev pub IsRisingFrom : ℕ → List ℕ → Type 0
IsRisingFrom from [] = Unit {0}
IsRisingFrom from (x ∷ xs) = (from ≤ x) × IsRisingFrom (x + 1) xs

-- the edge of each number has these places
abbrev pub Follow : List OpenPlaces → (ℕ → List ℕ) → Type 0
Follow edges places = (number : ℕ) (edge : OpenPlaces) → slice_get edges number ≡ Some edge → edge.places.items ≡ places number

-- the index of these notes, over so many edges
pub record IsIndexOf (notes : List Note) (edges : ℕ) (index : Index) : Type 0 where
  pub known : plain index.known.places.entries ≡ brought_by notes
  pub count : length index.edges.edges.items ≡ edges
  pub opened : Follow index.edges.edges.items (open_places notes)

-- the note may stand behind these, which are in order
pub record MayStandBehind (notes : List Note) (note : Note) : Type 0 where
  pub config : Config
  pub in_order : AreInOrder config [] notes
  pub next : is_next config notes note ≡ true

-- the note answers this identifier on this edge, and says nothing else of it
abbrev pub Answers : ℕ → List ℕ → Note → Type 0
Answers number identifier (Wrote own packet) = ⊥
Answers number identifier (Accept own links packet) = ⊥
Answers number identifier (Enter own packet) = ⊥
Answers number identifier (Acked line own) = (line ≡ number) × (own ≡ identifier)
Answers number identifier (Refused line own) = (line ≡ number) × (own ≡ identifier)
Answers number identifier (Done link own) = (link ≡ number) × (own ≡ identifier)
