-- The identifiers that notes bring, and the packets that are held under them.
use Rattle.std.specs.Prelude.{ℕ, Bool, true, false, not, cond, count_by, List, [], ◌∷◌, Option, Some, None}
use Rattle.std.specs.Str.{bytes_eq}
use Rattle.net_model.specs.declared.note.Note.{Note}
use Rattle.net_model.specs.declared.note.Note.TheVariants.{Wrote, Acked, Refused, Accept, Done, Enter}
use Rattle.net_model.specs.Notes.{brings}

-- the note brings an identifier
abbrev pub is_bringing : Note → Bool
is_bringing (Wrote identifier packet) = true
is_bringing (Accept identifier links packet) = true
is_bringing (Enter identifier packet) = true
is_bringing (Acked line identifier) = false
is_bringing (Refused line identifier) = false
is_bringing (Done link identifier) = false

-- how many identifiers the notes bring
abbrev pub held : List Note → ℕ
held notes = count_by is_bringing notes

abbrev pub identifier_in : Note → List ℕ
identifier_in (Wrote own packet) = own
identifier_in (Accept own links packet) = own
identifier_in (Enter own packet) = own
identifier_in (Acked line own) = own
identifier_in (Refused line own) = own
identifier_in (Done link own) = own

-- the packet of a note that brings one
abbrev pub packet_in : Note → List ℕ
packet_in (Wrote own packet) = packet
packet_in (Accept own links packet) = packet
packet_in (Enter own packet) = packet
packet_in (Acked line own) = []
packet_in (Refused line own) = []
packet_in (Done link own) = []

-- the packet that is held under an identifier
unfoldable pub packet_held : List Note → List ℕ → Option (List ℕ)
packet_held [] identifier = None
packet_held (note ∷ notes) identifier = cond (brings identifier note) (Some (packet_in note)) (packet_held notes identifier)

-- a packet is held, and it has another digest than this one
abbrev pub has_other_digest : (List ℕ → List ℕ) → Option (List ℕ) → List ℕ → Bool
has_other_digest digest_of None packet = false
has_other_digest digest_of (Some held) packet = not (bytes_eq (digest_of held) (digest_of packet))
