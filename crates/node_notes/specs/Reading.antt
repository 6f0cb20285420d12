-- Reading from left to right. A field is a value and the bytes after it.
use Rattle.std.specs.Prelude.{◌≡◌, ℕ, zero, suc, Bool, List, [], ◌∷◌, length, take, drop, Option, Some, None, Result, Ok, Err, nat_lt, ◌==◌, if◌then◌else◌}
use Rattle.std.specs.Int.{Width, w16, w32, byte_len, from_be_bytes}
use Rattle.node_notes.specs.declared.config.Config.{Config}
use Rattle.node_notes.specs.declared.config.LinkConfig.{LinkConfig}
use Rattle.voe_values.specs.declared.kind.NodeKind.{NodeKind}
use Rattle.voe_values.specs.declared.kind.NodeKind.TheVariants.{Author, Broker, Subscriber}
use Rattle.net_model.specs.declared.note.Note.{Note}
use Rattle.net_model.specs.declared.note.Note.TheVariants.{Wrote, Acked, Refused, Accept, Done, Enter}
use Rattle.node_notes.specs.Forms.{is_name, is_filter}
use Rattle.node_notes.specs.declared.fault.ReadFault.{ReadFault}
use Rattle.node_notes.specs.declared.fault.ReadFault.TheVariants.{Malformed, NoMemory}

infixl 10 ◌>>=◌
abbrev pub ◌>>=◌ : {A B : Type 0} → Option A → (A → Option B) → Option B
(Some x) >>= f = f x
None >>= f = None

abbrev pub Fails : {Y : Type 0} → ReadFault → Option Y → Type 0
Fails NoMemory read = Unit {0}
Fails Malformed read = read ≡ None

-- What a function returned, seen by view, is what reading gives, unless memory was wanting.
abbrev pub Gives : {X Y : Type 0} → (X → Y) → Result X ReadFault → Option Y → Type 0
Gives view (Ok x) read = read ≡ Some (view x)
Gives view (Err fault) read = Fails fault read

abbrev pub Field : Type 0 → Type 0
Field X = Option (X × List ℕ)

unfoldable pub byte_at : List ℕ → Field ℕ
byte_at [] = None
byte_at (byte ∷ rest) = Some (byte, rest)

abbrev pub integer_at : Width → List ℕ → Field ℕ
integer_at width bytes =
    if nat_lt (length bytes) (byte_len width) then None else Some (from_be_bytes width (take (byte_len width) bytes), drop (byte_len width) bytes)

unfoldable pub number_at : List ℕ → Field ℕ
number_at bytes = integer_at w16 bytes

abbrev pub text_at : Field ℕ → Field (List ℕ)
text_at size = do
  count ← size
  if nat_lt (length count.1) count.0 then None else Some (take count.0 count.1, drop count.0 count.1)

unfoldable pub name_at : List ℕ → Field (List ℕ)
name_at bytes = text_at (integer_at w16 bytes)

-- a text that passes
abbrev pub passing : (List ℕ → Bool) → List ℕ → Option (List ℕ)
passing test text = if test text then Some text else None

unfoldable pub end_name_at : List ℕ → Field (List ℕ)
end_name_at bytes = do
  text ← name_at bytes
  name ← passing is_name text.0
  Some (name, text.1)

unfoldable pub filter_at : List ℕ → Field (List ℕ)
filter_at bytes = do
  text ← name_at bytes
  filter ← passing is_filter text.0
  Some (filter, text.1)

unfoldable pub packet_at : List ℕ → Field (List ℕ)
packet_at bytes = text_at (integer_at w32 bytes)

unfoldable pub many_at : {X : Type 0} → (List ℕ → Field X) → ℕ → List ℕ → Field (List X)
many_at read zero bytes = Some ([], bytes)
many_at read (suc n) bytes = do
  first ← read bytes
  others ← many_at read n first.1
  Some (first.0 ∷ others.0, others.1)

unfoldable pub counted_at : {X : Type 0} → (List ℕ → Field X) → List ℕ → Field (List X)
counted_at read bytes = do
  count ← byte_at bytes
  many_at read count.0 count.1

unfoldable pub brought_at : List ℕ → Field (List ℕ × List ℕ)
brought_at bytes = do
  identifier ← name_at bytes
  packet ← packet_at identifier.1
  Some ((identifier.0, packet.0), packet.1)

unfoldable pub answered_at : List ℕ → Field (ℕ × List ℕ)
answered_at bytes = do
  edge ← number_at bytes
  identifier ← name_at edge.1
  Some ((edge.0, identifier.0), identifier.1)

unfoldable pub accepted_at : List ℕ → Field (List ℕ × List ℕ × List ℕ)
accepted_at bytes = do
  identifier ← name_at bytes
  links ← counted_at number_at identifier.1
  packet ← packet_at links.1
  Some ((identifier.0, links.0, packet.0), packet.1)

-- what stands behind the tag
unfoldable pub note_behind : ℕ → List ℕ → Field Note
note_behind tag bytes =
    if tag == 1 then (brought_at bytes >>= λ x. Some (Wrote x.0.0 x.0.1, x.1))
    else if tag == 2 then (answered_at bytes >>= λ x. Some (Acked x.0.0 x.0.1, x.1))
    else if tag == 3 then (answered_at bytes >>= λ x. Some (Refused x.0.0 x.0.1, x.1))
    else if tag == 4 then (accepted_at bytes >>= λ x. Some (Accept x.0.0 x.0.1 x.0.2, x.1))
    else if tag == 5 then (answered_at bytes >>= λ x. Some (Done x.0.0 x.0.1, x.1))
    else if tag == 6 then (brought_at bytes >>= λ x. Some (Enter x.0.0 x.0.1, x.1))
    else None

-- all of the bytes
abbrev pub whole : {X : Type 0} → Field X → Option X
whole read = do
  x ← read
  if length x.1 == 0 then Some x.0 else None

unfoldable pub note_of : List ℕ → Option Note
note_of bytes = do
  tag ← byte_at bytes
  whole (note_behind tag.0 tag.1)

abbrev pub kind_of : ℕ → Option NodeKind
kind_of byte = if byte == 97 then Some Author else if byte == 98 then Some Broker else if byte == 115 then Some Subscriber else None

unfoldable pub kind_at : List ℕ → Field NodeKind
kind_at bytes = do
  byte ← byte_at bytes
  kind ← kind_of byte.0
  Some (kind, byte.1)

unfoldable pub link_at : List ℕ → Field LinkConfig
link_at bytes = do
  name ← end_name_at bytes
  filters ← counted_at filter_at name.1
  Some (record { name = name.0; filters = filters.0 }, filters.1)

unfoldable pub config_at : List ℕ → Field Config
config_at bytes = do
  kind ← kind_at bytes
  name ← end_name_at kind.1
  links ← counted_at link_at name.1
  Some (record { kind = kind.0; name = name.0; links = links.0 }, links.1)

unfoldable pub config_of : List ℕ → Option Config
config_of bytes = do
  tag ← byte_at bytes
  if tag.0 == 0 then whole (config_at tag.1) else None
