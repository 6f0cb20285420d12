-- The payloads of a configuration and of a record, each as a function of the value.
use Rattle.std.specs.Prelude.{ℕ, ◌<◌, ◌^◌, List, ◌∷◌, ◌++◌, length}
use Rattle.std.specs.List.{flat_map, AllByRecursion}
use Rattle.std.specs.Int.{w16, w32, to_be_bytes}
use Rattle.node_notes.specs.declared.config.Config.{Config}
use Rattle.node_notes.specs.declared.config.LinkConfig.{LinkConfig}
use Rattle.voe_values.specs.declared.kind.NodeKind.{NodeKind}
use Rattle.voe_values.specs.declared.kind.NodeKind.TheVariants.{Author, Broker, Subscriber}
use Rattle.net_model.specs.declared.note.Note.{Note}
use Rattle.net_model.specs.declared.note.Note.TheVariants.{Wrote, Acked, Refused, Accept, Done, Enter}

-- the number of a link or line in two bytes, the most significant first
unfoldable pub number : ℕ → List ℕ
number n = to_be_bytes w16 n

-- a name, an identifier or a filter: a length in two bytes, and its bytes
unfoldable pub name : List ℕ → List ℕ
name text = to_be_bytes w16 (length text) ++ text

-- a length in four bytes, and the packet
unfoldable pub packet : List ℕ → List ℕ
packet bytes = to_be_bytes w32 (length bytes) ++ bytes

-- one byte with their number, and then each of them
unfoldable pub counted : {X : Type 0} → (X → List ℕ) → List X → List ℕ
counted spell items = length items ∷ flat_map spell items

-- an identifier with its packet
unfoldable pub brought : List ℕ → List ℕ → List ℕ
brought identifier bytes = name identifier ++ packet bytes

-- an identifier that was answered over a link or line
unfoldable pub answered : ℕ → List ℕ → List ℕ
answered edge identifier = number edge ++ name identifier

-- an identifier with the links that it goes to, and its packet
unfoldable pub accepted : List ℕ → List ℕ → List ℕ → List ℕ
accepted identifier links bytes = name identifier ++ (counted number links ++ packet bytes)

abbrev pub note_payload : Note → List ℕ
note_payload (Wrote identifier bytes) = 1 ∷ brought identifier bytes
note_payload (Acked line identifier) = 2 ∷ answered line identifier
note_payload (Refused line identifier) = 3 ∷ answered line identifier
note_payload (Accept identifier links bytes) = 4 ∷ accepted identifier links bytes
note_payload (Done link identifier) = 5 ∷ answered link identifier
note_payload (Enter identifier bytes) = 6 ∷ brought identifier bytes

abbrev pub kind_byte : NodeKind → ℕ
kind_byte Author = 97
kind_byte Broker = 98
kind_byte Subscriber = 115

-- a link or line: its name and its filters
unfoldable pub link_text : LinkConfig → List ℕ
link_text link = name link.name ++ counted name link.filters

abbrev pub config_payload : Config → List ℕ
config_payload config = 0 ∷ kind_byte config.kind ∷ (name config.name ++ counted link_text config.links)

-- ---- what has a spelling: each number and each length has room in its field

abbrev pub IsShort : List ℕ → Type 0
IsShort text = length text < 2 ^ 16

abbrev pub IsFew : ℕ → Type 0
IsFew n = n < 256

abbrev pub IsNumber : ℕ → Type 0
IsNumber n = n < 2 ^ 16

abbrev pub IsLong : List ℕ → Type 0
IsLong bytes = length bytes < 2 ^ 32

abbrev pub IsLinkText : LinkConfig → Type 0
IsLinkText link = IsShort link.name × (AllByRecursion IsShort link.filters × IsFew (length link.filters))

abbrev pub HasSpelling : Note → Type 0
HasSpelling (Wrote identifier packet) = IsShort identifier × IsLong packet
HasSpelling (Acked line identifier) = IsNumber line × IsShort identifier
HasSpelling (Refused line identifier) = IsNumber line × IsShort identifier
HasSpelling (Accept identifier links packet) = IsShort identifier × (AllByRecursion IsNumber links × IsFew (length links)) × IsLong packet
HasSpelling (Done link identifier) = IsNumber link × IsShort identifier
HasSpelling (Enter identifier packet) = IsShort identifier × IsLong packet

abbrev pub IsConfigText : Config → Type 0
IsConfigText config = IsShort config.name × (AllByRecursion IsLinkText config.links × IsFew (length config.links))
