-- What the words ask for, by the parser's exact meaning of the command.
use Rattle.std.specs.Prelude.{◌≡◌, ℕ, ◌≤◌, List, [], unwrap_or, Option, Some, None, Result, Ok, Err, codes}
use Rattle.std.specs.Str.Parse.{IsNumeral, digits_value, without_leading_plus}
use Rattle.clap.specs.Walk.{Row, Text, all_of, first_of}
use Rattle.clap.specs.Simple.{subcommand_of}
use Rattle.clap.specs.Faults.{fault_of}
use Rattle.online_words.specs.Network.{network_app}
use Rattle.online_words.specs.declared.request.Request.{Request}
use Rattle.online_words.specs.declared.request.Request.TheVariants.{Submit, Listen, Serve}
use Rattle.online_words.specs.declared.request.WordsFault.{WordsFault}
use Rattle.online_words.specs.declared.request.WordsFault.TheVariants.{Faulty, NoMemory}

-- the text is this number, from 1 to this limit
pub record IsCount (most : ℕ) (text : Text) (n : ℕ) : Type 0 where
  pub numeral : IsNumeral 10 (without_leading_plus text)
  pub value : n ≡ digits_value 10 (without_leading_plus text)
  pub some : 1 ≤ n
  pub few : n ≤ most

-- the first value of an argument is this number
pub record IsCountOf (most : ℕ) (id : Text) (rows : List Row) (n : ℕ) : Type 0 where
  pub text : Text
  pub found : first_of id rows ≡ Some text
  pub count : IsCount most text n

-- the pause before what has ended is dialled again, in seconds, where there is one
abbrev pub IsPause : List Row → Option ℕ → Type 0
IsPause rows None = first_of (codes "redial") rows ≡ None
IsPause rows (Some seconds) = IsCountOf 86400 (codes "redial") rows seconds

-- the upstream addresses, of which there may be none
abbrev pub upstream_in : List Row → List Text
upstream_in rows = unwrap_or (all_of (codes "UPSTREAM") rows) []

-- the subcommand of this name, with these arguments, asks for this
abbrev pub Asks : Text → List Row → Request → Type 0
Asks name rows (Submit address) = (name ≡ codes "submit") × (first_of (codes "ADDRESS") rows ≡ Some address)
Asks name rows (Listen address count) = (name ≡ codes "listen") × (first_of (codes "ADDRESS") rows ≡ Some address) × IsCountOf 1000000 (codes "COUNT") rows count
Asks name rows (Serve redial authors subscribers sessions upstream) =
    (name ≡ codes "serve")
    × IsPause rows redial
    × (first_of (codes "AUTHORS") rows ≡ Some authors)
    × (first_of (codes "SUBSCRIBERS") rows ≡ Some subscribers)
    × IsCountOf 1000000 (codes "SESSIONS") rows sessions
    × (upstream ≡ upstream_in rows)

abbrev pub AsksIn : Option (Text × List Row) → Request → Type 0
AsksIn None request = ⊥
AsksIn (Some entered) request = Asks entered.0 entered.1 request

-- The parser takes the words behind the program's name, and their subcommand asks for this.
pub record IsRequest (words : List Text) (request : Request) : Type 0 where
  pub taken : fault_of network_app words ≡ []
  pub asks : AsksIn (subcommand_of network_app words) request

-- the subcommand of this name asks for this; where it is faulty it asks for nothing
abbrev pub AsksOrFaulty : Text → List Row → Result Request WordsFault → Type 0
AsksOrFaulty name rows (Ok request) = Asks name rows request
AsksOrFaulty name rows (Err Faulty) = (request : Request) → Asks name rows request → ⊥
AsksOrFaulty name rows (Err NoMemory) = Unit {0}

-- the words ask for this; where they are faulty they ask for nothing
abbrev pub RequestOrFaulty : List Text → Result Request WordsFault → Type 0
RequestOrFaulty words (Ok request) = IsRequest words request
RequestOrFaulty words (Err Faulty) = (request : Request) → IsRequest words request → ⊥
RequestOrFaulty words (Err NoMemory) = Unit {0}
