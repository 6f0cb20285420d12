-- The lines of a scenario.
use Rattle.std.specs.Prelude.{ℕ, Bool, cond, List, [], ◌∷◌, Option, Some, None, codes, map, nat_le, ◌==◌, ◌&&◌}
use Rattle.std.specs.List.{list_all, list_any, before_first, after_first}
use Rattle.std.specs.Str.{bytes_eq}
use Rattle.voe_values.specs.declared.kind.NodeKind.{NodeKind}
use Rattle.voe_values.specs.declared.kind.NodeKind.TheVariants.{Author, Broker, Subscriber}
use Rattle.voe_values.specs.declared.citation.Role.{Role}
use Rattle.voe_values.specs.declared.citation.Role.TheVariants.{Observation, Prediction, Utility, Test}
use Rattle.net_model.specs.declared.scenario.Event.{Event}
use Rattle.net_model.specs.declared.scenario.Event.TheVariants.{Write, Send, Down, Up, Cut, Connect, Crash, Reopen, Stop, Drain}
use Rattle.net_model.specs.declared.scenario.Inner.{Inner}
use Rattle.net_model.specs.declared.scenario.Inner.TheVariants.{Write as InWrite, Down as InDown, Up as InUp}
use Rattle.voe_packet.specs.declared.draft.Draft.{Draft}
use Rattle.voe_packet.specs.declared.param.Param.{Param}
use Rattle.voe_scenario.specs.Words.{behind_word, first_word, number_of, words_of, is_printable}

-- what a line says, its numbers being any
pub data Said : Type 0 where
  -- one more node
  says_node : NodeKind → Said
  -- a line from an author to a broker
  says_line : ℕ → ℕ → Said
  -- a link from a broker to a broker or subscriber
  says_link : ℕ → ℕ → Said
  -- one more filter of a link
  says_filter : ℕ → List ℕ → Said
  -- a packet that authors may write
  says_packet : Draft → Said
  -- something that happens
  says_event : Event → Said

-- ---- nodes, edges and events

-- `author`, `broker`, `subscriber`, `drain`
abbrev pub alone_said : List ℕ → Option Said
alone_said word =
    cond (bytes_eq word (codes "author")) (Some (says_node Author))
    (cond (bytes_eq word (codes "broker")) (Some (says_node Broker))
    (cond (bytes_eq word (codes "subscriber")) (Some (says_node Subscriber))
    (cond (bytes_eq word (codes "drain")) (Some (says_event Drain)) None)))

-- `send E`, `down E`, `up E`, `cut E`, `connect E`, `crash N`, `open N`
abbrev pub one_said : List ℕ → Option ℕ → Option Said
one_said word None = None
one_said word (Some number) =
    cond (bytes_eq word (codes "send")) (Some (says_event (Send number)))
    (cond (bytes_eq word (codes "down")) (Some (says_event (Down number)))
    (cond (bytes_eq word (codes "up")) (Some (says_event (Up number)))
    (cond (bytes_eq word (codes "cut")) (Some (says_event (Cut number)))
    (cond (bytes_eq word (codes "connect")) (Some (says_event (Connect number)))
    (cond (bytes_eq word (codes "crash")) (Some (says_event (Crash number)))
    (cond (bytes_eq word (codes "open")) (Some (says_event (Reopen number))) None))))))

-- `line A B`, `link B Y`, `write A P`
abbrev pub pair_said : List ℕ → Option ℕ → Option ℕ → Option Said
pair_said word None second = None
pair_said word (Some first) None = None
pair_said word (Some first) (Some second) =
    cond (bytes_eq word (codes "line")) (Some (says_line first second))
    (cond (bytes_eq word (codes "link")) (Some (says_link first second))
    (cond (bytes_eq word (codes "write")) (Some (says_event (Write first second))) None))

-- a word with up to two numbers behind it
abbrev pub plain_said : List ℕ → List (List ℕ) → Option Said
plain_said word [] = alone_said word
plain_said word (first ∷ []) = one_said word (number_of first)
plain_said word (first ∷ second ∷ []) = pair_said word (number_of first) (number_of second)
plain_said word (first ∷ second ∷ third ∷ others) = None

-- ---- stops

-- `down E`, `up E`
abbrev pub inner_one : List ℕ → Option ℕ → Option Inner
inner_one word None = None
inner_one word (Some edge) = cond (bytes_eq word (codes "down")) (Some (InDown edge)) (cond (bytes_eq word (codes "up")) (Some (InUp edge)) None)

-- `write A P`
abbrev pub inner_pair : List ℕ → Option ℕ → Option ℕ → Option Inner
inner_pair word None second = None
inner_pair word (Some author) None = None
inner_pair word (Some author) (Some packet) = cond (bytes_eq word (codes "write")) (Some (InWrite author packet)) None

-- what is stopped
abbrev pub inner_said : List (List ℕ) → Option Inner
inner_said [] = None
inner_said (word ∷ []) = None
inner_said (word ∷ first ∷ []) = inner_one word (number_of first)
inner_said (word ∷ first ∷ second ∷ []) = inner_pair word (number_of first) (number_of second)
inner_said (word ∷ first ∷ second ∷ third ∷ others) = None

-- after 0 to 4 calls, the disk being filled with a byte
abbrev pub stopped : Option ℕ → Option ℕ → Option Inner → Option Said
stopped None fill inner = None
stopped (Some calls) None inner = None
stopped (Some calls) (Some fill) None = None
stopped (Some calls) (Some fill) (Some inner) = cond (nat_le calls 4 && nat_le fill 255) (Some (says_event (Stop calls fill inner))) None

-- `stop K C` and a `write`, `down` or `up`
abbrev pub stop_said : List (List ℕ) → Option Said
stop_said [] = None
stop_said (calls ∷ []) = None
stop_said (calls ∷ fill ∷ inner) = stopped (number_of calls) (number_of fill) (inner_said inner)

-- ---- packets

abbrev pub is_equals : ℕ → Bool
is_equals b = b == 61

-- the word has a `=`
abbrev pub has_equals : List ℕ → Bool
has_equals word = list_any is_equals word

-- `NAME=VALUE`, whose value is what stands behind the first `=`
abbrev pub param_in : List ℕ → Param
param_in word = record { name = before_first is_equals word; value = after_first is_equals word }

-- what the packet is for (VOEvent 2.0, `role`)
abbrev pub role_said : List ℕ → Option Role
role_said word =
    cond (bytes_eq word (codes "observation")) (Some Observation)
    (cond (bytes_eq word (codes "prediction")) (Some Prediction)
    (cond (bytes_eq word (codes "utility")) (Some Utility)
    (cond (bytes_eq word (codes "test")) (Some Test) None)))

-- the packet of this identifier, role and parameters, which cites nothing
abbrev pub drafted : List ℕ → Option Role → List (List ℕ) → Option Said
drafted identifier None words = None
drafted identifier (Some role) words =
    cond (list_all has_equals words) (Some (says_packet (record { identifier = identifier; role = role; params = map param_in words; citations = [] }))) None

-- no word is empty
abbrev pub packet_said : List ℕ → List ℕ → List (List ℕ) → Option Said
packet_said [] role words = None
packet_said (byte ∷ bytes) role words = drafted (byte ∷ bytes) (role_said role) words

-- `packet ID ROLE` and any number of `NAME=VALUE`
abbrev pub packet_words_said : List (List ℕ) → Option Said
packet_words_said [] = None
packet_words_said (identifier ∷ []) = None
packet_words_said (identifier ∷ role ∷ words) = packet_said identifier role words

-- ---- filters

abbrev pub filter_of : Option ℕ → List ℕ → Option Said
filter_of None text = None
filter_of (Some edge) [] = None
filter_of (Some edge) (byte ∷ bytes) = Some (says_filter edge (byte ∷ bytes))

-- `filter E TEXT`, whose text is the rest of the line behind one blank, and isn't empty
abbrev pub filter_said : List ℕ → Option Said
filter_said arguments = filter_of (number_of (first_word arguments)) (behind_word arguments)

-- ---- a line

-- what a word says with the words behind it
abbrev pub words_said : List ℕ → List (List ℕ) → Option Said
words_said word others =
    cond (bytes_eq word (codes "packet")) (packet_words_said others) (cond (bytes_eq word (codes "stop")) (stop_said others) (plain_said word others))

abbrev pub split_said : List (List ℕ) → Option Said
split_said [] = None
split_said (word ∷ others) = words_said word others

-- what a printable line says
abbrev pub text_said : List ℕ → Option Said
text_said line = cond (bytes_eq (first_word line) (codes "filter")) (filter_said (behind_word line)) (split_said (words_of line))

-- what a line says, if it is one of the grammar in printable bytes alone
unfoldable pub said_of : List ℕ → Option Said
said_of line = cond (list_all is_printable line) (text_said line) None
