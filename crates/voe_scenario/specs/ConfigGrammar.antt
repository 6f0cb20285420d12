-- The lines of a configuration.
use Rattle.std.specs.Prelude.{ℕ, cond, List, [], ◌∷◌, Option, Some, None, codes}
use Rattle.std.specs.List.{list_all}
use Rattle.std.specs.Str.{bytes_eq}
use Rattle.voe_values.specs.declared.kind.NodeKind.{NodeKind}
use Rattle.voe_values.specs.declared.kind.NodeKind.TheVariants.{Author, Broker, Subscriber}
use Rattle.voe_scenario.specs.Words.{behind_word, first_word, is_printable, words_of}

-- what a line of a configuration says
pub data ConfigSaid : Type 0 where
  -- the end that is configured
  says_end : NodeKind → List ℕ → ConfigSaid
  -- a line of an author, or a link of a broker
  says_edge : NodeKind → List ℕ → ConfigSaid
  -- a filter of the last link
  says_filter : List ℕ → ConfigSaid

-- `author NAME`, `broker NAME`, `subscriber NAME`, `line NAME`, `link NAME`, where no name is empty
abbrev pub named_said : List ℕ → List ℕ → Option ConfigSaid
named_said word [] = None
named_said word (byte ∷ bytes) =
    cond (bytes_eq word (codes "author")) (Some (says_end Author (byte ∷ bytes)))
    (cond (bytes_eq word (codes "broker")) (Some (says_end Broker (byte ∷ bytes)))
    (cond (bytes_eq word (codes "subscriber")) (Some (says_end Subscriber (byte ∷ bytes)))
    (cond (bytes_eq word (codes "line")) (Some (says_edge Author (byte ∷ bytes)))
    (cond (bytes_eq word (codes "link")) (Some (says_edge Broker (byte ∷ bytes))) None))))

abbrev pub config_words_said : List (List ℕ) → Option ConfigSaid
config_words_said (word ∷ name ∷ []) = named_said word name
config_words_said _ = None

-- `filter TEXT`, whose text is the rest of the line behind one blank, and isn't empty
abbrev pub filter_said : List ℕ → Option ConfigSaid
filter_said [] = None
filter_said (byte ∷ bytes) = Some (says_filter (byte ∷ bytes))

-- what a printable line says
abbrev pub config_text_said : List ℕ → Option ConfigSaid
config_text_said line = cond (bytes_eq (first_word line) (codes "filter")) (filter_said (behind_word line)) (config_words_said (words_of line))

-- what a line says, if it is one of the grammar in printable bytes alone
unfoldable pub config_line_said : List ℕ → Option ConfigSaid
config_line_said line = cond (list_all is_printable line) (config_text_said line) None
