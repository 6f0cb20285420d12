-- Tokens as nested elements, which keep their names as spelled.
use Rattle.std.specs.Prelude.{ℕ, ◌==◌, Bool, true, false, if◌then◌else◌, List, [], ◌∷◌, ◌++◌, slice_index, Option, Some, None, option_and_then}
use Rattle.std.specs.Char.{encode_utf8}
use Rattle.xml_lexer.specs.Characters.{Text}
use Rattle.xml_lexer.specs.Token.{Token, declaration, instruction, comment, cdata, start, end, reference, text, Spelled}
use Rattle.xml_lexer.specs.Spelling.{same}

mutual
  pub data Node : Type 0 where
    element : Text → List Spelled → Nodes → Node
    characters : Text → Node

  pub data Nodes : Type 0 where
    none : Nodes
    node : Node → Nodes → Nodes

-- CR LF and a lone CR read as LF: XML 1.0, section 2.11
abbrev pub with_line_feeds : Text → Text
with_line_feeds [] = []
with_line_feeds (b ∷ bs) =
    if b == 13 then (if slice_index bs 0 == 10 then with_line_feeds bs else 10 ∷ with_line_feeds bs) else b ∷ with_line_feeds bs

abbrev pub is_return : ℕ → Bool
is_return b = b == 13

-- what a line's end and the text behind its CR read as
abbrev pub behind_return : Text → Text
behind_return bs = if slice_index bs 0 == 10 then with_line_feeds bs else 10 ∷ with_line_feeds bs

-- a text before the nodes, as one with a text that comes first
abbrev pub put_text : Text → Nodes → Nodes
put_text [] ns = ns
put_text (b ∷ bs) (node (characters t) ns) = node (characters (b ∷ bs ++ t)) ns
put_text (b ∷ bs) ns = node (characters (b ∷ bs)) ns

-- Levels that are open towards the front, the innermost first: each is a name and nodes, but the outermost has no name.
pub data Levels : Type 0 where
  outermost : Nodes → Levels
  inside : Text → Nodes → Levels → Levels

abbrev pub put : (Nodes → Nodes) → Levels → Levels
put change (outermost ns) = outermost (change ns)
put change (inside name ns levels) = inside name (change ns) levels

-- takes off the innermost level, of that name
abbrev pub close : Text → List Spelled → Levels → Option Levels
close name given (outermost ns) = None
close name given (inside other ns levels) = if same name other then Some (put (node (element name given ns)) levels) else None

abbrev pub step : Token → Levels → Option Levels
step (end name) levels = Some (inside name none levels)
step (start name given false) levels = close name given levels
step (start name given true) levels = Some (put (node (element name given none)) levels)
step (text run) levels = Some (put (put_text (with_line_feeds run)) levels)
step (cdata run) levels = Some (put (put_text (with_line_feeds run)) levels)
step (reference c) levels = Some (put (put_text (encode_utf8 c)) levels)
step (declaration encoding) levels = Some levels
step instruction levels = Some levels
step comment levels = Some levels

-- from the last token to the first
abbrev pub levels_of : List Token → Option Levels
levels_of [] = Some (outermost none)
levels_of (k ∷ ks) = option_and_then (step k) (levels_of ks)

-- the elements among the nodes
abbrev pub elements_among : Nodes → List Node
elements_among none = []
elements_among (node (characters t) ns) = elements_among ns
elements_among (node (element name given kids) ns) = element name given kids ∷ elements_among ns
