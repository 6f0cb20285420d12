-- The canonical text as symbols, in front of what follows them.
use Rattle.std.specs.Prelude.{Bool, true, false, List, [], ◌∷◌, ◌++◌, Option, Some, None, codes}
use Rattle.filter_tokens.specs.Token.{Token, slash, double_slash, opening_bracket, closing_bracket, opening_parenthesis, closing_parenthesis, at_sign, star, equals, differs, name, literal, foreign}
use Rattle.filter_text.specs.Filter.{Text, Axis, child, descendant, Part, element, attribute, Test, any, Comparison, equal, Path, path, Steps, arrived, step, Condition, any_of, all_of, not_so, alone, compare, Conditions, no_more, more, Operand, found, local_name}
use Rattle.filter_text.specs.Filter as filter
use Rattle.filter_text.specs.Grammar.{Symbol, plain, not_function, local_name_function, and_word, or_word}
use Rattle.filter_text.specs.Writing.{quoted}

-- a symbol, or a word with a blank on each side
pub data Piece : Type 0 where
  tight : Symbol → Piece
  word : Symbol → Piece

abbrev pub symbol_in : Piece → Symbol
symbol_in (tight s) = s
symbol_in (word s) = s

abbrev pub symbols : List Piece → List Symbol
symbols [] = []
symbols (p ∷ ps) = symbol_in p ∷ symbols ps

abbrev pub token_of : Symbol → Token
token_of (plain t) = t
token_of not_function = name (codes "not")
token_of local_name_function = name (codes "local-name")

abbrev pub spelled_of : Token → Text
spelled_of slash = codes "/"
spelled_of double_slash = codes "//"
spelled_of opening_bracket = codes "["
spelled_of closing_bracket = codes "]"
spelled_of opening_parenthesis = codes "("
spelled_of closing_parenthesis = codes ")"
spelled_of at_sign = codes "@"
spelled_of star = codes "*"
spelled_of equals = codes "="
spelled_of differs = codes "!="
spelled_of (name n) = n
spelled_of (literal v) = quoted v
spelled_of foreign = []

abbrev pub piece_text : Piece → Text
piece_text (tight s) = spelled_of (token_of s)
piece_text (word s) = 32 ∷ (spelled_of (token_of s) ++ 32 ∷ [])

abbrev pub text_of : List Piece → Text
text_of [] = []
text_of (p ∷ ps) = piece_text p ++ text_of ps

abbrev pub next_of : List Piece → Option Token
next_of [] = None
next_of (p ∷ ps) = Some (token_of (symbol_in p))

abbrev pub test_symbol : Test → Symbol
test_symbol any = plain star
test_symbol (filter.name n) = plain (name n)

abbrev pub separator_symbol : Axis → Symbol
separator_symbol child = plain slash
separator_symbol descendant = plain double_slash

abbrev pub comparison_symbol : Comparison → Symbol
comparison_symbol equal = plain equals
comparison_symbol filter.differs = plain differs

abbrev pub separated : Bool → Axis → List Piece → List Piece
separated true axis rest = tight (separator_symbol axis) ∷ rest
separated false axis rest = rest

abbrev pub signed : Part → List Piece → List Piece
signed element rest = rest
signed attribute rest = tight (plain at_sign) ∷ rest

abbrev mutual
  pub path_pieces : Path → List Piece → List Piece
  path_pieces (path absolute ss) rest = steps_pieces absolute ss rest

  pub steps_pieces : Bool → Steps → List Piece → List Piece
  steps_pieces sep arrived rest = rest
  steps_pieces sep (step axis part test cs ss) rest = separated sep axis (signed part (tight (test_symbol test) ∷ bracketed_pieces cs (steps_pieces true ss rest)))

  pub bracketed_pieces : Conditions → List Piece → List Piece
  bracketed_pieces no_more rest = rest
  bracketed_pieces (more c cs) rest = tight (plain opening_bracket) ∷ condition_pieces false c (tight (plain closing_bracket) ∷ bracketed_pieces cs rest)

  pub condition_pieces : Bool → Condition → List Piece → List Piece
  condition_pieces true (any_of cs) rest = tight (plain opening_parenthesis) ∷ listed_pieces or_word false cs (tight (plain closing_parenthesis) ∷ rest)
  condition_pieces false (any_of cs) rest = listed_pieces or_word false cs rest
  condition_pieces in_and (all_of cs) rest = listed_pieces and_word true cs rest
  condition_pieces in_and (not_so c) rest = tight not_function ∷ tight (plain opening_parenthesis) ∷ condition_pieces false c (tight (plain closing_parenthesis) ∷ rest)
  condition_pieces in_and (alone o) rest = operand_pieces o rest
  condition_pieces in_and (compare a how b) rest = operand_pieces a (tight (comparison_symbol how) ∷ operand_pieces b rest)

  pub listed_pieces : Symbol → Bool → Conditions → List Piece → List Piece
  listed_pieces w in_and no_more rest = rest
  listed_pieces w in_and (more c cs) rest = condition_pieces in_and c (others_pieces w in_and cs rest)

  pub others_pieces : Symbol → Bool → Conditions → List Piece → List Piece
  others_pieces w in_and no_more rest = rest
  others_pieces w in_and (more c cs) rest = word w ∷ condition_pieces in_and c (others_pieces w in_and cs rest)

  pub operand_pieces : Operand → List Piece → List Piece
  operand_pieces (found p) rest = path_pieces p rest
  operand_pieces (filter.literal v) rest = tight (plain (literal v)) ∷ rest
  operand_pieces local_name rest = tight local_name_function ∷ tight (plain opening_parenthesis) ∷ tight (plain closing_parenthesis) ∷ rest
