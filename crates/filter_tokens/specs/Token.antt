-- What a filter's text is cut into (XPath 1.0, section 3.7, in this project's profile).
use Rattle.std.specs.Prelude.{◌≡◌, ◌≢◌, ◌⊎◌, ℕ, ◌+◌, ◌≤◌, ◌<◌, ◌==◌, Bool, true, false, not, List, [], ◌∷◌, ◌++◌, length, slice_index, codes}
use Rattle.std.specs.List.{list_all}
use Rattle.std.specs.Char.{is_ascii_digit}
use Rattle.std.specs.Str.{chars}
use Rattle.xml_lexer.specs.Characters.{is_xml_character, is_blank, is_name}
use Rattle.xml_lexer.specs.Characters.{Text}

pub data Token : Type 0 where
  slash : Token
  double_slash : Token
  opening_bracket : Token
  closing_bracket : Token
  opening_parenthesis : Token
  closing_parenthesis : Token
  at_sign : Token
  star : Token
  equals : Token
  differs : Token
  name : Text → Token
  literal : Text → Token
  -- of XPath, and in no filter
  foreign : Token

abbrev pub is_other_than : ℕ → ℕ → Bool
is_other_than quote b = not (b == quote)

-- in quotes of either kind, without its own quote inside
abbrev pub IsQuote : ℕ → Type 0
IsQuote q = (q ≡ 34) ⊎ (q ≡ 39)

abbrev pub AreXml : Text → Type 0
AreXml s = list_all is_xml_character (chars s) ≡ true

abbrev pub AreDigits : Text → Type 0
AreDigits s = list_all is_ascii_digit s ≡ true

-- digits with at most one point, or a mark that only other filters have
pub data IsForeign : Text → Type 0 where
  digits : (whole : Text) → AreDigits whole → 0 < length whole → IsForeign whole
  decimal : (whole fraction : Text) → AreDigits whole → AreDigits fraction → 0 < length whole + length fraction → IsForeign (whole ++ 46 ∷ fraction)
  point : IsForeign (codes ".")
  two_points : IsForeign (codes "..")
  two_colons : IsForeign (codes "::")
  colon : IsForeign (codes ":")
  dollar : IsForeign (codes "$")
  less : IsForeign (codes "<")
  at_most : IsForeign (codes "<=")
  greater : IsForeign (codes ">")
  at_least : IsForeign (codes ">=")
  plus : IsForeign (codes "+")
  minus : IsForeign (codes "-")
  bar : IsForeign (codes "|")
  comma : IsForeign (codes ",")

abbrev pub IsSpelled : Token → Text → Type 0
IsSpelled slash s = s ≡ codes "/"
IsSpelled double_slash s = s ≡ codes "//"
IsSpelled opening_bracket s = s ≡ codes "["
IsSpelled closing_bracket s = s ≡ codes "]"
IsSpelled opening_parenthesis s = s ≡ codes "("
IsSpelled closing_parenthesis s = s ≡ codes ")"
IsSpelled at_sign s = s ≡ codes "@"
IsSpelled star s = s ≡ codes "*"
IsSpelled equals s = s ≡ codes "="
IsSpelled differs s = s ≡ codes "!="
IsSpelled (name n) s = (s ≡ n) × (is_name n ≡ true)
IsSpelled (literal value) s = (quote : ℕ) × IsQuote quote × (s ≡ quote ∷ value ++ quote ∷ []) × (list_all (is_other_than quote) value ≡ true) × AreXml value
IsSpelled foreign s = IsForeign s

-- No token that begins here is longer.
abbrev pub IsLongest : Text → Text → Type 0
IsLongest spelled behind = (other : Token) (longer rest : Text) → IsSpelled other longer → spelled ++ behind ≡ longer ++ rest → length longer ≤ length spelled

abbrev pub AreBlanks : Text → Type 0
AreBlanks s = list_all is_blank s ≡ true

-- a token with the place where it begins, in bytes
pub record Placed : Type 0 where
  pub token : Token
  pub place : ℕ

-- From a place on, the longest list of whole tokens, each as long as it can be, with blanks between; the text goes on with `rest`, at `end`.
abbrev pub IsCut : ℕ → Text → List Placed → ℕ → Text → Type 0
IsCut from s [] end rest =
    (gap : Text) × AreBlanks gap × (s ≡ gap ++ rest) × (end ≡ from + length gap) × (is_blank (slice_index rest 0) ≡ false)
    × ((token : Token) (spelled behind : Text) → IsSpelled token spelled → rest ≢ spelled ++ behind)
IsCut from s (k ∷ ks) end rest =
    (gap spelled behind : Text) × AreBlanks gap × (s ≡ gap ++ spelled ++ behind) × (k.place ≡ from + length gap)
    × IsSpelled k.token spelled × IsLongest spelled behind × IsCut (from + length gap + length spelled) behind ks end rest
