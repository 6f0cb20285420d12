-- The phases that come before a tree: the bytes are text, tokens cover them, and these are not too many.
use Rattle.std.specs.Prelude.{◌≡◌, ℕ, ◌+◌, ◌<◌, ◌≤◌, ◌⊎◌, Bool, true, nat_eq, if◌then◌else◌, List, [], ◌∷◌, ◌++◌, length, drop, slice_index, Option, Some, Any, IsUtf8, codes}
use Rattle.std.specs.List.{starts_with}
use Rattle.std.specs.Str.{str_eq_ignore_ascii_case}
use Rattle.std.specs.Str.Lossy.{utf8_valid_len}
use Rattle.xml_lexer.specs.Characters.{Text, xml_front}
use Rattle.xml_lexer.specs.Token.{Token}
use Rattle.xml_lexer.specs.Spelling.{IsDeclaration}
use Rattle.xml_lexer.specs.Cut.{Follow, IsCut}

-- ---- the byte order mark

abbrev pub mark : Text
mark = 0xEF ∷ 0xBB ∷ 0xBF ∷ []

abbrev pub mark_len : Text → ℕ
mark_len bytes = if starts_with nat_eq bytes mark then 3 else 0

-- the bytes behind a byte order mark
abbrev pub without_mark : Text → Text
without_mark bytes = drop (mark_len bytes) bytes

-- ---- what comes first: the bytes are text

-- the text begins with a declaration, and goes on with `behind`
abbrev pub BeginsDeclared : Text → Option Text → Text → Text → Type 0
BeginsDeclared text encoding declared behind = IsDeclaration encoding declared × (text ≡ declared ++ behind)

-- A byte above 127 wants a declared encoding to be UTF-8.
abbrev pub KeepsEncoding : Text → Type 0
KeepsEncoding text =
    (encoding declared behind : Text) → BeginsDeclared text (Some encoding) declared behind → Any (λ b. 127 < b) text
    → str_eq_ignore_ascii_case encoding (codes "UTF-8") ≡ true

abbrev pub IsText : Text → Type 0
IsText text = IsUtf8 text × KeepsEncoding text

-- the first byte of the first bad sequence, or else the first byte above 127, of what is no text
abbrev pub IsNoTextAt : Text → ℕ → Type 0
IsNoTextAt text place =
    ((IsUtf8 text → ⊥) × (place ≡ utf8_valid_len text))
    ⊎ (IsUtf8 text × (KeepsEncoding text → ⊥) × (127 < slice_index text place) × ((i : ℕ) → i < place → slice_index text i ≤ 127))

-- ---- then: tokens cover the text

-- the text up to its first character that no document may have: the values of a declaration may have any
abbrev pub IsFrontOf : Text → Text → Type 0
IsFrontOf front text =
    ((encoding : Option Text) × (declared behind : Text) × BeginsDeclared text encoding declared behind × (front ≡ declared ++ xml_front behind))
    ⊎ (((encoding : Option Text) (declared behind : Text) → BeginsDeclared text encoding declared behind → ⊥) × (front ≡ xml_front text))

-- the tokens follow one another to the end of the text, whose characters are those of XML
abbrev pub Covers : Text → List Token → Type 0
Covers text ks = IsFrontOf text text × Follow true text ks []

-- at the end of the longest list of whole tokens the text goes on; and whether it begins with `<!DOCTYPE` there
abbrev pub StopsAt : Text → ℕ → Bool → Type 0
StopsAt text place is_doctype =
    (front : Text) × IsFrontOf front text × (ks : List Token) × (after : Text) × IsCut front ks after
    × (place + length after ≡ length front) × (place < length text)
    × (starts_with nat_eq (drop place text) (codes "<!DOCTYPE") ≡ is_doctype)

-- ---- last: there are not too many

abbrev pub max_tokens : ℕ
max_tokens = 65536

-- the bytes behind a mark are a text of these tokens
abbrev pub IsTokensOf : List Token → Text → Type 0
IsTokensOf ks bytes = IsText (without_mark bytes) × Covers (without_mark bytes) ks × (length ks ≤ max_tokens)

-- Each of these leaves out what comes before it. Places count the mark.

abbrev pub RefusesText : Text → ℕ → Type 0
RefusesText bytes place = (at : ℕ) × IsNoTextAt (without_mark bytes) at × (place ≡ mark_len bytes + at)

abbrev pub RefusesToken : Text → Bool → ℕ → Type 0
RefusesToken bytes is_doctype place =
    IsText (without_mark bytes) × (at : ℕ) × StopsAt (without_mark bytes) at is_doctype × (place ≡ mark_len bytes + at)

abbrev pub RefusesMany : Text → Type 0
RefusesMany bytes = IsText (without_mark bytes) × (ks : List Token) × Covers (without_mark bytes) ks × (max_tokens < length ks)
