-- How each token is spelled.
use Rattle.std.specs.Prelude.{◌≡◌, ℕ, ◌+◌, ◌<◌, ◌≤◌, ◌⊎◌, ◌||◌, ◌==◌, Bool, true, false, not, nat_eq, if◌then◌else◌, List, [], ◌∷◌, ◌++◌, length, drop, slice_index, Option, Some, None, codes}
use Rattle.std.specs.List.{list_all, starts_with}
use Rattle.std.specs.Cmp.Lexicographic.{pointwise}
use Rattle.std.specs.Char.{is_ascii_digit, is_ascii_hexdigit}
use Rattle.std.specs.Str.{str_eq_ignore_ascii_case}
use Rattle.std.specs.Str.Parse.{digits_value}
use Rattle.xml_lexer.specs.Characters.{Text, is_xml_character, is_blank, is_name, is_spelled_name}
use Rattle.xml_lexer.specs.Token.{Token, declaration, instruction, comment, cdata, start, end, reference, text, Spelled}

abbrev pub AreBlanks : Text → Type 0
AreBlanks s = list_all is_blank s ≡ true

-- ---- references

abbrev pub same : Text → Text → Bool
same = pointwise nat_eq

abbrev pub character : ℕ → Option ℕ
character c = if is_xml_character c then Some c else None

abbrev pub in_digits : ℕ → (ℕ → Bool) → Text → Option ℕ
in_digits base is_digit [] = None
in_digits base is_digit (d ∷ ds) = if list_all is_digit (d ∷ ds) then character (digits_value base (d ∷ ds)) else None

-- the character that `body` names, between `&` and `;`
abbrev pub named_character : Text → Option ℕ
named_character body =
    if same body (codes "lt") then Some 60 else (if same body (codes "gt") then Some 62 else (if same body (codes "amp") then Some 38
    else (if same body (codes "apos") then Some 39 else (if same body (codes "quot") then Some 34
    else (if starts_with nat_eq body (codes "#x") then in_digits 16 is_ascii_hexdigit (drop 2 body)
    else (if starts_with nat_eq body (codes "#") then in_digits 10 is_ascii_digit (drop 1 body) else None))))))

abbrev pub IsReference : ℕ → Text → Type 0
IsReference c s = (body : Text) × (named_character body ≡ Some c) × (s ≡ 38 ∷ body ++ 59 ∷ [])

abbrev pub BeginsReference : Text → Type 0
BeginsReference s = (c : ℕ) × (spelled : Text) × (rest : Text) × IsReference c spelled × (s ≡ spelled ++ rest)

-- ---- tags

abbrev pub is_value_byte : ℕ → ℕ → Bool
is_value_byte quote b = not (b == 60 || b == quote)

-- a value between two quotes: no `<`, not its quote, and each `&` begins a reference
pub record IsValue (quote : ℕ) (value : Text) : Type 0 where
  pub bytes : list_all (is_value_byte quote) value ≡ true
  pub references : (i : ℕ) → slice_index value i ≡ 38 → BeginsReference (drop i value)

abbrev pub IsQuote : ℕ → Type 0
IsQuote q = (q ≡ 34) ⊎ (q ≡ 39)

-- one or more blanks, a name, `=` among blanks, and a value in quotes
abbrev pub IsAttribute : Spelled → Text → Type 0
IsAttribute a s =
    (first : ℕ) × (gap before after : Text) × (quote : ℕ)
    × (is_blank first ≡ true) × AreBlanks gap × (is_spelled_name a.name ≡ true) × AreBlanks before × AreBlanks after
    × IsQuote quote × IsValue quote a.value
    × (s ≡ first ∷ gap ++ a.name ++ before ++ 61 ∷ after ++ quote ∷ a.value ++ quote ∷ [])

abbrev pub AreAttributes : List Spelled → Text → Type 0
AreAttributes [] s = s ≡ []
AreAttributes (a ∷ more) s = (front others : Text) × IsAttribute a front × AreAttributes more others × (s ≡ front ++ others)

abbrev pub tag_end : Bool → Text
tag_end true = codes "/>"
tag_end false = codes ">"

abbrev pub max_attributes : ℕ
max_attributes = 64

-- ---- tokens

abbrev pub IsFirst : Text → Text → Type 0
IsFirst ending s = (i : ℕ) → starts_with nat_eq (drop i s) ending ≡ true → i + length ending ≡ length s

-- `body` and then `ending`, which does not come before
abbrev pub IsUpTo : Text → Text → Text → Type 0
IsUpTo ending body s = (s ≡ body ++ ending) × IsFirst ending s

-- a part of the declaration, as ` encoding = "UTF-8"`
abbrev pub IsPart : Text → Text → Text → Type 0
IsPart name value s =
    (first : ℕ) × (gap before after : Text) × (quote : ℕ)
    × (is_blank first ≡ true) × AreBlanks gap × AreBlanks before × AreBlanks after
    × IsQuote quote × (list_all (is_value_byte quote) value ≡ true)
    × (s ≡ first ∷ gap ++ name ++ before ++ 61 ∷ after ++ quote ∷ value ++ quote ∷ [])

abbrev pub IsOptionalPart : Text → Option Text → Text → Type 0
IsOptionalPart name None s = s ≡ []
IsOptionalPart name (Some value) s = IsPart name value s

abbrev pub IsDeclaration : Option Text → Text → Type 0
IsDeclaration encoding s =
    (version standalone : Option Text) × (one two three gap : Text)
    × IsOptionalPart (codes "version") version one × IsOptionalPart (codes "encoding") encoding two
    × IsOptionalPart (codes "standalone") standalone three
    × (0 < length (one ++ two ++ three)) × AreBlanks gap
    × (s ≡ codes "<?xml" ++ one ++ two ++ three ++ gap ++ codes "?>")

-- a name other than `xml`, and nothing behind it, or a blank and anything
abbrev pub IsInstruction : Text → Type 0
IsInstruction s =
    (target body rest : Text) × (is_name target ≡ true) × (str_eq_ignore_ascii_case target (codes "xml") ≡ false)
    × (s ≡ codes "<?" ++ target ++ rest) × IsUpTo (codes "?>") body rest
    × ((body ≡ []) ⊎ (is_blank (slice_index body 0) ≡ true))

abbrev pub is_text_byte : ℕ → Bool
is_text_byte b = not (b == 60 || b == 38)

-- the token is spelled so
abbrev pub IsSpelled : Token → Text → Type 0
IsSpelled (declaration encoding) s = IsDeclaration encoding s
IsSpelled instruction s = IsInstruction s
IsSpelled comment s = (body rest : Text) × (s ≡ codes "<!--" ++ rest) × IsUpTo (codes "-->") body rest
IsSpelled (cdata body) s = (rest : Text) × (s ≡ codes "<![CDATA[" ++ rest) × IsUpTo (codes "]]>") body rest
IsSpelled (start name given is_empty) s =
    (attributes gap : Text) × (is_spelled_name name ≡ true) × AreAttributes given attributes × (length given ≤ max_attributes)
    × AreBlanks gap × (s ≡ 60 ∷ name ++ attributes ++ gap ++ tag_end is_empty)
IsSpelled (end name) s = (gap : Text) × (is_spelled_name name ≡ true) × AreBlanks gap × (s ≡ 60 ∷ 47 ∷ name ++ gap ++ 62 ∷ [])
IsSpelled (reference c) s = IsReference c s
IsSpelled (text run) s = (0 < length run) × (list_all is_text_byte run ≡ true) × (s ≡ run)
