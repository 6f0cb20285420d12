-- Reading tokens from the front of a text: each gives what was read and the text behind it.
use Rattle.std.specs.Prelude.{ℕ, zero, suc, ◌-◌, ◌==◌, ◌||◌, if◌then◌else◌, List, [], ◌∷◌, ◌++◌, length, take, drop, Option, Some, None, option_map}
use Rattle.std.specs.List.{prefix_len, list_all}
use Rattle.std.specs.Char.{is_ascii_digit}
use Rattle.std.specs.Str.{chars}
use Rattle.xml_lexer.specs.Characters.{is_xml_character, is_name_byte, starts_name}
use Rattle.xml_lexer.specs.Scan.{byte_at, skip_blanks}
use Rattle.xml_lexer.specs.Characters.{Text}
use Rattle.filter_tokens.specs.Token.{Token, slash, double_slash, opening_bracket, closing_bracket, opening_parenthesis, closing_parenthesis, at_sign, star, equals, differs, name, literal, foreign, Placed, is_other_than}

abbrev pub behind_digits : Text → Text
behind_digits s = drop (prefix_len is_ascii_digit s) s

-- behind a point and its digits, where a point stands
abbrev pub behind_fraction : Text → Text
behind_fraction [] = []
behind_fraction (b ∷ s) = if b == 46 then behind_digits s else b ∷ s

abbrev pub literal_in : Text → Option Text → Option (Token × Text)
literal_in value None = None
literal_in value (Some rest) = if list_all is_xml_character (chars value) then Some (literal value, rest) else None

-- behind the opening quote
unfoldable pub literal_at : ℕ → Text → Option (Token × Text)
literal_at quote s = let n = prefix_len (is_other_than quote) s in literal_in (take n s) (byte_at quote (drop n s))

unfoldable pub name_at : Text → Token × Text
name_at s = let n = prefix_len is_name_byte s in (name (take n s), drop n s)

-- the tokens of one byte that begin no longer ones
abbrev pub single : ℕ → Option Token
single b =
    if b == 91 then Some opening_bracket else (if b == 93 then Some closing_bracket else (if b == 40 then Some opening_parenthesis else (if b == 41 then Some closing_parenthesis else (
    if b == 64 then Some at_sign else (if b == 42 then Some star else (if b == 61 then Some equals else (
    if b == 36 || b == 43 || b == 44 || b == 45 || b == 124 then Some foreign else None)))))))

-- a token, or the longer one that its next byte makes
abbrev pub or_longer : Option Text → Token → Token → Text → Option (Token × Text)
or_longer None longer shorter rest = Some (shorter, rest)
or_longer (Some behind) longer shorter rest = Some (longer, behind)

-- behind `!`
abbrev pub differs_at : Text → Option (Token × Text)
differs_at s = option_map (λ rest. (differs, rest)) (byte_at 61 s)

-- behind the first byte of the other ones
abbrev pub other_at : ℕ → Text → Option (Token × Text)
other_at b s =
    if b == 47 then or_longer (byte_at 47 s) double_slash slash s
    else (if b == 33 then differs_at s
    else (if b == 34 || b == 39 then literal_at b s
    else (if b == 46 then or_longer (byte_at 46 s) foreign foreign (behind_digits s)
    else (if b == 58 then or_longer (byte_at 58 s) foreign foreign s
    else (if b == 60 || b == 62 then or_longer (byte_at 61 s) foreign foreign s else None)))))

abbrev pub single_or : Option Token → Text → Option (Token × Text) → Option (Token × Text)
single_or None s other = other
single_or (Some t) s other = Some (t, s)

unfoldable pub mark_at : ℕ → Text → Option (Token × Text)
mark_at b s = single_or (single b) s (other_at b s)

-- the longest token at the front
unfoldable pub token_at : Text → Option (Token × Text)
token_at [] = None
token_at (b ∷ s) =
    if starts_name b then Some (name_at (b ∷ s)) else (if is_ascii_digit b then Some (foreign, behind_fraction (behind_digits (b ∷ s))) else mark_at b s)

abbrev pub placed_before : ℕ → Text → Option (Token × Text) → (Text → List Placed × Text) → List Placed × Text
placed_before size s None more = ([], s)
placed_before size s (Some x) more = let others = more (skip_blanks x.1) in (record { token = x.0; place = size - length s } ∷ others.0, others.1)

-- at most `count` tokens of a text of that size, from what is left of it, and what follows
unfoldable pub tokens_at : ℕ → ℕ → Text → List Placed × Text
tokens_at zero size s = ([], s)
tokens_at (suc count) size s = placed_before size s (token_at s) (tokens_at count size)

abbrev pub cut_of : Text → List Placed × Text
cut_of s = tokens_at (length s) (length s) (skip_blanks s)

-- behind tokens that were read before
abbrev pub behind_tokens : List Placed → List Placed × Text → List Placed × Text
behind_tokens front x = (front ++ x.0, x.1)
