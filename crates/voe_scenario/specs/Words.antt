-- Lines, words and numbers.
use Rattle.std.specs.Prelude.{ℕ, ◌+◌, ◌-◌, ◌*◌, cond, Bool, false, List, [], ◌∷◌, Option, Some, None, length, ◌==◌, ◌&&◌, nat_le, fold}
use Rattle.std.specs.List.{slice_split, list_all, before_first, after_first}

-- what stands between such bytes
abbrev pub pieces_of : ℕ → List ℕ → List (List ℕ)
pieces_of byte bytes = slice_split (λ b. b == byte) bytes

-- a line feed ends each line, but the last may lack it
abbrev pub lines_of : List ℕ → List (List ℕ)
lines_of text = pieces_of 10 text

-- one blank separates two words
abbrev pub words_of : List ℕ → List (List ℕ)
words_of line = pieces_of 32 line

-- from the blank to the tilde
abbrev pub is_printable : ℕ → Bool
is_printable b = nat_le 32 b && nat_le b 126

abbrev pub is_digit : ℕ → Bool
is_digit b = nat_le 48 b && nat_le b 57

-- up to seven digits
abbrev pub has_digits : List ℕ → Bool
has_digits word = nat_le (length word) 7 && list_all is_digit word

-- 0, or up to seven digits that don't begin with 0
unfoldable pub is_number : List ℕ → Bool
is_number [] = false
is_number (digit ∷ []) = has_digits (digit ∷ [])
is_number (digit ∷ second ∷ others) = cond (digit == 48) false (has_digits (digit ∷ second ∷ others))

-- what digits say
abbrev pub value_of : List ℕ → ℕ
value_of digits = fold (λ value digit. value * 10 + (digit - 48)) 0 digits

-- the number that a word is, if it is one
abbrev pub number_of : List ℕ → Option ℕ
number_of word = cond (is_number word) (Some (value_of word)) None

abbrev pub is_blank : ℕ → Bool
is_blank b = b == 32

-- a line up to its first blank
abbrev pub first_word : List ℕ → List ℕ
first_word line = before_first is_blank line

-- the rest of a line behind its first blank
abbrev pub behind_word : List ℕ → List ℕ
behind_word line = after_first is_blank line
