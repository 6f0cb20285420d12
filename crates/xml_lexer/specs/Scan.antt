-- Reading from the front of a text: each gives what was read and the text behind it.
use Rattle.std.specs.Prelude.{ℕ, zero, suc, ◌+◌, ◌&&◌, ◌||◌, ◌==◌, Bool, true, false, not, nat_eq, nat_lt, nat_le, is_some, is_none, if◌then◌else◌, List, [], ◌∷◌, ◌++◌, length, take, drop, slice_index, Option, Some, None, option_map, codes}
use Rattle.std.specs.List.{prefix_len, position_or_len, starts_with}
use Rattle.std.specs.Str.{str_eq_ignore_ascii_case}
use Rattle.xml_lexer.specs.Characters.{Text, is_blank, is_name_byte, is_name, is_colon, is_spelled_name}
use Rattle.xml_lexer.specs.Token.{Spelled}
use Rattle.xml_lexer.specs.Spelling.{named_character, is_text_byte, is_value_byte}

infixl 10 ◌>>=◌
abbrev pub ◌>>=◌ : {A B : Type 0} → Option A → (A → Option B) → Option B
None >>= f = None
(Some x) >>= f = f x

abbrev pub in_name : ℕ → Bool
in_name b = is_name_byte b || is_colon b

unfoldable pub name_at : Text → Option (Text × Text)
name_at s =
    let n = prefix_len in_name s in
    if is_spelled_name (take n s) then Some (take n s, drop n s) else None

abbrev pub skip_blanks : Text → Text
skip_blanks s = drop (prefix_len is_blank s) s

abbrev pub byte_at : ℕ → Text → Option Text
byte_at wanted [] = None
byte_at wanted (b ∷ s) = if b == wanted then Some s else None

abbrev pub literal_at : Text → Text → Option Text
literal_at front s = if starts_with nat_eq s front then Some (drop (length front) s) else None

-- ---- references and values

-- behind `&`
unfoldable pub reference_at : Text → Option (ℕ × Text)
reference_at s = do
  let n = position_or_len (λ b. b == 59) s
  rest ← byte_at 59 (drop n s)
  c ← named_character (take n s)
  Some (c, rest)

-- behind the opening quote
abbrev pub value_len : ℕ → Text → Option ℕ
value_len quote [] = None
value_len quote (b ∷ s) =
    if b == quote then Some 0 else (if b == 60 then None else (if b == 38 && is_none (reference_at s) then None else option_map suc (value_len quote s)))

unfoldable pub value_at : ℕ → Text → Option (Text × Text)
value_at quote s = do
  n ← value_len quote s
  Some (take n s, drop (n + 1) s)

unfoldable pub quoted_at : Text → Option (Text × Text)
quoted_at [] = None
quoted_at (b ∷ s) = if b == 34 || b == 39 then value_at b s else None

-- ---- tags

-- behind the blanks before it
unfoldable pub attribute_at : Text → Option (Spelled × Text)
attribute_at s = do
  name ← name_at s
  rest ← byte_at 61 (skip_blanks name.1)
  value ← quoted_at (skip_blanks rest)
  Some (record { name = name.0; value = value.0 }, value.1)

-- the end of a start tag, and whether it is `/>`
abbrev pub tag_end_at : Text → Option (Bool × Text)
tag_end_at [] = None
tag_end_at (b ∷ s) = if b == 62 then Some (false, s) else (if b == 47 then option_map (λ rest. (true, rest)) (byte_at 62 s) else None)

-- the end of a start tag that has no more attributes
abbrev pub no_attributes_at : Text → Option ((List Spelled × Bool) × Text)
no_attributes_at s = option_map (λ e. (([], e.0), e.1)) (tag_end_at (skip_blanks s))

-- behind the name of a start tag, at most `count` attributes and the end
unfoldable pub attributes_at : ℕ → Text → Option ((List Spelled × Bool) × Text)
attributes_at zero s = no_attributes_at s
attributes_at (suc count) s =
    if is_some (tag_end_at (skip_blanks s)) || not (is_blank (slice_index s 0)) then no_attributes_at s
    else (do
      a ← attribute_at (skip_blanks s)
      more ← attributes_at count a.1
      Some ((a.0 ∷ more.0.0, more.0.1), more.1))

-- with attributes that were read before
abbrev pub with_front : List Spelled → Option ((List Spelled × Bool) × Text) → Option ((List Spelled × Bool) × Text)
with_front front None = None
with_front front (Some x) = Some ((front ++ x.0.0, x.0.1), x.1)

-- behind `</`
unfoldable pub end_tag_at : Text → Option (Text × Text)
end_tag_at s = do
  name ← name_at s
  rest ← byte_at 62 (skip_blanks name.1)
  Some (name.0, rest)

abbrev pub text_at : Text → Text × Text
text_at s = let n = prefix_len is_text_byte s in (take n s, drop n s)

-- ---- what ends at the first place of some bytes

-- the first place where `ending` stands
abbrev pub find_at : Text → Text → Option ℕ
find_at ending [] = if starts_with nat_eq [] ending then Some 0 else None
find_at ending (b ∷ s) = if starts_with nat_eq (b ∷ s) ending then Some 0 else option_map suc (find_at ending s)

-- what stands before the first `ending`
unfoldable pub up_to_at : Text → Text → Option (Text × Text)
up_to_at ending s = do
  n ← find_at ending s
  rest ← literal_at ending (drop n s)
  Some (take n s, rest)

-- behind `<?`
unfoldable pub instruction_at : Text → Option Text
instruction_at s =
    let n = prefix_len is_name_byte s in
    if is_name (take n s) && not (str_eq_ignore_ascii_case (take n s) (codes "xml")) then (do
      body ← up_to_at (codes "?>") (drop n s)
      if length body.0 == 0 || is_blank (slice_index body.0 0) then Some body.1 else None)
    else None

-- ---- the declaration

-- a value without `<`, behind its opening quote
unfoldable pub plain_value_behind : ℕ → Text → Option (Text × Text)
plain_value_behind quote s = do
  let n = prefix_len (is_value_byte quote) s
  rest ← byte_at quote (drop n s)
  Some (take n s, rest)

-- the same in quotes
unfoldable pub plain_value_at : Text → Option (Text × Text)
plain_value_at [] = None
plain_value_at (quote ∷ s) = if quote == 34 || quote == 39 then plain_value_behind quote s else None

-- a part of that name
unfoldable pub part_at : Text → Text → Option (Text × Text)
part_at name s =
    if is_blank (slice_index s 0) then (do
      named ← literal_at name (skip_blanks s)
      rest ← byte_at 61 (skip_blanks named)
      plain_value_at (skip_blanks rest))
    else None

abbrev pub or_absent : Option (Text × Text) → Text → Option Text × Text
or_absent None s = (None, s)
or_absent (Some part) s = (Some part.0, part.1)

abbrev pub optional_at : Text → Text → Option Text × Text
optional_at name s = or_absent (part_at name s) s

-- the three parts behind `<?xml`, and what follows them
abbrev pub parts_at : Text → ((Option Text × Option Text) × Option Text) × Text
parts_at s =
    let one = optional_at (codes "version") s in
    let two = optional_at (codes "encoding") one.1 in
    let three = optional_at (codes "standalone") two.1 in
    (((one.0, two.0), three.0), three.1)

-- the encoding that the declaration names
unfoldable pub declaration_at : Text → Option (Option Text × Text)
declaration_at s = do
  behind ← literal_at (codes "<?xml") s
  let parts = parts_at behind
  rest ← literal_at (codes "?>") (skip_blanks parts.1)
  if is_none parts.0.0.0 && is_none parts.0.0.1 && is_none parts.0.1 then None else Some (parts.0.0.1, rest)

-- ---- characters

-- a character begins that no document may have: a control that is no blank, or U+FFFE or U+FFFF
abbrev pub starts_bad : Text → Bool
starts_bad [] = false
starts_bad (b ∷ s) = (nat_lt b 32 && not (is_blank b)) || (b == 239 && (slice_index s 0 == 191 && nat_le 190 (slice_index s 1)))

-- no such character begins with the byte
abbrev pub is_clear : ℕ → Bool
is_clear b = not ((nat_lt b 32 && not (is_blank b)) || b == 239)

-- how many bytes stand before the first such character
abbrev pub front_len : Text → ℕ
front_len [] = 0
front_len (b ∷ s) = if starts_bad (b ∷ s) then 0 else suc (front_len s)
