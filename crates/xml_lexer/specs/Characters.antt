-- The characters and names of a document: XML 1.0, sections 2.2 and 2.3. A text is the list of its bytes, in UTF-8.
use Rattle.std.specs.Prelude.{ℕ, ◌&&◌, ◌||◌, ◌==◌, Bool, not, nat_le, nat_lt, slice_index, length, if◌then◌else◌, List}
use Rattle.std.specs.List.{take_while, position_or_len, before_first, after_first, list_all}
use Rattle.std.specs.Char.{is_ascii_alphanumeric, is_ascii_digit}
use Rattle.std.specs.Str.{chars, encode_utf8_all}

abbrev pub Text : Type 0
Text = List ℕ

abbrev pub is_xml_character : ℕ → Bool
is_xml_character c =
    c == 9 || c == 10 || c == 13 || (nat_le 32 c && nat_le c 0xD7FF) || (nat_le 0xE000 c && nat_le c 0xFFFD) || (nat_le 0x10000 c && nat_le c 0x10FFFF)

-- the text up to its first character that is no XML character
abbrev pub xml_front : Text → Text
xml_front text = encode_utf8_all (take_while is_xml_character (chars text))

abbrev pub is_blank : ℕ → Bool
is_blank b = b == 32 || b == 9 || b == 10 || b == 13

-- Bytes from 128 on belong to characters from U+0080 on.
abbrev pub is_name_byte : ℕ → Bool
is_name_byte b = is_ascii_alphanumeric b || b == 95 || b == 45 || b == 46 || nat_le 128 b

abbrev pub starts_name : ℕ → Bool
starts_name b = is_name_byte b && not (is_ascii_digit b || b == 45 || b == 46)

abbrev pub is_name : Text → Bool
is_name s = starts_name (slice_index s 0) && list_all is_name_byte s

abbrev pub is_colon : ℕ → Bool
is_colon b = b == 58

abbrev pub has_prefix : Text → Bool
has_prefix name = nat_lt (position_or_len is_colon name) (length name)

-- a name, or a prefix, a colon and a name
abbrev pub is_spelled_name : Text → Bool
is_spelled_name s = if has_prefix s then is_name (before_first is_colon s) && is_name (after_first is_colon s) else is_name s
