-- Texts of a tree, as lists of bytes.
use Rattle.std.specs.Prelude.{◌-◌, ◌&&◌, Bool, length, take, drop}
use Rattle.std.specs.List.{list_all, prefix_len, suffix_len}
use Rattle.std.specs.Str.{chars, is_utf8}
use Rattle.xml_lexer.specs.Characters.{Text, is_xml_character, is_blank}

-- UTF-8 of XML characters: XML 1.0, section 2.2
abbrev pub is_xml_text : Text → Bool
is_xml_text s = is_utf8 s && list_all is_xml_character (chars s)

-- the text without the blanks at its start
abbrev pub without_first_blanks : Text → Text
without_first_blanks s = drop (prefix_len is_blank s) s

-- the text without the blanks at its end
abbrev pub without_last_blanks : Text → Text
without_last_blanks s = take (length s - suffix_len is_blank s) s

-- the text without the blanks at both its ends
abbrev pub trimmed : Text → Text
trimmed s = without_last_blanks (without_first_blanks s)
