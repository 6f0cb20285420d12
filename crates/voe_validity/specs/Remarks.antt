-- What is odd about a packet without making it invalid: the remarks N01 to N10. Elements and attributes are those in no
-- namespace, and the text of an element is that of its descendants without the blanks at both ends.
use Rattle.std.specs.Prelude.{◌&&◌, ◌||◌, ◌==◌, ◌^◌, Bool, false, not, nat_le, List, [], ◌∷◌, Option, Some, None, is_none, codes}
use Rattle.std.specs.List.{list_any}
use Rattle.xml_lexer.specs.Characters.{Text}
use Rattle.voe_tree.specs.Contents.{attribute_of, child_of, text_of}
use Rattle.voe_tree.specs.Places.{below_coordinates, places}
use Rattle.voe_tree.specs.declared.element.Element.{Element}
use Rattle.voe_values.specs.declared.decimal.Decimal.{Decimal}
use Rattle.voe_values.specs.Decimal.{decimal_of}
use Rattle.voe_time.specs.Stamp.{is_time_text}

-- ---- places

-- some element at the end of the path passes the test
abbrev pub some_at : List Text → (Element → Bool) → Element → Bool
some_at path test root = list_any test (places path root)

-- ---- what may be odd about one element

abbrev pub lacks_author : Element → Bool
lacks_author e = is_none (child_of e (codes "AuthorIVORN"))

abbrev pub lacks_name : Element → Bool
lacks_name e = is_none (attribute_of e (codes "name"))

abbrev pub has_no_time : Element → Bool
has_no_time e = not (is_time_text (text_of e))

abbrev pub has_no_decimal : Element → Bool
has_no_decimal e = is_none (decimal_of (text_of e))

-- the number is from 0 to 1; `-0` is
abbrev pub is_within_one : Decimal → Bool
is_within_one d = d.digits == 0 || (not d.negative && nat_le d.digits (10 ^ d.scale))

abbrev pub names_fraction : Option Decimal → Bool
names_fraction None = false
names_fraction (Some d) = is_within_one d

-- the text is a decimal from 0 to 1
abbrev pub is_fraction : Text → Bool
is_fraction s = names_fraction (decimal_of s)

-- the attribute stands and its value fails the test
abbrev pub fails : (Text → Bool) → Option Text → Bool
fails test None = false
fails test (Some value) = not (test value)

abbrev pub has_bad_fraction : Text → Element → Bool
has_bad_fraction attribute e = fails is_fraction (attribute_of e attribute)

abbrev pub has_bad_expiry : Element → Bool
has_bad_expiry e = fails is_time_text (attribute_of e (codes "expires"))

-- ---- the remarks, each a test of the root

abbrev pub holds_N01 : Element → Bool
holds_N01 root = some_at (codes "Who" ∷ []) lacks_author root

abbrev pub holds_N02 : Element → Bool
holds_N02 root = some_at (codes "Who" ∷ codes "Date" ∷ []) has_no_time root

abbrev pub holds_N03 : Element → Bool
holds_N03 root = some_at (below_coordinates (codes "Time" ∷ codes "TimeInstant" ∷ codes "ISOTime" ∷ [])) has_no_time root

abbrev pub holds_N04 : Element → Bool
holds_N04 root = some_at (below_coordinates (codes "Position2D" ∷ codes "Value2" ∷ codes "C1" ∷ [])) has_no_decimal root

abbrev pub holds_N05 : Element → Bool
holds_N05 root = some_at (below_coordinates (codes "Position2D" ∷ codes "Value2" ∷ codes "C2" ∷ [])) has_no_decimal root

abbrev pub holds_N06 : Element → Bool
holds_N06 root = some_at (below_coordinates (codes "Position2D" ∷ codes "Error2Radius" ∷ [])) has_no_decimal root

abbrev pub holds_N07 : Element → Bool
holds_N07 root = some_at (codes "Why" ∷ []) (has_bad_fraction (codes "importance")) root

abbrev pub holds_N08 : Element → Bool
holds_N08 root = some_at (codes "Why" ∷ codes "Inference" ∷ []) (has_bad_fraction (codes "probability")) root

-- the parameters are those of `What` and of its groups
abbrev pub holds_N09 : Element → Bool
holds_N09 root =
    some_at (codes "What" ∷ codes "Param" ∷ []) lacks_name root
    || some_at (codes "What" ∷ codes "Group" ∷ codes "Param" ∷ []) lacks_name root

abbrev pub holds_N10 : Element → Bool
holds_N10 root = some_at (codes "Why" ∷ []) has_bad_expiry root
