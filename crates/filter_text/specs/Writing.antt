-- The canonical text of a filter.
use Rattle.std.specs.Prelude.{◌≤◌, ◌==◌, Bool, true, false, if◌then◌else◌, [], ◌∷◌, ◌++◌, length, codes}
use Rattle.std.specs.List.{list_any}
use Rattle.filter_text.specs.Filter.{Text, Axis, child, descendant, Part, element, attribute, Test, any, name, Comparison, equal, differs, Path, path, Steps, arrived, step, Condition, any_of, all_of, not_so, alone, compare, Conditions, no_more, more, Operand, found, literal, local_name}
use Rattle.filter_text.specs.Reading.{Reads, max_length}

abbrev pub separator : Axis → Text
separator child = codes "/"
separator descendant = codes "//"

abbrev pub sign : Part → Text
sign element = []
sign attribute = codes "@"

abbrev pub test_text : Test → Text
test_text any = codes "*"
test_text (name n) = n

abbrev pub comparison_text : Comparison → Text
comparison_text equal = codes "="
comparison_text differs = codes "!="

-- in double quotes, or in single ones where it has a double quote
abbrev pub quoted : Text → Text
quoted value = let quote = if list_any (λ b. b == 34) value then 39 else 34 in quote ∷ value ++ quote ∷ []

abbrev mutual
  pub path_text : Path → Text
  path_text (path absolute ss) = steps_text absolute ss

  -- with the separator before the first step, or without it
  pub steps_text : Bool → Steps → Text
  steps_text separated arrived = []
  steps_text separated (step axis part test cs ss) =
      (if separated then separator axis else []) ++ sign part ++ test_text test ++ bracketed_text cs ++ steps_text true ss

  pub bracketed_text : Conditions → Text
  bracketed_text no_more = []
  bracketed_text (more c cs) = codes "[" ++ condition_text false c ++ codes "]" ++ bracketed_text cs

  -- Within an `and`, parentheses stand round an `or`.
  pub condition_text : Bool → Condition → Text
  condition_text in_and (any_of cs) = if in_and then codes "(" ++ listed_text (codes " or ") false cs ++ codes ")" else listed_text (codes " or ") false cs
  condition_text in_and (all_of cs) = listed_text (codes " and ") true cs
  condition_text in_and (not_so c) = codes "not(" ++ condition_text false c ++ codes ")"
  condition_text in_and (alone o) = operand_text o
  condition_text in_and (compare a how b) = operand_text a ++ comparison_text how ++ operand_text b

  -- these with a word between
  pub listed_text : Text → Bool → Conditions → Text
  listed_text word in_and no_more = []
  listed_text word in_and (more c cs) = condition_text in_and c ++ others_text word in_and cs

  -- each behind the word
  pub others_text : Text → Bool → Conditions → Text
  others_text word in_and no_more = []
  others_text word in_and (more c cs) = word ++ condition_text in_and c ++ others_text word in_and cs

  pub operand_text : Operand → Text
  operand_text (found way) = path_text way
  operand_text (literal value) = quoted value
  operand_text local_name = codes "local-name()"

-- What is written in few enough bytes is read again, of each filter that some text spells.
abbrev pub ReadsBack : Path → Type 0
ReadsBack f = (s : Text) → Reads f s → length (path_text f) ≤ max_length → Reads f (path_text f)
