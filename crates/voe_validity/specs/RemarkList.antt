-- The remarks on a packet, as the rising list of their numbers.
use Rattle.std.specs.Prelude.{ℕ, Bool, if◌then◌else◌, List, [], ◌∷◌}
use Rattle.std.specs.List.{flat_map}
use Rattle.voe_tree.specs.declared.element.Element.{Element}
use Rattle.voe_validity.specs.Remarks.{holds_N01, holds_N02, holds_N03, holds_N04, holds_N05, holds_N06, holds_N07, holds_N08, holds_N09, holds_N10}
use Rattle.voe_validity.specs.declared.remark.Remark.{Remark}
use Rattle.voe_validity.specs.declared.remark.Remark.TheVariants.{Author, Date, IsoTime, First, Second, Radius, Importance, Probability, Param, Expires}

abbrev pub number_of : Remark → ℕ
number_of Author = 1
number_of Date = 2
number_of IsoTime = 3
number_of First = 4
number_of Second = 5
number_of Radius = 6
number_of Importance = 7
number_of Probability = 8
number_of Param = 9
number_of Expires = 10

abbrev pub holds : Remark → Element → Bool
holds Author root = holds_N01 root
holds Date root = holds_N02 root
holds IsoTime root = holds_N03 root
holds First root = holds_N04 root
holds Second root = holds_N05 root
holds Radius root = holds_N06 root
holds Importance root = holds_N07 root
holds Probability root = holds_N08 root
holds Param root = holds_N09 root
holds Expires root = holds_N10 root

-- all remarks, in the order of their numbers
abbrev pub all_remarks : List Remark
all_remarks =
    Author ∷ Date ∷ IsoTime ∷ First ∷ Second ∷ Radius ∷ Importance ∷ Probability ∷ Param ∷ Expires ∷ []

-- the number of a remark that holds, and nothing for another
abbrev pub number_if_held : Element → Remark → List ℕ
number_if_held root remark = if holds remark root then number_of remark ∷ [] else []

-- the numbers of the remarks that hold, rising
abbrev pub remarks_of : Element → List ℕ
remarks_of root = flat_map (number_if_held root) all_remarks
