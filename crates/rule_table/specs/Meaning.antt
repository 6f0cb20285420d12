-- What a row asks of a tree, and the first row that a tree breaks.
use Rattle.std.specs.Prelude.{ℕ, Bool, not, List, Option, position}
use Rattle.voe_tree.specs.declared.element.Element.{Element}
use Rattle.voe_tree.specs.Validity.{meets_V01, meets_V02, meets_V03, meets_V04, meets_V11, meets_V12, stands_at_most_once}
use Rattle.rule_table.specs.Sections.{section_name}
use Rattle.rule_table.specs.declared.row_test.RowTest.{RowTest}
use Rattle.rule_table.specs.declared.row_test.RowTest.TheVariants.{RootNamed, RootVersion, RootIdentifier, RootRole, AtMostOne, CiteKinds, CiteIdentifiers}

-- the tree of that root has what the row asks
abbrev pub meets : RowTest → Element → Bool
meets RootNamed root = meets_V01 root
meets RootVersion root = meets_V02 root
meets RootIdentifier root = meets_V03 root
meets RootRole root = meets_V04 root
meets (AtMostOne section) root = stands_at_most_once root (section_name section)
meets CiteKinds root = meets_V11 root
meets CiteIdentifiers root = meets_V12 root

abbrev pub breaks : Element → RowTest → Bool
breaks root row = not (meets row root)

-- the place of the first row that the tree breaks, if there is one
abbrev pub first_break : List RowTest → Element → Option ℕ
first_break rows root = position (breaks root) rows
