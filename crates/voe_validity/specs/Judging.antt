-- What the bytes of a packet are judged to be.
use Rattle.std.specs.Prelude.{◌≡◌, ℕ, IsUtf8, Option, Some, None}
use Rattle.xml_lexer.specs.Characters.{Text}
use Rattle.voe_values.specs.Identifier.{IsIdentifier}
use Rattle.voe_tree.specs.Document.{Spells}
use Rattle.voe_tree.specs.Fault.{RefusesTree}
use Rattle.voe_tree.specs.Identifier.{identifier_of}
use Rattle.voe_tree.specs.Validity.{least_broken_row}
use Rattle.voe_tree.specs.declared.element.Element.{Element}
use Rattle.voe_tree.specs.declared.element.Tree.{Tree}
use Rattle.voe_tree.specs.declared.fault.TreeFault.{TreeFault}
use Rattle.voe_tree.specs.declared.fault.TreeFault.TheVariants.{NotText, BadToken, Doctype, TooManyTokens, Unbalanced, TooDeep, RepeatedAttribute, UnboundPrefix, RootMissing, AfterRoot, NoMemory}
use Rattle.net_model.specs.declared.step.Judged.{Judged}
use Rattle.net_model.specs.declared.step.Judged.TheVariants.{BadTree, BadPacket, Good}

-- the number of the rule by which bytes are no tree, T01 to T10; want of memory has none
abbrev pub number_of_fault : TreeFault → Option ℕ
number_of_fault (NotText place) = Some 1
number_of_fault (BadToken place) = Some 2
number_of_fault TooManyTokens = Some 3
number_of_fault (Doctype place) = Some 4
number_of_fault (Unbalanced token) = Some 5
number_of_fault (TooDeep token) = Some 6
number_of_fault (RepeatedAttribute token) = Some 7
number_of_fault (UnboundPrefix token) = Some 8
number_of_fault RootMissing = Some 9
number_of_fault (AfterRoot token) = Some 10
number_of_fault NoMemory = None

-- What the tree of this root is as a packet: the least rule that it breaks, or its identifier.
abbrev pub IsJudgedRoot : Element → Judged → Type 0
IsJudgedRoot root (BadTree number) = ⊥
IsJudgedRoot root (BadPacket number identifier) = (least_broken_row root ≡ Some number) × (identifier ≡ identifier_of root)
IsJudgedRoot root (Good identifier) = (least_broken_row root ≡ None) × (Some identifier ≡ identifier_of root)

-- the bytes spell a tree of which this holds
abbrev pub SpellsOne : (Element → Type 0) → Text → Type 0
SpellsOne P packet = (root : Element) × Spells root packet × P root

-- What the bytes are: no tree, by the number of the rule that refuses them, or what their tree is.
abbrev pub IsJudged : Text → Judged → Type 0
IsJudged packet (BadTree number) = (fault : TreeFault) × RefusesTree packet fault × (number_of_fault fault ≡ Some number)
IsJudged packet (BadPacket number identifier) = SpellsOne (λ root. IsJudgedRoot root (BadPacket number identifier)) packet
IsJudged packet (Good identifier) = SpellsOne (λ root. IsJudgedRoot root (Good identifier)) packet

-- the tree that was judged, and none exactly where there is none
abbrev pub HasTree : Text → Judged → Option Tree → Type 0
HasTree packet judged None = (number : ℕ) × (judged ≡ BadTree number)
HasTree packet judged (Some tree) = Spells tree.root packet × IsJudgedRoot tree.root judged

-- the identifier of a good packet is one, in UTF-8
abbrev pub IsNamed : Judged → Type 0
IsNamed (BadTree number) = Unit {0}
IsNamed (BadPacket number identifier) = Unit {0}
IsNamed (Good identifier) = IsUtf8 identifier × IsIdentifier identifier
