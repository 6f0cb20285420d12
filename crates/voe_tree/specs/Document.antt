-- What the bytes of a document spell.
use Rattle.std.specs.Prelude.{◌≡◌, List, [], ◌∷◌, Some, None}
use Rattle.xml_lexer.specs.Characters.{Text}
use Rattle.xml_lexer.specs.Token.{Token}
use Rattle.xml_lexer.specs.Phases.{IsTokensOf}
use Rattle.voe_tree.specs.Build.{Node, Nodes, outermost, levels_of, elements_among}
use Rattle.voe_tree.specs.Names.{named}
use Rattle.voe_tree.specs.Rules.{refusal_of}
use Rattle.voe_tree.specs.declared.element.Element.{Element}
use Rattle.voe_tree.specs.declared.element.Node.TheVariants as tree

-- The tokens break no rule and nest as one element, which is the root under its names.
pub record IsRootOf (root : Element) (tokens : List Token) : Type 0 where
  pub outer : Nodes
  pub built : Node
  pub unbroken : refusal_of tokens ≡ None
  pub nested : levels_of tokens ≡ Some (outermost outer)
  pub alone : elements_among outer ≡ built ∷ []
  pub is_root : tree.Element root ≡ named [] built

-- The bytes spell the root's tree: they are a text of few enough tokens, which nest as the root.
abbrev pub Spells : Element → Text → Type 0
Spells root bytes = (tokens : List Token) × IsTokensOf tokens bytes × IsRootOf root tokens
