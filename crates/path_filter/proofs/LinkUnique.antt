-- A text spells one filter, and bytes one tree.
use Rattle.std.proofs.Common.{◌≡◌, subst, List}
use Rattle.xml_lexer.specs.Characters.{Text}
use Rattle.xml_lexer.specs.Token.{Token}
use Rattle.xml_lexer.specs.Phases.{without_mark}
use Rattle.xml_lexer.proofs.Cuts.{same_tokens}
use Rattle.voe_tree.specs.Document.{IsRootOf, Spells}
use Rattle.voe_tree.specs.declared.element.Element.{Element}
use Rattle.voe_tree.proofs.RootLaws.{same_root}
use Rattle.filter_text.specs.Filter.{Path}
use Rattle.filter_text.specs.Reading.{Reads}
use Rattle.filter_text.proofs.Exclusion.{one-filter}

pub one_tree : (bytes : Text) (a b : Element) → Spells a bytes → Spells b bytes → a ≡ b
one_tree bytes a b (ks, h, r) (others, k, s) =
    let same_list : ks ≡ others = same_tokens (without_mark bytes) ks others h.1.1 k.1.1 in
    same_root others a b (subst (λ (l : List Token). IsRootOf a l) same_list r) s

pub one_path : (s : Text) (f g : Path) → Reads f s → Reads g s → f ≡ g
one_path s f g a b = one-filter s f g a b
