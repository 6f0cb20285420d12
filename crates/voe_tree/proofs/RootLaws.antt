-- The root that tokens nest as, and what a reader finds.
use Rattle.std.proofs.Common.{◌≡◌, List, [], ◌∷◌, Option, Some, None, map, refl, sym, ◌∙◌, ap}
use Rattle.std.specs.Prelude.{option_and_then}
use Rattle.xml_lexer.specs.Token.{Token}
use Rattle.voe_tree.specs.Build.{Node as SpelledNode, Nodes, none, node, element, characters, Levels, outermost, inside, levels_of, elements_among}
use Rattle.voe_tree.specs.Names.{Bindings, named}
use Rattle.voe_tree.specs.Rules.{refusal_of}
use Rattle.voe_tree.specs.Document.{IsRootOf}
use Rattle.voe_tree.specs.Reader.{initial, named_elements, finish, result_of, bottom}
use Rattle.voe_tree.specs.declared.element.Element.{Element}
use Rattle.voe_tree.specs.declared.element.Node.TheVariants as tree
use Rattle.voe_tree.proofs.Contained.{same_element}

named_elements-among : (b : Bindings) (ns : Nodes) → named_elements b ns ≡ map (named b) (elements_among ns)
named_elements-among b none = refl
named_elements-among b (node (characters t) ns) = named_elements-among b ns
named_elements-among b (node (element name given kids) ns) = ap (λ l. named b (element name given kids) ∷ l) (named_elements-among b ns)

-- a root is what is found of all tokens
pub result_of-root : (ks : List Token) (root : Element) → IsRootOf root ks → result_of initial ks ≡ Some (tree.Element root ∷ [])
result_of-root ks root h =
    ap (option_and_then (finish [] (bottom [] []))) h.nested
    ∙ ap Some (named_elements-among [] h.outer ∙ ap (map (named [])) h.alone ∙ ap (λ n. n ∷ []) (sym h.is_root))

from_elements : (ks : List Token) (root : Element) (outer : Nodes) (found : List SpelledNode) → refusal_of ks ≡ None → levels_of ks ≡ Some (outermost outer) →
    elements_among outer ≡ found → map (named []) found ≡ tree.Element root ∷ [] → IsRootOf root ks
from_elements ks root outer [] r n e m = absurd (let bad : ⊥ = cc in bad)
from_elements ks root outer (built ∷ []) r n e m = record { outer = outer; built = built; unbroken = r; nested = n; alone = e; is_root = cc }
from_elements ks root outer (a ∷ b ∷ more) r n e m = absurd (let bad : ⊥ = cc in bad)

from_levels : (ks : List Token) (root : Element) (levels : Option Levels) → refusal_of ks ≡ None → levels_of ks ≡ levels →
    option_and_then (finish [] (bottom [] [])) levels ≡ Some (tree.Element root ∷ []) → IsRootOf root ks
from_levels ks root None r n f = absurd (let bad : ⊥ = cc in bad)
from_levels ks root (Some (inside name ns levels)) r n f = absurd (let bad : ⊥ = cc in bad)
from_levels ks root (Some (outermost outer)) r n f =
    from_elements ks root outer (elements_among outer) r n refl (sym (named_elements-among [] outer) ∙ (let same_found : named_elements [] outer ≡ tree.Element root ∷ [] = cc in same_found))

-- what is found of all tokens is a root, where they break no rule
pub root_of-result : (ks : List Token) (root : Element) → refusal_of ks ≡ None → result_of initial ks ≡ Some (tree.Element root ∷ []) → IsRootOf root ks
root_of-result ks root r f = from_levels ks root (levels_of ks) r refl f

-- tokens nest as one root
pub same_root : (ks : List Token) (a b : Element) → IsRootOf a ks → IsRootOf b ks → a ≡ b
same_root ks a b h k =
    let both : Some (tree.Element a ∷ []) ≡ Some (tree.Element b ∷ []) = sym (result_of-root ks a h) ∙ result_of-root ks b k in
    same_element a b (let one : tree.Element a ≡ tree.Element b = cc in one)
