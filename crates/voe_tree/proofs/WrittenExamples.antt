-- Small trees and their canonical texts.
use Rattle.std.proofs.Common.{◌≡◌, false, List, [], ◌∷◌, ◌++◌, ◌∙◌, ap}
use Rattle.std.specs.Prelude.{codes}
use Rattle.std.specs.Fmt.{digits}
use Rattle.xml_lexer.specs.Token.{Token, start, end}
use Rattle.voe_tree.specs.Canonical.{all_written, canonical}
use Rattle.voe_tree.specs.declared.element.Node.TheVariants as tree
use Rattle.voe_tree.proofs.WrittenTree.{tokens_of-layer, tokens_in-text}

-- the tree of `<a><![CDATA[x]]>&amp;<!-- c -->y</a>`
text_example : canonical (record { space = []; local = codes "a"; attributes = []; children = tree.Text (codes "x&y") ∷ [] }) ≡ codes "<a>x&amp;y</a>"
text_example =
    ap all_written (tokens_of-layer (record { space = []; local = codes "a"; attributes = []; children = tree.Text (codes "x&y") ∷ [] }) []
    ∙ ap (λ (ks : List Token). start (codes "a") [] false ∷ (ks ++ []) ++ end (codes "a") ∷ []) (tokens_in-text (codes "x&y") []))

-- the tree of `<p:a xmlns:p="u" p:b="1"/>`
prefix_example : canonical (record { space = codes "u"; local = codes "a"; attributes = record { space = codes "u"; local = codes "b"; value = codes "1" } ∷ []; children = [] })
    ≡ codes "<a xmlns=\"u\" xmlns:a0=\"u\" a0:b=\"1\"/>"
unfolding digits
prefix_example =
    ap all_written (tokens_of-layer (record { space = codes "u"; local = codes "a"; attributes = record { space = codes "u"; local = codes "b"; value = codes "1" } ∷ []; children = [] }) [])
