-- The string values of elements_in.
use Rattle.std.proofs.Common.{◌≡◌, ◌↔◌, ℕ, List, [], ◌∷◌, ◌++◌, map, drop, sym, ◌∙◌, ap, append-nil, append_assoc, Some, length, ◌+◌, ◌≤◌}
use Rattle.std.specs.List.{slice_get}
use Rattle.voe_tree.specs.declared.element.Element.{Element, fold_out-Element}
use Rattle.voe_tree.specs.declared.element.Node.{Node}
use Rattle.voe_tree.specs.declared.element.Node.TheOpen.{Node-F}
use Rattle.voe_tree.specs.declared.element.Node.TheFolds.{fold-roll-Node}
use Rattle.voe_tree.specs.declared.element.Node.TheVariants as tree
use Rattle.filter_text.specs.Filter.{Text}
use Rattle.std.specs.List.{concat}
use Rattle.voe_tree.specs.Contents.{node_text, element_text, string_of, string_in}
use Rattle.path_filter.specs.Places.{document}
use Rattle.path_filter.proofs.SearchSteps.{from-place, past-end}

abbrev pub texts_of : List Node → Text
texts_of ns = concat (map string_in ns)

pub text_out : (e : Element) → string_of e ≡ texts_of e.children
text_out e = fold_out-Element Text Text node_text element_text e

pub of-element : (e : Element) → string_in (tree.Element e) ≡ string_of e
of-element e = ap string_in (sym (tree.rolls-Element e)) ∙ fold-roll-Node Text Text node_text element_text (Node-F.Element e)

pub of-text : (t : Text) → string_in (tree.Text t) ≡ t
of-text t = ap string_in (sym (tree.rolls-Text t)) ∙ fold-roll-Node Text Text node_text element_text (Node-F.Text t)

-- a document has the text of its root
pub of_document : (root : Element) → string_of root ≡ string_of (document root)
of_document root = sym (text_out (document root) ∙ append-nil (string_in (tree.Element root)) ∙ of-element root)

pub texts-element : (ns : List Node) (i : ℕ) (e : Element) (after : Text) → slice_get ns i ≡ Some (tree.Element e)
    → texts_of (drop i ns) ++ after ≡ string_of e ++ (texts_of (drop (i + 1) ns) ++ after)
texts-element ns i e after at =
    ap (λ l. texts_of l ++ after) (from-place ns i (tree.Element e) at)
    ∙ ap (λ t. (t ++ texts_of (drop (i + 1) ns)) ++ after) (of-element e)
    ∙ append_assoc (string_of e) (texts_of (drop (i + 1) ns)) after

pub texts-text : (ns : List Node) (i : ℕ) (t : Text) (after : Text) → slice_get ns i ≡ Some (tree.Text t)
    → texts_of (drop i ns) ++ after ≡ t ++ (texts_of (drop (i + 1) ns) ++ after)
texts-text ns i t after at =
    ap (λ l. texts_of l ++ after) (from-place ns i (tree.Text t) at)
    ∙ ap (λ s. (s ++ texts_of (drop (i + 1) ns)) ++ after) (of-text t)
    ∙ append_assoc t (texts_of (drop (i + 1) ns)) after

pub texts-end : (ns : List Node) (i : ℕ) (after : Text) → length ns ≤ i → texts_of (drop i ns) ++ after ≡ after
texts-end ns i after le = ap (λ l. texts_of l ++ after) (past-end ns i le)

-- the front of equal texts goes away
pub cancel : (t a b : Text) → t ++ a ≡ t ++ b → a ≡ b
cancel [] a b e = e
cancel (x ∷ t) a b e = cancel t a b (let tails : t ++ a ≡ t ++ b = cc in tails)

pub moved : (t old new whole left : Text) (A : Type 0) → old ≡ t ++ new → whole ≡ t ++ left → A ↔ (old ≡ whole) → A ↔ (new ≡ left)
moved t old new whole left A split whole_is both = (
  (λ a. cancel t new left (sym split ∙ both.0 a ∙ whole_is)),
  (λ e. both.1 (split ∙ ap (λ x. t ++ x) e ∙ sym whole_is)),
)
