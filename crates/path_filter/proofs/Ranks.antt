-- The measure of a search: the size of the filter's part first, and then the depth of the tree.
use Rattle.std.proofs.Common.{◌≡◌, ℕ, zero, suc, ◌<◌, ◌≤◌, ◌+◌, ◌*◌, List, [], ◌∷◌, Some, sym, ◌∙◌, ap, arith, map}
use Rattle.std.specs.List.{slice_get}
use Rattle.std.proofs.lemmas.Nat.{mul-le}
use Rattle.voe_tree.specs.declared.element.Element.{Element, fold_out-Element}
use Rattle.voe_tree.specs.declared.element.Node.{Node}
use Rattle.voe_tree.specs.declared.element.Node.TheOpen.{Node-F}
use Rattle.voe_tree.specs.declared.element.Node.TheFolds.{fold-roll-Node}
use Rattle.voe_tree.specs.declared.element.Node.TheVariants as tree
use Rattle.voe_tree.specs.Shape.{depth, greatest, height, node_depth, element_depth}
use Rattle.path_filter.specs.declared.context.Context.{Context}
use Rattle.path_filter.proofs.Measures.{rank, weight, work}

pub depth_out : (e : Element) → depth e ≡ suc (greatest (map height e.children))
depth_out e = fold_out-Element ℕ ℕ node_depth element_depth e

pub height-element : (e : Element) → height (tree.Element e) ≡ depth e
height-element e = ap height (sym (tree.rolls-Element e)) ∙ fold-roll-Node ℕ ℕ node_depth element_depth (Node-F.Element e)

among : (ns : List Node) (k : ℕ) (c : Element) → slice_get ns k ≡ Some (tree.Element c) → depth c ≤ greatest (map height ns)
among [] k c at = absurd (let bad : ⊥ = cc in bad)
among (n ∷ ns) zero c at =
    let same : n ≡ tree.Element c = cc in
    let here : height n ≡ depth c = ap height same ∙ height-element c in
    omega (arith, here)
among (n ∷ ns) (suc k) c at = let below = among ns k c at in omega (arith, below)

pub child_depth : (e c : Element) (k : ℕ) → slice_get e.children k ≡ Some (tree.Element c) → depth c < depth e
child_depth e c k at = omega (arith, among e.children k c at, depth_out e)

pub falls-size : (a b x y : ℕ) (root : Element) → a < b → x < 2 * depth root + 4 → rank a x root < rank b y root
falls-size a b x y root smaller within =
    let whole = mul-le (a + 1) (2 * depth root + 4) b (2 * depth root + 4) (omega (arith, smaller)) (omega arith) in
    let parts : (a + 1) * (2 * depth root + 4) ≡ a * (2 * depth root + 4) + (2 * depth root + 4) = grind arith in
    omega (arith, whole, parts, within)

pub falls-within : (a b x y : ℕ) (root : Element) → a ≤ b → x < y → rank a x root < rank b y root
falls-within a b x y root le within =
    let whole = mul-le a (2 * depth root + 4) b (2 * depth root + 4) le (omega arith) in
    omega (arith, whole, within)

pub falls-work : (c : Context) (a b x y : ℕ) → a < b → x < 2 * depth c.root.now + 4 → work c a x < work c b y
falls-work c a b x y smaller within = falls-size (weight c.plan.now + a) (weight c.plan.now + b) x y c.root.now (omega (arith, smaller)) within

pub falls-work-within : (c : Context) (a b x y : ℕ) → a ≤ b → x < y → work c a x < work c b y
falls-work-within c a b x y le within = falls-within (weight c.plan.now + a) (weight c.plan.now + b) x y c.root.now (omega (arith, le)) within
