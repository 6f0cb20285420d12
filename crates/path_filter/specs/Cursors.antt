-- What is left of an element's string value behind a cursor.
use Rattle.std.specs.Prelude.{◌≡◌, ℕ, zero, suc, ◌+◌, ◌≤◌, List, [], ◌∷◌, ◌++◌, map, Some, None, slice_get, length}
use denote.Ref.{Bor}
use Rattle.std.specs.List.{concat}
use Rattle.voe_tree.specs.Contents.{string_in}
use Rattle.voe_tree.specs.Shape.{greatest, height}
use Rattle.voe_tree.specs.declared.element.Node.{Node, fold-Node}
use Rattle.voe_tree.specs.declared.element.Node.TheOpen.{Node-F, Element-F}
use Rattle.filter_text.specs.Filter.{Text}
use Rattle.path_filter.specs.declared.cursor.Cursor.{Cursor}

abbrev pub Levels : Type 0
Levels = List (Bor (List Node))

-- the nodes that are left at a level
abbrev pub nodes_at : ℕ → Levels → List Node
nodes_at n levels = elim (slice_get levels n) [ Some nodes ↦ nodes.now | None ↦ [] ]

abbrev pub texts_of : List Node → Text
texts_of nodes = concat (map string_in nodes)

-- the text of the first levels, the innermost first
abbrev pub levels_text : ℕ → Levels → Text
levels_text zero levels = []
levels_text (suc n) levels = texts_of (nodes_at n levels) ++ levels_text n levels

abbrev pub left : Cursor → Text
left c = c.piece.now ++ levels_text c.open c.levels

-- The elements at each level are shallow enough for the levels that are free.
abbrev pub LevelsFit : ℕ → Levels → Type 0
LevelsFit zero levels = Unit {0}
LevelsFit (suc n) levels = (greatest (map height (nodes_at n levels)) + n ≤ 63) × LevelsFit n levels

abbrev pub Fits : Cursor → Type 0
Fits c = (length c.levels ≡ 64) × LevelsFit c.open c.levels

abbrev pub total : List ℕ → ℕ
total [] = 0
total (n ∷ ns) = n + total ns

-- how many steps are left
abbrev pub node_steps : Node-F ℕ ℕ → ℕ
node_steps (Node-F.Element steps) = steps + 1
node_steps (Node-F.Text text) = 1

abbrev pub element_steps : Element-F ℕ ℕ → ℕ
element_steps e = total e.children + 1

abbrev pub steps_in : Node → ℕ
steps_in = fold-Node ℕ ℕ node_steps element_steps

abbrev pub levels_steps : ℕ → Levels → ℕ
levels_steps zero levels = 0
levels_steps (suc n) levels = total (map steps_in (nodes_at n levels)) + 1 + levels_steps n levels

abbrev pub steps_left : Cursor → ℕ
steps_left c = levels_steps c.open c.levels
