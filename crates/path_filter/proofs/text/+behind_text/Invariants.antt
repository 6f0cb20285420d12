use Rattle.std.proofs.Common.{◌≡◌, ◌↔◌, ◌++◌, ℕ, List, drop}
use Rattle.voe_tree.specs.Contents.{string_of}
use Rattle.path_filter.proofs.Texts.{texts_of}
use Rattle.path_filter.proofs.text.+behind_text.Given as goal

abbrev pub invariant-loop-child : goal.invariant-loop-child
invariant-loop-child l = (after : List ℕ) → (l.text ≡ string_of l.element ++ after) ↔ (l.rest ≡ texts_of (drop l.child-index l.child-items) ++ after)
