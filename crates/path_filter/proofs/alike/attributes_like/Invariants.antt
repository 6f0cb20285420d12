use Rattle.std.proofs.Common.{◌<◌, ℕ}
use Rattle.voe_tree.specs.declared.element.Element.{Element}
use Rattle.filter_text.specs.View.{steps_of}
use Rattle.path_filter.specs.SearchParts.{OwnAttribute}
use Rattle.path_filter.specs.Positions.{Has}
use Rattle.path_filter.specs.Search.{after}
use Rattle.path_filter.specs.Wanted.{IsLike, unlike}
use Rattle.path_filter.proofs.alike.attributes_like.Given as goal

abbrev pub invariant-loop-i : goal.invariant-loop-i
invariant-loop-i l = record {
  like : IsLike l.fn.like l.last;
  none_unlike : (root : Element) (k : ℕ) → Has l.reached k → k < l.i → OwnAttribute (after k (steps_of l.steps)) root l.at (unlike l.fn.like) → ⊥;
}
