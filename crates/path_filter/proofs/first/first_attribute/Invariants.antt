use Rattle.std.proofs.Common.{◌<◌, ℕ}
use Rattle.voe_tree.specs.declared.element.Element.{Element}
use Rattle.filter_text.specs.View.{steps_of}
use Rattle.path_filter.specs.SearchParts.{OwnAttribute}
use Rattle.path_filter.specs.Positions.{Has}
use Rattle.path_filter.specs.Search.{after}
use Rattle.path_filter.specs.Wanted.{anything}
use Rattle.path_filter.proofs.first.first_attribute.Given as goal

abbrev pub invariant-loop-i : goal.invariant-loop-i
invariant-loop-i l = (root : Element) (k : ℕ) → Has l.reached k → k < l.i → OwnAttribute (after k (steps_of l.steps)) root l.at anything → ⊥
