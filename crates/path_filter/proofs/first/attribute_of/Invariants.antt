use Rattle.std.proofs.Common.{drop}
use Rattle.voe_tree.specs.declared.element.Element.{Element}
use Rattle.filter_text.specs.Filter.{Steps}
use Rattle.filter_text.specs.View.{front_of, test_of}
use Rattle.path_filter.specs.SearchParts.{OwnAttribute}
use Rattle.path_filter.specs.Meaning.{MeetsName}
use Rattle.path_filter.specs.Search.{OneOf}
use Rattle.path_filter.specs.Wanted.{Suits, anything}
use Rattle.path_filter.proofs.first.attribute_of.Given as goal

-- What the step names is an attribute that is not yet seen.
abbrev pub invariant-loop-attribute : goal.invariant-loop-attribute
invariant-loop-attribute l =
    (root : Element) (rest : Steps) → OwnAttribute (front_of l.step rest) root l.at anything
    → OneOf (λ a. MeetsName (test_of l.step.test) a.space a.local × Suits anything root a.value) (drop l.attribute-index l.attribute-items)
