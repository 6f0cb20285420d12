use Rattle.std.proofs.Common.{drop}
use Rattle.filter_text.specs.View.{test_of}
use Rattle.path_filter.specs.Meaning.{MeetsName}
use Rattle.path_filter.specs.Plan.{EndsAt, Owns}
use Rattle.path_filter.specs.Search.{OneOf}
use Rattle.path_filter.proofs.visit.owns.Given as goal

-- What the element owns is an attribute that is not yet seen.
abbrev pub invariant-loop-attribute : goal.invariant-loop-attribute
invariant-loop-attribute l = Owns l.at l.stage → OneOf (λ a. MeetsName (test_of l.stage.test) a.space a.local × EndsAt a.value l.stage.next) (drop l.attribute-index l.attribute-items)
