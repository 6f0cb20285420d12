use Rattle.std.proofs.Common.{drop}
use Rattle.voe_tree.specs.declared.element.Element.{Element}
use Rattle.filter_text.specs.Filter.{Steps}
use Rattle.filter_text.specs.View.{front_of, test_of}
use Rattle.path_filter.specs.SearchParts.{OwnAttribute}
use Rattle.path_filter.specs.Meaning.{MeetsName}
use Rattle.path_filter.specs.Search.{OneOf}
use Rattle.path_filter.specs.Wanted.{IsLike, Suits, unlike}
use Rattle.path_filter.proofs.alike.named_like.Given as goal

-- What differs is an attribute that is not yet seen.
abbrev pub invariant-loop-attribute : goal.invariant-loop-attribute
invariant-loop-attribute l = record {
  like : IsLike l.fn.like l.last;
  unseen : (root : Element) (rest : Steps) → OwnAttribute (front_of l.step rest) root l.at (unlike l.fn.like)
      → OneOf (λ a. MeetsName (test_of l.step.test) a.space a.local × Suits (unlike l.fn.like) root a.value) (drop l.attribute-index l.attribute-items);
}
