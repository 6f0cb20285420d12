use Rattle.std.proofs.Common.{◌≡◌, refl, subst}
use Rattle.filter_text.specs.Filter.{Part, element, attribute}
use Rattle.filter_text.specs.View.{part_of, test_of}
use Rattle.path_filter.specs.Meaning.{MeetsName}
use Rattle.path_filter.specs.Plan.{EndsAt}
use Rattle.path_filter.specs.Search.{OneOf}
use Rattle.path_filter.proofs.SearchSteps.{contra, read, meets-as}
use Rattle.path_filter.proofs.SearchLaws.{one-at}
use Rattle.path_filter.proofs.visit.owns.Goals as goal

of_attribute : (p : Part) → (p ≡ element → ⊥) → p ≡ attribute
of_attribute element other = absurd (other refl)
of_attribute attribute other = refl

pub returns-then-ends_at : goal.returns-then-ends_at
returns-then-ends_at c =
    let at = read c.as_slice-attribute-items.result.now c.loop-attribute.attribute-index c.attribute-item.result c.loop-attribute-test.true c.attribute-item.is in
    let meets = meets-as (test_of c.args.stage.now.test) _ _ _ _ c.as_str.ensures c.as_str-in-loop-attribute.ensures (c.meets.ensures.0 c.if-meets.true) in
    let ends = subst (λ s. EndsAt s c.args.stage.now.next) c.as_str-then-meets.ensures (c.ends_at.ensures.0 c.if-ends_at.true) in (
      (λ _. (
        of_attribute (part_of c.args.stage.now.part) (λ of_elements. contra _ (c.names_elements.ensures.1 of_elements) c.if-names_elements.false),
        subst (OneOf _) c.as_slice-attribute-items.ensures (one-at (λ a. MeetsName (test_of c.args.stage.now.test) a.space a.local × EndsAt a.value c.args.stage.now.next) _ _ _ at (meets, ends)),
      )),
      (λ _. refl),
    )
