use Rattle.std.proofs.Common.{◌∙◌, sym, subst, length, eqb-true}
use Rattle.std.specs.Bool.{IsTrue}
use Rattle.std.proofs.lemmas.Bool.Decides.{Decides-eqb}
use Rattle.std.proofs.lemmas.Slice.Eq.{slice_eq-Decides}
use Rattle.path_filter.specs.Meaning.{MeetsName}
use Rattle.filter_text.specs.View.{test_of}
use Rattle.path_filter.proofs.SearchSteps.{name-meets}
use Rattle.filter_text.specs.declared.filter.Test.TheVariants as tests
use Rattle.path_filter.proofs.steps.meets.Goals as goal

pub returns-then-is_empty : goal.returns-then-is_empty
returns-then-is_empty c =
    subst (λ t. (IsTrue c.eq.result → MeetsName (test_of t) c.args.space.now c.args.local.now) × (MeetsName (test_of t) c.args.space.now c.args.local.now → IsTrue c.eq.result))
    (sym c.in-Name.is)
    (subst (λ n. (IsTrue c.eq.result → MeetsName (test_of (tests.Name n)) c.args.space.now c.args.local.now) × (MeetsName (test_of (tests.Name n)) c.args.space.now c.args.local.now → IsTrue c.eq.result))
    c.as_str.ensures
    (name-meets c.as_str.result.now c.args.space.now c.args.local.now c.eq.result (eqb-true (length c.args.space.now) 0 (sym c.is_empty.ensures ∙ c.if-is_empty.true)) (slice_eq-Decides Decides-eqb _ _ _ c.eq.ensures)))
