use Rattle.std.proofs.Common.{◌≡◌, ◌∙◌, ◌-◌, suc, [], length, sym, subst, arith}
use Rattle.filter_text.specs.View.{path_of}
use Rattle.path_filter.specs.Meaning.{Passes}
use Rattle.path_filter.specs.Plan.{newest}
use Rattle.path_filter.specs.Planned.{IsPlanOf}
use Rattle.path_filter.proofs.GrowLaws.{non_empty, passes_last}
use Rattle.path_filter.proofs.PlanLaws.{by_path, newest_length}
use Rattle.path_filter.proofs.PrefixLaws.{document_of_last, made_small}
use Rattle.path_filter.proofs.filter.Filter.passes.Goals as goal

pub known_in-requires-clause-small : goal.known_in-requires-clause-small
known_in-requires-clause-small c =
    let planned = subst (λ p. IsPlanOf (newest p) (path_of c.self.inside.path)) (sym c.as_slice-plan.ensures) c.self.invariant.2 in
    let few = planned.few in
    made_small c.as_slice-plan.result.now (omega (arith, few, newest_length c.as_slice-plan.result.now [])) planned.made

pub known_in-requires-clause-few : goal.known_in-requires-clause-few
known_in-requires-clause-few c =
    let planned = subst (λ p. IsPlanOf (newest p) (path_of c.self.inside.path)) (sym c.as_slice-plan.ensures) c.self.invariant.2 in
    let few = planned.few in
    omega (arith, few, newest_length c.as_slice-plan.result.now [])

pub has-requires : goal.has-requires
has-requires c =
    let planned = subst (λ p. IsPlanOf (newest p) (path_of c.self.inside.path)) (sym c.as_slice-plan.ensures) c.self.invariant.2 in
    let few = planned.few in
    omega (arith, few, newest_length c.as_slice-plan.result.now [])

pub returns : goal.returns
returns c =
    let plan = newest c.as_slice-plan.result.now in
    let root = c.root.result.now in
    let last = length c.as_slice-plan.result.now - 1 in
    let planned = subst (λ p. IsPlanOf (newest p) (path_of c.self.inside.path)) (sym c.as_slice-plan.ensures) c.self.invariant.2 in
    let some = non_empty (length c.as_slice-plan.result.now) (sym c.is_empty.ensures ∙ c.if-is_empty.false) in
    let is_last : suc last ≡ length plan = omega (arith, some, newest_length c.as_slice-plan.result.now []) in
    let known = c.known_in.ensures last (document_of_last plan last is_last planned.last) in
    let at = by_path _ _ (passes_last plan last root is_last) in
    let decides = planned.decides root in (
      (λ h. subst (λ f. Passes (path_of f) c.args.tree.now.root) c.self.view_is
          (subst (Passes (path_of c.self.inside.path)) c.root.ensures.root (decides.0 (at.1 (known.0 (c.has.ensures.0 h)))))),
      (λ h. c.has.ensures.1 (known.1 (at.0 (decides.1
          (subst (λ f. Passes (path_of f) root) (sym c.self.view_is) (subst (Passes (path_of c.args.self.now)) (sym c.root.ensures.root) h)))))),
    )
