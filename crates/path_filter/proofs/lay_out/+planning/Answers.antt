use Rattle.std.proofs.Common.{◌≡◌, ◌∙◌, ◌+◌, ◌-◌, ◌∷◌, ◌++◌, [], false, length, map, take, drop, sym, subst, ap, arith}
use Rattle.std.specs.Option.{MatchOption}
use Rattle.filter_text.specs.Filter.{alone, arrived, compare, found, step, element, attribute}
use Rattle.filter_text.specs.Filter as filter
use Rattle.filter_text.specs.Size.{size_of_conditions, steps_in_condition, steps_in_conditions, steps_in_path, steps_in_steps}
use Rattle.filter_text.specs.View.{axis_of, comparison_of, condition_of, conditions_of, operand_of, part_of, path_of, steps_of, test_of}
use Rattle.filter_text.specs.declared.filter.Path.{out-Path}
use Rattle.path_filter.specs.Plan.{AreGuards, all_of, check_of, checks_of, newest, no_more}
use Rattle.path_filter.specs.Planned.{AllMean, Grows, IsLast, Looks, Means, Stands, Starts, inner_steps}
use Rattle.path_filter.specs.declared.plan.Check.TheVariants as checks
use Rattle.path_filter.specs.declared.plan.Sought.TheVariants as sought
use Rattle.path_filter.specs.declared.plan.Stage.{Stage}
use Rattle.path_filter.proofs.SearchSteps.{read, step-sizes, to-place}
use Rattle.path_filter.proofs.GrowLaws.{all_means, all_mean_grown, all_mean_snoc, any_out_means, all_out_means, comparison_means, condition_sizes, follows_grown, follows_on, grows_le, grows_then, guards_grown, inner_operand_le, inner_operand_less, inner_snoc, map_snoc, non_empty, pushed, pushed_document, pushed_grows, pushed_last, stands, start_means, steps_open, steps_snoc}
use Rattle.path_filter.proofs.CheckViews.{all-out}
use Rattle.path_filter.proofs.GuardLaws.{guards_snoc}
use Rattle.path_filter.proofs.OnceLaws.{if_ok, same_everywhere}
use Rattle.path_filter.proofs.PositionLaws.{fewer}
use Rattle.path_filter.proofs.Views.{found-out, front-out, path-out}
use Rattle.path_filter.proofs.lay_out.+planning.Goals as goal

pub plan_condition-returns-in_ok-checks-in-AnyOf-clause-means : goal.plan_condition-returns-in_ok-checks-in-AnyOf-clause-means
plan_condition-returns-in_ok-checks-in-AnyOf-clause-means t c =
    let new = newest c.plan_conditions.new.plan in
    let ks = c.in_ok-checks-in-AnyOf.checks in
    let means = subst (λ cs. AllMean new (checks_of (map check_of ks)) (conditions_of (map condition_of cs))) c.as_slice.ensures c.in_ok-checks-in-AnyOf.ensures.means in
    subst (λ d. Means new (check_of (checks.AnyOf ks)) (condition_of d)) (sym c.in-AnyOf.is) (any_out_means new ks c.in-AnyOf.conditions means)

pub plan_condition-returns-in_ok-checks-in-AllOf-clause-means : goal.plan_condition-returns-in_ok-checks-in-AllOf-clause-means
plan_condition-returns-in_ok-checks-in-AllOf-clause-means t c =
    let new = newest c.plan_conditions-in-AllOf.new.plan in
    let ks = c.in_ok-checks-in-AllOf.checks in
    let means = subst (λ cs. AllMean new (checks_of (map check_of ks)) (conditions_of (map condition_of cs))) c.as_slice-in-AllOf.ensures c.in_ok-checks-in-AllOf.ensures.means in
    subst (λ d. Means new (check_of (checks.AllOf ks)) (condition_of d)) (sym c.in-AllOf.is) (all_out_means new ks c.in-AllOf.conditions means)

pub plan_alone-returns-in-None-clause-means : goal.plan_alone-returns-in-None-clause-means
plan_alone-returns-in-None-clause-means t c =
    let new = newest c.plan_found.new.plan in
    let p = c.in-Path.path in
    let none = subst (λ o. MatchOption o ((new ≡ newest c.args.plan.now) × (steps_of (out-Path p).steps ≡ arrived)) (λ k. Looks new (check_of k) (path_of p) sought.Anything)) c.in-None.is c.in_ok-check-in-Path.ensures.means in
    let made : check_of (checks.AllOf c.new.result) ≡ all_of no_more = all-out c.new.result ∙ ap (λ ks. all_of (checks_of (map check_of ks))) c.new.ensures in
    let operand : operand_of c.args.operand.now ≡ found (path_of p) = ap operand_of c.in-Path.is ∙ found-out p in
    subst (λ k. Means new k (alone (operand_of c.args.operand.now))) (sym made) (subst (λ o. Means new (all_of no_more) (alone o)) (sym operand) (start_means new p none.1))

pub plan_comparison-plan_once-requires-clause-refers : goal.plan_comparison-plan_once-requires-clause-refers
plan_comparison-plan_once-requires-clause-refers t c =
    (comparison_means (newest c.plan_side.new.plan) (newest c.plan_side-2.new.plan) _ c.in_ok-one.one c.in_ok-other.other c.args.left.now c.args.right.now c.args.how c.in_ok-one.ensures.same c.in_ok-other.ensures.same
    c.in_ok-one.ensures.guarded c.in_ok-other.ensures.grows c.in_ok-other.ensures.guarded c.requires.small).refers

pub plan_comparison-returns-then-is_from_document-2-clause-grows : goal.plan_comparison-returns-then-is_from_document-2-clause-grows
plan_comparison-returns-then-is_from_document-2-clause-grows t c =
    let old = newest c.args.plan.now in
    let middle = newest c.plan_side.new.plan in
    let sides = newest c.plan_side-2.new.plan in
    if_ok (λ _. Grows sides (newest c.plan_once.new.plan) 1) (λ _. Grows old (newest c.plan_once.new.plan) _) c.plan_once.result
    (λ _ grown. grows_le old (newest c.plan_once.new.plan) _ _ (omega (arith, inner_operand_less (operand_of c.args.left.now) (c.is_from_document.ensures.0 c.if-is_from_document.true), inner_operand_less (operand_of c.args.right.now) (c.is_from_document-then-is_from_document.ensures.0 c.if-is_from_document-2.true)))
    (grows_then old sides (newest c.plan_once.new.plan) _ 1 (grows_then old middle sides _ _ c.in_ok-one.ensures.grows c.in_ok-other.ensures.grows) grown)) c.plan_once.ensures.grows

pub plan_comparison-returns-then-is_from_document-2-clause-means : goal.plan_comparison-returns-then-is_from_document-2-clause-means
plan_comparison-returns-then-is_from_document-2-clause-means t c =
    let a = operand_of c.args.left.now in
    let b = operand_of c.args.right.now in
    if_ok _ (λ k. Means (newest c.plan_once.new.plan) (check_of k) (compare a (comparison_of c.args.how) b)) c.plan_once.result
    (λ k means. means (compare a (comparison_of c.args.how) b) (same_everywhere a b (comparison_of c.args.how) (c.is_from_document.ensures.0 c.if-is_from_document.true) (c.is_from_document-then-is_from_document.ensures.0 c.if-is_from_document-2.true))
    (comparison_means (newest c.plan_side.new.plan) (newest c.plan_side-2.new.plan) _ c.in_ok-one.one c.in_ok-other.other c.args.left.now c.args.right.now c.args.how c.in_ok-one.ensures.same c.in_ok-other.ensures.same
    c.in_ok-one.ensures.guarded c.in_ok-other.ensures.grows c.in_ok-other.ensures.guarded c.requires.small)) c.plan_once.ensures.means

pub plan_comparison-returns-clause-grows : goal.plan_comparison-returns-clause-grows
plan_comparison-returns-clause-grows t c =
    let old = newest c.args.plan.now in
    let new = newest c.plan_side-2.new.plan in
    grows_le old new _ _ (omega (arith, inner_operand_le (operand_of c.args.left.now), inner_operand_le (operand_of c.args.right.now)))
    (grows_then old (newest c.plan_side.new.plan) new _ _ c.in_ok-one.ensures.grows c.in_ok-other.ensures.grows)

pub plan_comparison-returns-clause-means : goal.plan_comparison-returns-clause-means
plan_comparison-returns-clause-means t c =
    comparison_means (newest c.plan_side.new.plan) (newest c.plan_side-2.new.plan) _ c.in_ok-one.one c.in_ok-other.other c.args.left.now c.args.right.now c.args.how c.in_ok-one.ensures.same c.in_ok-other.ensures.same
    c.in_ok-one.ensures.guarded c.in_ok-other.ensures.grows c.in_ok-other.ensures.guarded c.requires.small

pub plan_guards-plan_conditions-requires : goal.plan_guards-plan_conditions-requires
plan_guards-plan_conditions-requires t c =
    let x = c.step-item.result in
    let at = read c.args.steps.now c.loop-step.step-index x c.loop-step-test.true c.step-item.is in
    let sizes = step-sizes c.args.steps.now c.loop-step.step-index x at in
    let count = ap (λ f. steps_in_steps (f arrived)) (front-out x) in
    let same_size = ap (λ xs. size_of_conditions (conditions_of (map condition_of xs))) c.as_slice.ensures in
    let same_count = ap (λ xs. steps_in_conditions (conditions_of (map condition_of xs))) c.as_slice.ensures in
    (omega (arith, c.decreases, sizes.0, same_size), (c.loop-step.invariant.grows.made, omega (arith, sizes.1, count, same_count, c.requires.small)))

pub plan_guards-loop-step-preserved : goal.plan_guards-loop-step-preserved
plan_guards-loop-step-preserved t c =
    let i = c.loop-step.step-index in
    let x = c.step-item.result in
    let at = read c.args.steps.now i x c.loop-step-test.true c.step-item.is in
    let seen = take i c.args.steps.now in
    let now = to-place c.args.steps.now i x at in
    let cs = conditions_of (map condition_of x.conditions) in
    let k = checks.AllOf c.in_ok-checks.checks in
    let made : map check_of c.push.new.self ≡ map check_of c.loop-step.guards ++ check_of k ∷ [] = ap (λ ks. map check_of ks) c.in_ok-push.ensures.ok ∙ map_snoc check_of c.loop-step.guards k in
    let a = newest c.args.plan.now in
    let b = newest c.loop-step.plan in
    let d = newest c.plan_conditions.new.plan in
    let grown = subst (λ xs. Grows b d (steps_in_conditions (conditions_of (map condition_of xs)))) c.as_slice.ensures c.in_ok-checks.ensures.grows in
    let all = all_means d (checks_of (map check_of c.in_ok-checks.checks)) cs (subst (λ xs. AllMean d (checks_of (map check_of c.in_ok-checks.checks)) (conditions_of (map condition_of xs))) c.as_slice.ensures c.in_ok-checks.ensures.means) in
    let means = subst (λ j. Means d j (filter.all_of cs)) (sym (all-out c.in_ok-checks.checks)) all in
    record {
      grows = subst (λ xs. Grows a d (inner_steps (steps_of xs))) (sym now)
          (grows_le a d _ _ (omega (arith, inner_snoc seen x)) (grows_then a b d (inner_steps (steps_of seen)) (steps_in_conditions cs) c.loop-step.invariant.grows grown));
      guards = subst (λ ks. AreGuards d (steps_of (take (i + 1) c.args.steps.now)) (checks_of ks)) (sym made)
          (subst (λ xs. AreGuards d (steps_of xs) (checks_of (map check_of c.loop-step.guards ++ check_of k ∷ []))) (sym now)
          (guards_snoc d seen (map check_of c.loop-step.guards) x (check_of k) (guards_grown b d (steps_in_conditions cs) (steps_of seen) (checks_of (map check_of c.loop-step.guards)) grown c.loop-step.invariant.guards) means.refers means.holds));
    }

pub plan_conditions-plan_condition-requires : goal.plan_conditions-plan_condition-requires
plan_conditions-plan_condition-requires t c =
    let at = read c.args.conditions.now c.loop-condition.condition-index c.condition-item.result c.loop-condition-test.true c.condition-item.is in
    let sizes = condition_sizes c.args.conditions.now c.loop-condition.condition-index c.condition-item.result at in
    (omega (arith, c.decreases, sizes.0), (c.loop-condition.invariant.grows.made, omega (arith, sizes.1, c.requires.small)))

pub plan_conditions-loop-condition-preserved : goal.plan_conditions-loop-condition-preserved
plan_conditions-loop-condition-preserved t c =
    let i = c.loop-condition.condition-index in
    let item = c.condition-item.result in
    let at = read c.args.conditions.now i item c.loop-condition-test.true c.condition-item.is in
    let seen = map condition_of (take i c.args.conditions.now) in
    let now : map condition_of (take (i + 1) c.args.conditions.now) ≡ seen ++ condition_of item ∷ [] = ap (λ xs. map condition_of xs) (to-place c.args.conditions.now i item at) ∙ map_snoc condition_of (take i c.args.conditions.now) item in
    let made : map check_of c.push.new.self ≡ map check_of c.loop-condition.checks ++ check_of c.in_ok-check.check ∷ [] = ap (λ ks. map check_of ks) c.in_ok-push.ensures.ok ∙ map_snoc check_of c.loop-condition.checks c.in_ok-check.check in
    let a = newest c.args.plan.now in
    let b = newest c.loop-condition.plan in
    let d = newest c.plan_condition.new.plan in
    let grown = c.in_ok-check.ensures.grows in
    record {
      grows = subst (λ xs. Grows a d (steps_in_conditions (conditions_of xs))) (sym now)
          (grows_le a d _ _ (omega (arith, steps_snoc seen (condition_of item))) (grows_then a b d (steps_in_conditions (conditions_of seen)) (steps_in_condition (condition_of item)) c.loop-condition.invariant.grows grown));
      means = subst (λ ks. AllMean d (checks_of ks) (conditions_of (map condition_of (take (i + 1) c.args.conditions.now)))) (sym made)
          (subst (λ xs. AllMean d (checks_of (map check_of c.loop-condition.checks ++ check_of c.in_ok-check.check ∷ [])) (conditions_of xs)) (sym now)
          (all_mean_snoc d (map check_of c.loop-condition.checks) seen (check_of c.in_ok-check.check) (condition_of item) (all_mean_grown b d _ _ _ grown c.loop-condition.invariant.means) c.in_ok-check.ensures.means));
    }

pub plan_found-returns-in-Some-clause-means : goal.plan_found-returns-in-Some-clause-means
plan_found-returns-in-Some-clause-means t c =
    let new = newest c.plan_path.new.plan in
    let last = subst (λ o. MatchOption o ((new ≡ newest c.args.plan.now) × (steps_of (out-Path c.args.path.now).steps ≡ arrived)) (λ i. IsLast new i c.args.path.now c.args.sought)) c.in-Some.is c.in_ok-position.ensures.means in
    c.plan_start.ensures new c.args.sought last.starts last.document

pub plan_next-returns-in_ok-position-in-Element-clause-grows : goal.plan_next-returns-in_ok-position-in-Element-clause-grows
plan_next-returns-in_ok-position-in-Element-clause-grows t c =
    grows_le (newest c.args.plan.now) (newest c.push.new.plan) _ _ (omega (arith, fewer c.args.others.now, non_empty (length c.args.others.now) (sym c.is_empty.ensures ∙ c.if-is_empty.false)))
    (pushed_grows (newest c.args.plan.now) c.plan_steps.new.plan c.push.new.plan c.in_ok-position-in-Element.position c.in_ok-stage-in-Element.stage _ c.in_ok-position-in-Element.ensures c.in_ok-stage-in-Element.ensures.means.refers c.in_ok-stage-in-Element.ensures.grows)

pub plan_next-returns-in_ok-position-in-Element-clause-means : goal.plan_next-returns-in_ok-position-in-Element-clause-means
plan_next-returns-in_ok-position-in-Element-clause-means t c =
    let of_elements : part_of c.args.step.now.part ≡ element = ap part_of c.in-Element.is in
    follows_on (newest c.push.new.plan) c.in_ok-position-in-Element.position (part_of c.args.step.now.part) (steps_of c.args.others.now) c.args.sought
    (λ is. let bad : element ≡ attribute = sym of_elements ∙ is in let absurdity : ⊥ = cc in absurdity)
    (pushed c.plan_steps.new.plan c.push.new.plan c.in_ok-position-in-Element.position c.in_ok-stage-in-Element.stage (steps_of c.args.others.now) c.args.sought c.in_ok-position-in-Element.ensures c.in_ok-stage-in-Element.ensures.means)

pub plan_path-returns-clause-grows : goal.plan_path-returns-clause-grows
plan_path-returns-clause-grows t c =
    let opened = ap steps_in_path (path-out c.args.path.now) in
    let same = ap (λ ss. steps_in_steps (steps_of ss)) c.as_slice-steps.ensures in
    grows_le (newest c.args.plan.now) (newest c.push.new.plan) _ _ (omega (arith, opened, same, fewer c.as_slice-steps.result.now, non_empty (length c.as_slice-steps.result.now) (sym c.is_empty.ensures ∙ c.if-is_empty.false)))
    (pushed_grows (newest c.args.plan.now) c.plan_steps.new.plan c.push.new.plan c.in_ok-position.position _ _ c.in_ok-position.ensures c.in_ok-stage.ensures.means.refers c.in_ok-stage.ensures.grows)

pub plan_path-returns-clause-means : goal.plan_path-returns-clause-means
plan_path-returns-clause-means t c =
    let absolute = (out-Path c.args.path.now).is_absolute in
    let x : Stage = record c.in_ok-stage.stage { of_document = absolute } in
    let old = c.plan_steps.new.plan in
    let new = c.push.new.plan in
    let means = c.in_ok-stage.ensures.means in
    let stands_too : Stands (newest old) x (steps_of c.as_slice-steps.result.now) c.args.sought = record { refers = means.refers; finds = means.finds } in
    record {
      starts = subst (λ ss. Starts (newest new) c.in_ok-position.position (steps_of ss) c.args.sought) c.as_slice-steps.ensures (pushed old new c.in_ok-position.position x (steps_of c.as_slice-steps.result.now) c.args.sought c.in_ok-position.ensures stands_too);
      document = λ is. pushed_document old new c.in_ok-position.position x c.in_ok-position.ensures is;
      last = pushed_last old new c.in_ok-position.position x c.in_ok-position.ensures;
    }

pub plan_steps-returns-clause-grows : goal.plan_steps-returns-clause-grows
plan_steps-returns-clause-grows t c =
    let opened = steps_open c.args.steps.now c.index-steps-0.result c.requires.some c.index-steps-0.is in
    let sizes = ap steps_in_steps opened in
    let cs = ap (λ xs. steps_in_conditions (conditions_of (map condition_of xs))) c.as_slice.ensures in
    grows_le (newest c.args.plan.now) (newest c.plan_conditions.new.plan) _ _ (omega (arith, sizes, cs))
    (grows_then (newest c.args.plan.now) (newest c.plan_next.new.plan) (newest c.plan_conditions.new.plan) _ _ c.in_ok-next.ensures.grows c.in_ok-checks.ensures.grows)

pub plan_steps-returns-clause-means : goal.plan_steps-returns-clause-means
plan_steps-returns-clause-means t c =
    let first = c.index-steps-0.result in
    let new = newest c.plan_conditions.new.plan in
    let opened = steps_open c.args.steps.now first c.requires.some c.index-steps-0.is in
    let others = steps_of (take (length c.args.steps.now - 1) (drop 1 c.args.steps.now)) in
    let cs = conditions_of (map condition_of c.as_slice.result.now) in
    let x : Stage = record { axis = first.axis; part = first.part; test = c.in_ok-test.test; checks = c.in_ok-checks.checks; next = c.in_ok-next.next; of_document = false } in
    let same : steps_of c.args.steps.now ≡ step (axis_of first.axis) (part_of first.part) (test_of c.in_ok-test.test) cs others =
    opened
    ∙ ap (λ y. step (axis_of first.axis) (part_of first.part) (test_of y) (conditions_of (map condition_of first.conditions)) others) (sym c.in_ok-test.ensures)
    ∙ ap (λ xs. step (axis_of first.axis) (part_of first.part) (test_of c.in_ok-test.test) (conditions_of (map condition_of xs)) others) (sym c.as_slice.ensures) in
    subst (λ s. Stands new x s c.args.sought) (sym same)
    (stands new x cs others c.args.sought c.in_ok-checks.ensures.means (follows_grown (newest c.plan_next.new.plan) new _ c.in_ok-next.next (part_of first.part) others c.args.sought c.in_ok-checks.ensures.grows c.in_ok-next.ensures.means))
