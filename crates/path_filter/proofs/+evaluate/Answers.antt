use Rattle.std.proofs.Common.{◌≡◌, ◌↔◌, inl, inr, Some, true, ◌+◌, ◌*◌, ℕ, suc, length, eqb-true, ◌≢◌, take, [], ◌≤◌, arith, refl, sym, ◌∙◌, ap, subst}
use Rattle.filter_text.specs.Filter.{arrived, path}
use Rattle.filter_text.specs.View.{path_of, steps_of, test_of}
use Rattle.voe_tree.specs.Contents.{elements_in, string_of}
use Rattle.voe_tree.specs.Shape.{depth}
use Rattle.path_filter.specs.SearchParts.{Goes, SearchFinds, OwnAttribute, PathFindsWanted, Next, NextBelow}
use Rattle.path_filter.specs.Plan.{FromChild, check_of, newest, stage_checks}
use Rattle.path_filter.specs.Positions.{Has}
use Rattle.path_filter.specs.Search.{OneOf, after}
use Rattle.path_filter.specs.Wanted.{IsLike, IsShallow, Suits, anything, exactly, text_found, unlike}
use Rattle.path_filter.specs.declared.wanted.Found.TheVariants as places
use Rattle.path_filter.proofs.DifferLaws.{if_none, if_some, none_so, others_decide, owns_unlike, search_unlike}
use Rattle.path_filter.proofs.SearchSteps.{read, one-next, one-past, element-next, element-split, text-next, element-one, search-same, Attributes, own-in, own-out, added, not_added, advanced, skipped, there_already, contra, meets-as, below-more, child_falls, no_steps, past-end, rooted, rooted_in, rooted_out}
use Rattle.path_filter.proofs.GuardLaws.{guard_at, guard_holds, guards_length, goes_in, goes_out}
use Rattle.path_filter.proofs.HasLaws.{has_or_not}
use Rattle.path_filter.proofs.MarkLaws.{small_at, skip_marked, one_marked, all_marked, within}
use Rattle.path_filter.proofs.PlanLaws.{FromChildAt, newest_length, before, found_in, found_own, found_child, stage_get, child_same}
use Rattle.path_filter.proofs.PositionLaws.{fewer, after-at, search-in, search-here, search-own, search-children}
use Rattle.path_filter.proofs.PrefixLaws.{front_knows, front_length, front_weight, made_front, made_small, refers_front, refers_small}
use Rattle.path_filter.proofs.Ranks.{falls-size, falls-within, falls-work, falls-work-within}
use Rattle.path_filter.proofs.SearchLaws.{one-at}
use Rattle.path_filter.proofs.Texts.{of_document}
use Rattle.path_filter.proofs.+evaluate.Goals.{search::advance-then-has+then-not-has+then-goes, search::advance-else-has, search::advance-else-has-via-then-has+then-not-has+else-goes, search::advance-else-has-via-then-has+else-not-has, search::advance-else-has-via-else-has, search::own_attribute-else-meets-via-then-meets+else-suits, search::own_attribute-else-meets-via-else-meets, search::own_attributes-else-has-via-then-has+else-own_attribute, search::own_attributes-else-has-via-else-has, search::search-else-has-via-then-has+else-suits, search::search-else-has-via-else-has, search::search-in-Element+else-search, search::search-in-Text, first::first_from-in-Element+in_default-first_from, first::first_from-in-Text, alike::all_like_from-in-Element+in_ok-last-in-Element, alike::all_like_from-in-Text, found::found_from-in-Element+else-is_done, found::found_from-in-Text}
use Rattle.path_filter.proofs.+evaluate.Goals as goal
use Rattle.path_filter.proofs.Measures.{size_of_check, size_of_checks, size_of_guards, size_of_wanted, weight}

pub search::advance-has-requires : goal.search::advance-has-requires
search::advance-has-requires t c = omega (arith, fewer c.args.steps.now, c.requires.small, c.loop-i-test.true)

pub search::advance-has-requires-then-has : goal.search::advance-has-requires-then-has
search::advance-has-requires-then-has t c = omega (arith, fewer c.args.steps.now, c.requires.small, c.loop-i-test.true)

pub search::advance-add-requires : goal.search::advance-add-requires
search::advance-add-requires t c = omega (arith, fewer c.args.steps.now, c.requires.small, c.loop-i-test.true)

pub search::advance-bounds-guards-i : goal.search::advance-bounds-guards-i
search::advance-bounds-guards-i t c = omega (arith, guards_length (newest c.args.context.now.plan.now) c.args.steps.now c.args.guards.now c.requires.guarded, c.loop-i-test.true)

pub search::advance-offset_bounds-guards-i : goal.search::advance-offset_bounds-guards-i
search::advance-offset_bounds-guards-i t c = omega (arith, fewer c.args.steps.now, c.requires.small, c.loop-i-test.true)

pub search::advance-goes-requires : goal.search::advance-goes-requires
search::advance-goes-requires t c =
    let plan = newest c.args.context.now.plan.now in
    let steps = c.args.steps.now in
    let guards = c.args.guards.now in
    let i = c.loop-i.i in
    let at = read steps i c.index-steps-i.result c.loop-i-test.true c.index-steps-i.is in
    let guard = c.index-guards-i.result in
    let there = read guards i guard (omega (arith, guards_length plan steps guards c.requires.guarded, c.loop-i-test.true)) c.index-guards-i.is in
    let g = guard_at plan steps guards i c.index-steps-i.result guard c.requires.guarded at there in
    (omega (arith, c.decreases, falls-work c.args.context.now (size_of_check (check_of guard) + 1) (size_of_guards guards) 1 0 g.smaller (omega arith)), (c.requires.ready, (c.requires.inside, (g.refers, g.stands))))

pub search::advance-loop-i-preserved : goal.search::advance-loop-i-preserved
search::advance-loop-i-preserved t c =
    let ss = c.args.steps.now in
    let R = Has c.args.reached.now in
    let Old = Has c.loop-i.next in
    let root = c.args.context.now.root.now in
    let e = c.args.at.now in
    let i = c.loop-i.i in
    let here = after-at ss i c.index-steps-i.result (read ss i c.index-steps-i.result c.loop-i-test.true c.index-steps-i.is) in
    let rest = after (suc i) (steps_of ss) in
    let G = Goes (after i (steps_of ss)) root e in
    elim c.if-has.branch [
      | search::advance-then-has+then-not-has+then-goes w ↦ subst (λ p. (j : ℕ) → Has p j ↔ NextBelow (i + 1) ss R root e j) (sym w.next-is)
          (advanced ss R Old _ root e i (c.has.ensures.0 w.if-has.true) c.loop-i.invariant
          (added Old _ (i + 1) G w.add.ensures (subst (λ s. Goes s root e) (sym here) ((w.goes.ensures rest).0 w.if-goes.true))))
      | search::advance-else-has w ↦ subst (λ p. (j : ℕ) → Has p j ↔ NextBelow (i + 1) ss R root e j) (sym w.next-is)
          (elim w.else-has.branch [
            | search::advance-else-has-via-then-has+then-not-has+else-goes v ↦ advanced ss R Old Old root e i (c.has.ensures.0 v.if-has.true) c.loop-i.invariant
                (not_added Old (i + 1) G (λ goes. contra _ ((v.goes.ensures rest).1 (subst (λ s. Goes s root e) here goes)) v.if-goes.false))
            | search::advance-else-has-via-then-has+else-not-has v ↦ advanced ss R Old Old root e i (c.has.ensures.0 v.if-has.true) c.loop-i.invariant (there_already Old (i + 1) G (v.has-then-has.ensures.0 v.if-not-has.false))
            | search::advance-else-has-via-else-has v ↦ skipped ss R Old root e i (λ reached. contra _ (c.has.ensures.1 reached) v.if-has.false) c.loop-i.invariant
          ])
    ]

pub visit::arrives-returns-then-is_cut : goal.visit::arrives-returns-then-is_cut
visit::arrives-returns-then-is_cut t c = ((λ claim. absurd (contra _ claim refl)), (λ arrives. absurd (c.is_cut.ensures c.if-is_cut.true c.args.at.now arrives.3)))

pub passes::add_from_child-add_one-requires : goal.passes::add_from_child-add_one-requires
passes::add_from_child-add_one-requires t c =
    let plan = c.args.plan.now in
    let i = c.loop-i.i in
    let x = c.index-plan-i.result in
    let at = read plan i x c.loop-i-test.true c.index-plan-i.is in
    let le : i ≤ length plan = omega (arith, c.loop-i-test.true) in
    let front = front_length plan i le in
    let same = newest_length (take i plan) [] in (
      omega (arith, c.decreases, falls-size (weight (take i plan) + (size_of_checks (stage_checks x) + 3)) (weight plan) 0 (2 * depth c.args.child.now) c.args.root.now (omega (arith, front_weight plan i x at)) (omega arith)),
      (
        record { shallow = c.requires.shallow; made = made_front plan i c.requires.made; few = omega (arith, front, same, le, c.requires.few); knows = front_knows plan i (Has c.args.known.now) c.args.root.now c.loop-i-test.true c.requires.knows },
        (c.requires.inside, (small_at plan i x c.requires.small at, (refers_front plan i x c.requires.made at, omega (arith, c.loop-i-test.true, c.requires.few)))),
      ),
    )

pub found::found_from-visit_child-requires : goal.found::found_from-visit_child-requires
found::found_from-visit_child-requires t c =
    let deeper = child_falls c.args.at.now c.as_slice-child-items.result.now c.loop-child.child-index c.child-item.result c.in-Element.inner c.loop-child-test.true c.child-item.is c.in-Element.is c.as_slice-child-items.ensures in
    let inside = c.requires.inside in (
      omega (arith, c.decreases, falls-within (weight c.args.plan.now) (weight c.args.plan.now) (2 * depth c.in-Element.inner + 1) (2 * depth c.args.at.now) c.args.root.now (omega arith) (omega (arith, deeper))),
      (c.requires.shallow, (omega (arith, deeper, inside), (c.requires.made, (c.requires.small, (c.requires.few, c.requires.knows))))),
    )

pub search::admits-ask_check-requires : goal.search::admits-ask_check-requires
search::admits-ask_check-requires t c =
    let plan = c.args.context.now.plan.now in
    record { small = refers_small (newest plan) (check_of c.args.guard.now) (omega (arith, c.requires.ready.few, newest_length plan [])) c.requires.refers }

pub search::admits-found_from-here-requires : goal.search::admits-found_from-here-requires
search::admits-found_from-here-requires t c =
    let plan = c.args.context.now.plan.now in
    let ready = c.requires.ready in (
      omega (arith, c.decreases, falls-size (weight plan) (weight plan + (size_of_check (check_of c.args.guard.now) + 1)) (2 * depth c.args.at.now) 0 c.args.context.now.root.now (omega arith) (omega (arith, c.requires.inside))),
      (ready.shallow, (c.requires.inside, (ready.made, (made_small plan ready.few ready.made, (ready.few, λ j small of_document. ready.knows j of_document))))),
    )

pub search::admits-check_holds-requires : goal.search::admits-check_holds-requires
search::admits-check_holds-requires t c =
    let plan = c.args.context.now.plan.now in
    let size = size_of_check (check_of c.args.guard.now) in (
      omega (arith, c.decreases, falls-work c.args.context.now size (size + 1) 0 0 (omega arith) (omega arith)),
      (c.requires.ready, (c.requires.inside, (refers_small (newest plan) (check_of c.args.guard.now) (omega (arith, c.requires.ready.few, newest_length plan [])) c.requires.refers, c.requires.refers))),
    )

pub search::admits-returns : goal.search::admits-returns
search::admits-returns t c =
    let same = guard_holds c.args.context.now.plan.now (Has c.ask_check.new.asked) (Has c.found_from-here.result) (Has c.args.context.now.known.now) c.args.context.now.root.now c.args.at.now (check_of c.args.guard.now)
    c.requires.refers c.ask_check.ensures.asks c.found_from-here.ensures c.requires.ready.knows in
    ((λ h. same.0 (c.check_holds.ensures.0 h)), (λ h. c.check_holds.ensures.1 (same.1 h)))

pub search::goes-returns-else-is_empty : goal.search::goes-returns-else-is_empty
search::goes-returns-else-is_empty t c =
    let x = c.args.step.now in
    let root = c.args.context.now.root.now in
    let stands = c.requires.stands root c.args.at.now in
    λ rest. (
      (λ h. goes_out x rest root c.args.at.now (λ is. contra _ (c.names_attributes.ensures.1 is) c.if-names_attributes.false) (meets-as (test_of x.test) _ _ _ _ c.as_str.ensures c.as_str-else-names_attributes.ensures (c.meets.ensures.0 c.if-not-meets.false)) (stands.0 (c.admits.ensures.0 h))),
      (λ goes. c.admits.ensures.1 (stands.1 (goes_in x rest root c.args.at.now goes).2)),
    )

pub first::first_from-advance-next-requires : goal.first::first_from-advance-next-requires
first::first_from-advance-next-requires t c =
    let deeper = child_falls c.args.at.now c.as_slice-child-items.result.now c.loop-child.child-index c.child-item.result c.in-Element.inner c.loop-child-test.true c.child-item.is c.in-Element.is c.as_slice-child-items.ensures in
    let inside = c.requires.inside in
    let size = size_of_guards c.args.guards.now in (
      omega (arith, c.decreases, falls-work-within c.args.context.now size size 0 (depth c.args.at.now + 1) (omega arith) (omega arith)),
      (c.requires.ready, (omega (arith, deeper, inside), (c.requires.guarded, c.requires.small))),
    )

pub first::first_from-first_from-requires : goal.first::first_from-first_from-requires
first::first_from-first_from-requires t c =
    let deeper = child_falls c.args.at.now c.as_slice-child-items.result.now c.loop-child.child-index c.child-item.result c.in-Element.inner c.loop-child-test.true c.child-item.is c.in-Element.is c.as_slice-child-items.ensures in
    let inside = c.requires.inside in
    let size = size_of_guards c.args.guards.now in (
      omega (arith, c.decreases, falls-work-within c.args.context.now size size (depth c.in-Element.inner + 1) (depth c.args.at.now + 1) (omega arith) (omega (arith, deeper))),
      (c.requires.ready, (omega (arith, deeper, inside), (c.requires.guarded, c.requires.small))),
    )

pub search::search-advance-next-requires : goal.search::search-advance-next-requires
search::search-advance-next-requires t c =
    let deeper = child_falls c.args.at.now c.as_slice-child-items.result.now c.loop-child.child-index c.child-item.result c.in-Element.inner c.loop-child-test.true c.child-item.is c.in-Element.is c.as_slice-child-items.ensures in
    let inside = c.requires.inside in
    let size = size_of_guards c.args.guards.now in (
      omega (arith, c.decreases, falls-work-within c.args.context.now size (size + size_of_wanted c.args.wanted.now) 0 (depth c.args.at.now + 1) (omega arith) (omega arith)),
      (c.requires.ready, (omega (arith, deeper, inside), (c.requires.guarded, c.requires.small))),
    )

pub search::search-search-requires : goal.search::search-search-requires
search::search-search-requires t c =
    let deeper = child_falls c.args.at.now c.as_slice-child-items.result.now c.loop-child.child-index c.child-item.result c.in-Element.inner c.loop-child-test.true c.child-item.is c.in-Element.is c.as_slice-child-items.ensures in
    let inside = c.requires.inside in
    let size = size_of_guards c.args.guards.now + size_of_wanted c.args.wanted.now in (
      omega (arith, c.decreases, falls-work-within c.args.context.now size size (depth c.in-Element.inner + 1) (depth c.args.at.now + 1) (omega arith) (omega (arith, deeper))),
      (c.requires.ready, (omega (arith, deeper, inside), (c.requires.guarded, (c.requires.small, c.requires.sound)))),
    )

pub search::finds-returns : goal.search::finds-returns
search::finds-returns t c = (
  (λ found. rooted_out c.args.path.now c.as_slice-steps.result.now (Has c.only-start.result) (Has c.advance-reached.result) c.args.context.now.root.now c.args.at.now c.args.wanted.now c.if-not-path.false c.as_slice-steps.ensures c.only-start.ensures c.advance-reached.ensures (c.search-2.ensures.0 found)),
  (λ found. c.search-2.ensures.1 (rooted_in c.args.path.now c.as_slice-steps.result.now (Has c.only-start.result) (Has c.advance-reached.result) c.args.context.now.root.now c.args.at.now c.args.wanted.now c.if-not-path.false c.as_slice-steps.ensures c.only-start.ensures c.advance-reached.ensures (sym c.is_empty.ensures ∙ c.if-is_empty.false) found)),
)

pub search::own_attribute-loop-attribute-init : goal.search::own_attribute-loop-attribute-init
search::own_attribute-loop-attribute-init t c = λ rest found. subst (OneOf _) (sym c.as_slice-attribute-items.ensures) (own-in c.args.step.now rest c.args.context.now.root.now c.args.at.now c.args.wanted.now found).1

pub search::own_attribute-returns-then-suits : goal.search::own_attribute-returns-then-suits
search::own_attribute-returns-then-suits t c =
    let at = read c.as_slice-attribute-items.result.now c.loop-attribute.attribute-index c.attribute-item.result c.loop-attribute-test.true c.attribute-item.is in
    let meets = meets-as (test_of c.args.step.now.test) _ _ _ _ c.as_str.ensures c.as_str-in-loop-attribute.ensures (c.meets.ensures.0 c.if-meets.true) in
    let suits = subst (Suits c.args.wanted.now c.args.context.now.root.now) c.as_str-then-meets.ensures (c.suits.ensures.0 c.if-suits.true) in
    let one : Attributes c.args.step.now c.args.context.now.root.now c.args.at.now c.args.wanted.now = subst (OneOf _) c.as_slice-attribute-items.ensures (one-at _ _ _ _ at (meets, suits)) in
    λ rest. ((λ _. own-out c.args.step.now rest c.args.context.now.root.now c.args.at.now c.args.wanted.now (c.names_attributes.ensures.0 c.if-not-names_attributes.false) one), (λ _. refl))

pub search::own_attribute-loop-attribute-preserved : goal.search::own_attribute-loop-attribute-preserved
search::own_attribute-loop-attribute-preserved t c =
    let at = read c.as_slice-attribute-items.result.now c.loop-attribute.attribute-index c.attribute-item.result c.loop-attribute-test.true c.attribute-item.is in
    λ rest found. one-next _ _ c.loop-attribute.attribute-index c.attribute-item.result at
    (λ p. elim c.else-meets.branch [
      | search::own_attribute-else-meets-via-then-meets+else-suits w ↦ contra _ (w.suits.ensures.1 (subst (Suits c.args.wanted.now c.args.context.now.root.now) (sym w.as_str-then-meets.ensures) p.1)) w.if-suits.false
      | search::own_attribute-else-meets-via-else-meets w ↦ contra _ (c.meets.ensures.1 (meets-as (test_of c.args.step.now.test) _ _ _ _ (sym c.as_str.ensures) (sym c.as_str-in-loop-attribute.ensures) p.0)) w.if-meets.false
    ])
    (c.loop-attribute.invariant rest found)

pub search::own_attribute-returns : goal.search::own_attribute-returns
search::own_attribute-returns t c = λ rest. ((λ claim. absurd (contra _ claim refl)), (λ found. absurd (one-past _ c.as_slice-attribute-items.result.now c.loop-attribute.attribute-index (omega (arith, c.loop-attribute-test.false)) (c.loop-attribute.invariant rest found))))

pub search::own_attributes-has-requires : goal.search::own_attributes-has-requires
search::own_attributes-has-requires t c = omega (arith, fewer c.args.steps.now, c.requires.small, c.loop-i-test.true)

pub search::own_attributes-returns-then-own_attribute : goal.search::own_attributes-returns-then-own_attribute
search::own_attributes-returns-then-own_attribute t c =
    let at = read c.args.steps.now c.loop-i.i c.index-steps-i.result c.loop-i-test.true c.index-steps-i.is in (
      (λ _. (
        c.loop-i.i,
        c.has.ensures.0 c.if-has.true,
        c.loop-i-test.true,
        subst (λ s. OwnAttribute s c.args.context.now.root.now c.args.at.now c.args.wanted.now) (sym (after-at c.args.steps.now c.loop-i.i c.index-steps-i.result at)) ((c.own_attribute.ensures (after (suc c.loop-i.i) (steps_of c.args.steps.now))).0 c.if-own_attribute.true),
      )),
      (λ _. refl),
    )

pub search::own_attributes-loop-i-preserved : goal.search::own_attributes-loop-i-preserved
search::own_attributes-loop-i-preserved t c =
    let at = read c.args.steps.now c.loop-i.i c.index-steps-i.result c.loop-i-test.true c.index-steps-i.is in
    λ k reached lt own. elim (below-more k c.loop-i.i lt) [
      | inl same ↦ (elim c.else-has.branch [
        | search::own_attributes-else-has-via-then-has+else-own_attribute w ↦
            contra _ ((w.own_attribute.ensures (after (suc c.loop-i.i) (steps_of c.args.steps.now))).1
            (subst (λ s. OwnAttribute s c.args.context.now.root.now c.args.at.now c.args.wanted.now) (ap (λ n. after n (steps_of c.args.steps.now)) same ∙ after-at c.args.steps.now c.loop-i.i c.index-steps-i.result at) own)) w.if-own_attribute.false
        | search::own_attributes-else-has-via-else-has w ↦ contra _ (c.has.ensures.1 (subst (Has c.args.reached.now) same reached)) w.if-has.false
      ])
      | inr less ↦ c.loop-i.invariant k reached less own
    ]

pub search::search-has-requires : goal.search::search-has-requires
search::search-has-requires t c = omega (arith, fewer c.args.steps.now, c.requires.small)

pub search::search-returns-then-suits : goal.search::search-returns-then-suits
search::search-returns-then-suits t c = ((λ _. search-here c.args.steps.now (Has c.args.reached.now) c.args.context.now.root.now c.args.at.now c.args.wanted.now (c.has.ensures.0 c.if-has.true) (c.suits.ensures.0 c.if-suits.true)), (λ _. refl))

pub search::search-returns-then-own_attributes : goal.search::search-returns-then-own_attributes
search::search-returns-then-own_attributes t c = ((λ _. search-own c.args.steps.now (Has c.args.reached.now) c.args.context.now.root.now c.args.at.now c.args.wanted.now (c.own_attributes.ensures.0 c.if-own_attributes.true)), (λ _. refl))

pub search::search-loop-child-init : goal.search::search-loop-child-init
search::search-loop-child-init t c =
    λ found. elim (search-in c.args.steps.now (Has c.args.reached.now) c.args.context.now.root.now c.args.at.now c.args.wanted.now found) [
      | inl here ↦ absurd (elim c.else-has.branch [
        | search::search-else-has-via-then-has+else-suits w ↦ contra _ (w.suits.ensures.1 here.1) w.if-suits.false
        | search::search-else-has-via-else-has w ↦ contra _ (c.has.ensures.1 here.0) w.if-has.false
      ])
      | inr rest ↦ (elim rest [
        | inl own ↦ absurd (contra _ (c.own_attributes.ensures.1 own) c.if-own_attributes.false)
        | inr below ↦ subst (λ ns. OneOf (λ x. SearchFinds c.args.steps.now (Next c.args.steps.now (Has c.args.reached.now) c.args.context.now.root.now x) c.args.context.now.root.now x c.args.wanted.now) (elements_in ns)) (sym c.as_slice-child-items.ensures) below
      ])
    ]

pub search::search-returns-then-search : goal.search::search-returns-then-search
search::search-returns-then-search t c =
    let at = read c.as_slice-child-items.result.now c.loop-child.child-index c.child-item.result c.loop-child-test.true c.child-item.is ∙ ap Some c.in-Element.is in
    let found = search-same c.args.steps.now (Has c.advance-next.result) (Next c.args.steps.now (Has c.args.reached.now) c.args.context.now.root.now c.in-Element.inner) c.args.context.now.root.now c.in-Element.inner c.args.wanted.now (λ j. (c.advance-next.ensures j).0) (c.search.ensures.0 c.if-search.true) in (
      (λ _. search-children c.args.steps.now (Has c.args.reached.now) c.args.context.now.root.now c.args.at.now c.args.wanted.now
          (subst (λ ns. OneOf (λ x. SearchFinds c.args.steps.now (Next c.args.steps.now (Has c.args.reached.now) c.args.context.now.root.now x) c.args.context.now.root.now x c.args.wanted.now) (elements_in ns)) c.as_slice-child-items.ensures (element-one (λ x. SearchFinds c.args.steps.now (Next c.args.steps.now (Has c.args.reached.now) c.args.context.now.root.now x) c.args.context.now.root.now x c.args.wanted.now) _ c.loop-child.child-index c.in-Element.inner at found))),
      (λ _. refl),
    )

pub search::search-loop-child-preserved : goal.search::search-loop-child-preserved
search::search-loop-child-preserved t c =
    let item = read c.as_slice-child-items.result.now c.loop-child.child-index c.child-item.result c.loop-child-test.true c.child-item.is in
    λ found. elim c.match-child.branch [
      | search::search-in-Element+else-search w ↦ element-next _ _ c.loop-child.child-index w.in-Element.inner (item ∙ ap Some w.in-Element.is)
          (λ p. contra _ (w.search.ensures.1 (search-same c.args.steps.now (Next c.args.steps.now (Has c.args.reached.now) c.args.context.now.root.now w.in-Element.inner) (Has w.advance-next.result) c.args.context.now.root.now w.in-Element.inner c.args.wanted.now (λ j. (w.advance-next.ensures j).1) p)) w.if-search.false)
          (c.loop-child.invariant found)
      | search::search-in-Text w ↦ text-next _ _ c.loop-child.child-index _ (item ∙ ap Some w.in-Text.is) (c.loop-child.invariant found)
    ]

pub first::first-returns-clause-some : goal.first::first-returns-clause-some
first::first-returns-clause-some t c =
    if_some _ (λ f. IsShallow f × PathFindsWanted (path_of c.args.path.now) c.args.context.now.root.now c.args.at.now (exactly f)) c.first_from-2.result
    (λ f (shallow, found). (shallow, rooted_out c.args.path.now c.as_slice-steps.result.now (Has c.only-start.result) (Has c.advance-reached.result) c.args.context.now.root.now c.args.at.now (exactly f) c.if-not-path.false c.as_slice-steps.ensures c.only-start.ensures c.advance-reached.ensures found)) c.first_from-2.ensures.some

pub first::first-returns-clause-none : goal.first::first-returns-clause-none
first::first-returns-clause-none t c =
    if_none _ (PathFindsWanted (path_of c.args.path.now) c.args.context.now.root.now c.args.at.now anything → ⊥) c.first_from-2.result
    (λ none found. none (rooted_in c.args.path.now c.as_slice-steps.result.now (Has c.only-start.result) (Has c.advance-reached.result) c.args.context.now.root.now c.args.at.now anything c.if-not-path.false c.as_slice-steps.ensures c.only-start.ensures c.advance-reached.ensures (sym c.is_empty.ensures ∙ c.if-is_empty.false) found)) c.first_from-2.ensures.none

pub first::first_from-has-requires : goal.first::first_from-has-requires
first::first_from-has-requires t c = omega (arith, fewer c.args.steps.now, c.requires.small)

pub first::first_from-returns-then-has-clause-some : goal.first::first_from-returns-then-has-clause-some
first::first_from-returns-then-has-clause-some t c = (
  omega (arith, c.requires.ready.shallow, c.requires.inside),
  search-here c.args.steps.now (Has c.args.reached.now) c.args.context.now.root.now c.args.at.now (exactly (places.Element c.args.at)) (c.has.ensures.0 c.if-has.true) refl,
)

pub first::first_from-returns-in-Some-clause-some : goal.first::first_from-returns-in-Some-clause-some
first::first_from-returns-in-Some-clause-some t c = (
  c.in-Some.ensures.some.0,
  search-own c.args.steps.now (Has c.args.reached.now) c.args.context.now.root.now c.args.at.now (exactly c.in-Some.found) (c.in-Some.ensures.some.1 c.args.context.now.root.now),
)

pub first::first_from-loop-child-init : goal.first::first_from-loop-child-init
first::first_from-loop-child-init t c =
    λ found. elim (search-in c.args.steps.now (Has c.args.reached.now) c.args.context.now.root.now c.args.at.now anything found) [
      | inl here ↦ absurd (contra _ (c.has.ensures.1 here.0) c.if-has.false)
      | inr rest ↦ (elim rest [
        | inl own ↦ absurd (c.in_default.ensures.none c.args.context.now.root.now own)
        | inr below ↦ subst (λ ns. OneOf (λ x. SearchFinds c.args.steps.now (Next c.args.steps.now (Has c.args.reached.now) c.args.context.now.root.now x) c.args.context.now.root.now x anything) (elements_in ns)) (sym c.as_slice-child-items.ensures) below
      ])
    ]

pub first::first_from-returns-in-Some-first_from-clause-some : goal.first::first_from-returns-in-Some-first_from-clause-some
first::first_from-returns-in-Some-first_from-clause-some t c =
    let at = read c.as_slice-child-items.result.now c.loop-child.child-index c.child-item.result c.loop-child-test.true c.child-item.is ∙ ap Some c.in-Element.is in
    let w = exactly c.in-Some-first_from.found in
    let found = search-same c.args.steps.now (Has c.advance-next.result) (Next c.args.steps.now (Has c.args.reached.now) c.args.context.now.root.now c.in-Element.inner) c.args.context.now.root.now c.in-Element.inner w (λ j. (c.advance-next.ensures j).0) c.in-Some-first_from.ensures.some.1 in (
      c.in-Some-first_from.ensures.some.0,
      search-children c.args.steps.now (Has c.args.reached.now) c.args.context.now.root.now c.args.at.now w
          (subst (λ ns. OneOf (λ x. SearchFinds c.args.steps.now (Next c.args.steps.now (Has c.args.reached.now) c.args.context.now.root.now x) c.args.context.now.root.now x w) (elements_in ns)) c.as_slice-child-items.ensures
          (element-one (λ x. SearchFinds c.args.steps.now (Next c.args.steps.now (Has c.args.reached.now) c.args.context.now.root.now x) c.args.context.now.root.now x w) _ c.loop-child.child-index c.in-Element.inner at found)),
    )

pub first::first_from-loop-child-preserved : goal.first::first_from-loop-child-preserved
first::first_from-loop-child-preserved t c =
    let item = read c.as_slice-child-items.result.now c.loop-child.child-index c.child-item.result c.loop-child-test.true c.child-item.is in
    λ found. elim c.match-child.branch [
      | first::first_from-in-Element+in_default-first_from w ↦ element-next _ _ c.loop-child.child-index w.in-Element.inner (item ∙ ap Some w.in-Element.is)
          (λ p. w.in_default-first_from.ensures.none (search-same c.args.steps.now (Next c.args.steps.now (Has c.args.reached.now) c.args.context.now.root.now w.in-Element.inner) (Has w.advance-next.result) c.args.context.now.root.now w.in-Element.inner anything (λ j. (w.advance-next.ensures j).1) p))
          (c.loop-child.invariant found)
      | first::first_from-in-Text w ↦ text-next _ _ c.loop-child.child-index _ (item ∙ ap Some w.in-Text.is) (c.loop-child.invariant found)
    ]

pub first::first_from-returns-clause-none : goal.first::first_from-returns-clause-none
first::first_from-returns-clause-none t c =
    λ found. subst (λ ns. OneOf (λ x. SearchFinds c.args.steps.now (Next c.args.steps.now (Has c.args.reached.now) c.args.context.now.root.now x) c.args.context.now.root.now x anything) (elements_in ns))
    (past-end c.as_slice-child-items.result.now c.loop-child.child-index (omega (arith, c.loop-child-test.false))) (c.loop-child.invariant found)

pub found::found_from-loop-child-init : goal.found::found_from-loop-child-init
found::found_from-loop-child-init t c =
    let plan = newest c.args.plan.now in record {
      sound = λ i x at asked has. found_own plan i x c.args.root.now c.args.at.now (before plan i x c.requires.made (stage_get c.args.plan.now i x at)) ((c.own-found.ensures i x at asked).0 has);
      complete = λ i x at asked finds. elim (found_in plan i x c.args.root.now c.args.at.now (before plan i x c.requires.made (stage_get c.args.plan.now i x at)) finds) [
        | inl owns ↦ inl ((c.own-found.ensures i x at asked).1 owns)
        | inr below ↦ inr (subst (λ ns. OneOf (FromChildAt plan c.args.root.now i x) (elements_in ns)) (sym c.as_slice-child-items.ensures) below)
      ];
    }

pub found::found_from-returns-then-is_done : goal.found::found_from-returns-then-is_done
found::found_from-returns-then-is_done t c = λ i x at asked. (
  (λ has. c.loop-child.invariant.sound i x at asked has),
  (λ _. c.is_done.ensures c.if-is_done.true i (within c.args.plan.now i x at) asked),
)

pub found::found_from-loop-child-preserved : goal.found::found_from-loop-child-preserved
found::found_from-loop-child-preserved t c =
    let plan = newest c.args.plan.now in
    let item = read c.as_slice-child-items.result.now c.loop-child.child-index c.child-item.result c.loop-child-test.true c.child-item.is in
    elim c.match-child.branch [
      | found::found_from-in-Element+else-is_done w ↦
          (let at = item ∙ ap Some w.in-Element.is in
          record {
            sound = λ i x there asked has_new.
                let has = subst (λ p. Has p i) w.found-is has_new in
                elim (has_or_not c.loop-child.found i) [
                  | inl was ↦ c.loop-child.invariant.sound i x there asked was
                  | inr not ↦ found_child plan i x c.args.root.now c.args.at.now (before plan i x c.requires.made (stage_get c.args.plan.now i x there))
                      (subst (λ ns. OneOf (FromChildAt plan c.args.root.now i x) (elements_in ns)) c.as_slice-child-items.ensures
                      (element-one (FromChildAt plan c.args.root.now i x) _ c.loop-child.child-index w.in-Element.inner at ((w.visit_child.ensures.adds i x there asked not).0 has)))
                ];
            complete = λ i x there asked finds.
                elim (c.loop-child.invariant.complete i x there asked finds) [
                  | inl was ↦ inl (subst (λ p. Has p i) (sym w.found-is) (w.visit_child.ensures.keeps i x there asked was))
                  | inr one ↦ (elim (element-split (FromChildAt plan c.args.root.now i x) _ c.loop-child.child-index w.in-Element.inner at one) [
                    | inl from ↦ (elim (has_or_not c.loop-child.found i) [
                      | inl was ↦ inl (subst (λ p. Has p i) (sym w.found-is) (w.visit_child.ensures.keeps i x there asked was))
                      | inr not ↦ inl (subst (λ p. Has p i) (sym w.found-is) ((w.visit_child.ensures.adds i x there asked not).1 from))
                    ])
                    | inr later ↦ inr later
                  ])
                ];
          })
      | found::found_from-in-Text w ↦ record {
        sound = λ i x there asked has. c.loop-child.invariant.sound i x there asked (subst (λ p. Has p i) w.found-is has);
        complete = λ i x there asked finds. elim (c.loop-child.invariant.complete i x there asked finds) [
          | inl was ↦ inl (subst (λ p. Has p i) (sym w.found-is) was)
          | inr one ↦ inr (text-next _ _ c.loop-child.child-index _ (item ∙ ap Some w.in-Text.is) one)
        ];
      }
    ]

pub found::visit_child-returns-clause-keeps : goal.found::visit_child-returns-clause-keeps
found::visit_child-returns-clause-keeps t c = λ i x at asked was. (c.add_from_child.ensures i x at asked).1 (inl was)

pub found::visit_child-returns-clause-adds : goal.found::visit_child-returns-clause-adds
found::visit_child-returns-clause-adds t c = λ i x at asked not.
    let new = c.add_from_child.ensures i x at asked in
    let same = child_same c.args.plan.now (Has c.asked_of_child-below_asked.result) (Has c.found_from-below.result) (Has c.args.known.now) c.args.root.now c.args.child.now i x
    c.requires.made at (within c.args.plan.now i x at) (c.asked_of_child-below_asked.ensures i x at asked not) c.found_from-below.ensures c.requires.knows in (
      (λ has. elim (new.0 has) [ inl was ↦ absurd (not was) | inr from ↦ same.0 from ]),
      (λ from. new.1 (inr (same.1 from))),
    )

pub passes::add_from_child-loop-i-preserved : goal.passes::add_from_child-loop-i-preserved
passes::add_from_child-loop-i-preserved t c =
    skip_marked c.args.plan.now (Has c.args.asked.now) (Has c.args.found.now) (Has c.add_one.new.found) (FromChild (Has c.args.below.now) (Has c.args.known.now) c.args.root.now c.args.child.now) (c.loop-i.i + 1) c.next-i-in-loop-i.result
    c.next-i-in-loop-i.ensures.forward c.next-i-in-loop-i.ensures.skips
    (one_marked c.args.plan.now (Has c.args.asked.now) (Has c.args.found.now) (Has c.loop-i.found) (Has c.add_one.new.found) (FromChild (Has c.args.below.now) (Has c.args.known.now) c.args.root.now c.args.child.now) c.loop-i.i c.index-plan-i.result
    (read c.args.plan.now c.loop-i.i c.index-plan-i.result c.loop-i-test.true c.index-plan-i.is) c.add_one.ensures c.loop-i.invariant)

pub passes::add_from_child-returns : goal.passes::add_from_child-returns
passes::add_from_child-returns t c = all_marked c.args.plan.now (Has c.args.asked.now) (Has c.args.found.now) (Has c.loop-i.found) (FromChild (Has c.args.below.now) (Has c.args.known.now) c.args.root.now c.args.child.now) c.loop-i.i (omega (arith, c.loop-i-test.false)) c.loop-i.invariant

pub compare::differ-returns-then-finds : goal.compare::differ-returns-then-finds
compare::differ-returns-then-finds t c =
    others_decide (path_of c.args.path.now) (path_of c.args.other.now) c.args.context.now.root.now c.args.at.now c.in-Some.found c.in-Some-all_like.last c.all_like-then-finds.result c.is_none.result
    c.in-Some-all_like.ensures.some.0.1 (c.finds.ensures.0 c.if-finds.true) c.in-Some-all_like.ensures.some.1 c.all_like-then-finds.ensures.none c.all_like-then-finds.ensures.some c.is_none.ensures

pub alike::all_like-returns-then-is_empty-clause-none : goal.alike::all_like-returns-then-is_empty-clause-none
alike::all_like-returns-then-is_empty-clause-none t c =
    let steps = c.as_slice-steps.result.now in
    let root = c.args.context.now.root.now in
    let empty : steps_of steps ≡ arrived = no_steps steps (eqb-true (length steps) 0 (sym c.is_empty.ensures ∙ c.if-is_empty.true)) in
    if_none (string_of root ≢ text_found c.args.like) (PathFindsWanted (path_of c.args.path.now) root c.args.at.now (unlike c.args.like)) c.if_like.result
    (λ differs. subst (λ p. PathFindsWanted p root c.args.at.now (unlike c.args.like)) (sym (rooted c.args.path.now steps c.if-not-path.false c.as_slice-steps.ensures ∙ ap (path true) empty)) (string_of root, of_document root, differs))
    c.if_like.ensures.none

pub alike::all_like-returns-clause-some : goal.alike::all_like-returns-clause-some
alike::all_like-returns-clause-some t c =
    let w = unlike c.args.like in
    if_some _ (λ last. IsLike c.args.like last × (PathFindsWanted (path_of c.args.path.now) c.args.context.now.root.now c.args.at.now w → ⊥)) c.all_like_from-2.result
    (λ last (like, none). (like, λ found. none (rooted_in c.args.path.now c.as_slice-steps.result.now (Has c.only-start.result) (Has c.advance-reached.result) c.args.context.now.root.now c.args.at.now w c.if-not-path.false c.as_slice-steps.ensures c.only-start.ensures c.advance-reached.ensures (sym c.is_empty.ensures ∙ c.if-is_empty.false) found))) c.all_like_from-2.ensures.some

pub alike::all_like-returns-clause-none : goal.alike::all_like-returns-clause-none
alike::all_like-returns-clause-none t c =
    let w = unlike c.args.like in
    if_none _ (PathFindsWanted (path_of c.args.path.now) c.args.context.now.root.now c.args.at.now w) c.all_like_from-2.result
    (λ found. rooted_out c.args.path.now c.as_slice-steps.result.now (Has c.only-start.result) (Has c.advance-reached.result) c.args.context.now.root.now c.args.at.now w c.if-not-path.false c.as_slice-steps.ensures c.only-start.ensures c.advance-reached.ensures found) c.all_like_from-2.ensures.none

pub alike::all_like_from-returns-in_err-itself-clause-none : goal.alike::all_like_from-returns-in_err-itself-clause-none
alike::all_like_from-returns-in_err-itself-clause-none t c =
    none_so _ _ (search-here c.args.steps.now (Has c.args.reached.now) c.args.context.now.root.now c.args.at.now (unlike c.args.like) c.in_err-itself.ensures.none.0 c.in_err-itself.ensures.none.1)

pub alike::all_like_from-returns-in_err-last-clause-none : goal.alike::all_like_from-returns-in_err-last-clause-none
alike::all_like_from-returns-in_err-last-clause-none t c =
    none_so _ _ (search-own c.args.steps.now (Has c.args.reached.now) c.args.context.now.root.now c.args.at.now (unlike c.args.like)
    (owns_unlike c.args.steps.now (Has c.args.reached.now) c.args.context.now.root.now c.args.at.now c.args.like c.in_ok-itself.itself c.in_ok-itself.ensures.some.0.1 (c.in_err-last.ensures.none c.args.context.now.root.now)))

pub alike::all_like_from-loop-child-init : goal.alike::all_like_from-loop-child-init
alike::all_like_from-loop-child-init t c =
    let w = unlike c.args.like in
    record {
      like = (c.in_ok-last.ensures.some.0.0, c.in_ok-last.ensures.some.0.1 ∙ c.in_ok-itself.ensures.some.0.1);
      unseen = λ found. elim (search-in c.args.steps.now (Has c.args.reached.now) c.args.context.now.root.now c.args.at.now w found) [
        | inl here ↦ absurd (here.1 (c.in_ok-itself.ensures.some.1 here.0))
        | inr rest ↦ (elim rest [
          | inl own ↦ absurd (c.in_ok-last.ensures.some.1 c.args.context.now.root.now (owns_unlike c.args.steps.now (Has c.args.reached.now) c.args.context.now.root.now c.args.at.now c.in_ok-itself.itself c.args.like (sym c.in_ok-itself.ensures.some.0.1) own))
          | inr below ↦ subst (λ ns. OneOf (λ x. SearchFinds c.args.steps.now (Next c.args.steps.now (Has c.args.reached.now) c.args.context.now.root.now x) c.args.context.now.root.now x w) (elements_in ns)) (sym c.as_slice-child-items.ensures) below
        ])
      ];
    }

pub alike::all_like_from-returns-in_err-last-in-Element-clause-none : goal.alike::all_like_from-returns-in_err-last-in-Element-clause-none
alike::all_like_from-returns-in_err-last-in-Element-clause-none t c =
    let steps = c.args.steps.now in
    let root = c.args.context.now.root.now in
    let inner = c.in-Element.inner in
    let w = unlike c.args.like in
    let at = read c.as_slice-child-items.result.now c.loop-child.child-index c.child-item.result c.loop-child-test.true c.child-item.is ∙ ap Some c.in-Element.is in
    let found = search-same steps (Has c.advance-next.result) (Next steps (Has c.args.reached.now) root inner) root inner w (λ j. (c.advance-next.ensures j).0)
    (search_unlike steps (Has c.advance-next.result) root inner c.args.like c.loop-child.last c.loop-child.invariant.like.1 c.in_err-last-in-Element.ensures.none) in
    none_so _ _ (search-children steps (Has c.args.reached.now) root c.args.at.now w
    (subst (λ ns. OneOf (λ x. SearchFinds steps (Next steps (Has c.args.reached.now) root x) root x w) (elements_in ns)) c.as_slice-child-items.ensures
    (element-one (λ x. SearchFinds steps (Next steps (Has c.args.reached.now) root x) root x w) _ c.loop-child.child-index inner at found)))

pub alike::all_like_from-loop-child-preserved : goal.alike::all_like_from-loop-child-preserved
alike::all_like_from-loop-child-preserved t c =
    let steps = c.args.steps.now in
    let root = c.args.context.now.root.now in
    let w = unlike c.args.like in
    let item = read c.as_slice-child-items.result.now c.loop-child.child-index c.child-item.result c.loop-child-test.true c.child-item.is in
    elim c.match-child.branch [
      | alike::all_like_from-in-Element+in_ok-last-in-Element v ↦ record {
        like = subst (IsLike c.args.like) (sym v.last-is) (v.in_ok-last-in-Element.ensures.some.0.0, v.in_ok-last-in-Element.ensures.some.0.1 ∙ c.loop-child.invariant.like.1);
        unseen = λ found. element-next _ _ c.loop-child.child-index v.in-Element.inner (item ∙ ap Some v.in-Element.is)
            (λ p. v.in_ok-last-in-Element.ensures.some.1
            (search_unlike steps (Has v.advance-next.result) root v.in-Element.inner c.loop-child.last c.args.like (sym c.loop-child.invariant.like.1)
            (search-same steps (Next steps (Has c.args.reached.now) root v.in-Element.inner) (Has v.advance-next.result) root v.in-Element.inner w (λ j. (v.advance-next.ensures j).1) p)))
            (c.loop-child.invariant.unseen found);
      }
      | alike::all_like_from-in-Text v ↦ record {
        like = subst (IsLike c.args.like) (sym v.last-is) c.loop-child.invariant.like;
        unseen = λ found. text-next _ _ c.loop-child.child-index _ (item ∙ ap Some v.in-Text.is) (c.loop-child.invariant.unseen found);
      }
    ]

pub alike::all_like_from-advance-next-requires : goal.alike::all_like_from-advance-next-requires
alike::all_like_from-advance-next-requires t c =
    let deeper = child_falls c.args.at.now c.as_slice-child-items.result.now c.loop-child.child-index c.child-item.result c.in-Element.inner c.loop-child-test.true c.child-item.is c.in-Element.is c.as_slice-child-items.ensures in
    let inside = c.requires.inside in
    let size = size_of_guards c.args.guards.now in (
      omega (arith, c.decreases, falls-work-within c.args.context.now size size 0 (depth c.args.at.now + 1) (omega arith) (omega arith)),
      (c.requires.ready, (omega (arith, deeper, inside), (c.requires.guarded, c.requires.small))),
    )

pub alike::all_like_from-all_like_from-requires : goal.alike::all_like_from-all_like_from-requires
alike::all_like_from-all_like_from-requires t c =
    let deeper = child_falls c.args.at.now c.as_slice-child-items.result.now c.loop-child.child-index c.child-item.result c.in-Element.inner c.loop-child-test.true c.child-item.is c.in-Element.is c.as_slice-child-items.ensures in
    let inside = c.requires.inside in
    let size = size_of_guards c.args.guards.now in (
      omega (arith, c.decreases, falls-work-within c.args.context.now size size (depth c.in-Element.inner + 1) (depth c.args.at.now + 1) (omega arith) (omega (arith, deeper))),
      (c.loop-child.invariant.like.0, (c.requires.ready, (omega (arith, deeper, inside), (c.requires.guarded, c.requires.small)))),
    )
