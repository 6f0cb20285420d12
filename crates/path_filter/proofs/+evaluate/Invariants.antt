use Rattle.std.proofs.Common.{◌≡◌, ◌⊎◌, ◌↔◌, ◌<◌, ◌+◌, ◌-◌, ◌*◌, ℕ, Some, drop, length}
use Rattle.std.specs.List.{slice_get}
use Rattle.filter_text.specs.Filter.{Steps}
use Rattle.filter_text.specs.View.{front_of, steps_of, test_of}
use Rattle.voe_tree.specs.Contents.{elements_in}
use Rattle.voe_tree.specs.Shape.{depth}
use Rattle.path_filter.specs.SearchParts.{SearchFinds, OwnAttribute, Next, NextBelow}
use Rattle.path_filter.proofs.Marks.{MarkedBelow}
use Rattle.path_filter.specs.Meaning.{MeetsName}
use Rattle.path_filter.specs.Plan.{At, FromChild, check_of, newest, stage_checks}
use Rattle.path_filter.specs.Positions.{Has}
use Rattle.path_filter.specs.Search.{OneOf, after}
use Rattle.path_filter.specs.Wanted.{IsLike, Suits, anything, unlike}
use Rattle.path_filter.specs.declared.plan.Stage.{Stage}
use Rattle.path_filter.proofs.PlanLaws.{FromChildAt}
use Rattle.path_filter.proofs.+evaluate.Given as goal
use Rattle.path_filter.proofs.Measures.{rank, size_of_check, size_of_checks, size_of_guards, size_of_wanted, weight, work}

abbrev pub decreases-visit::check_holds : goal.decreases-visit::check_holds
decreases-visit::check_holds l = work l.context.now (size_of_check (check_of l.check.now)) 0

abbrev pub decreases-visit::each_holds : goal.decreases-visit::each_holds
decreases-visit::each_holds l = work l.context.now (size_of_guards l.checks.now) 0

abbrev pub decreases-visit::one_holds : goal.decreases-visit::one_holds
decreases-visit::one_holds l = work l.context.now (size_of_guards l.checks.now) 0

abbrev pub decreases-visit::arrives : goal.decreases-visit::arrives
decreases-visit::arrives l = work l.context.now (size_of_checks (stage_checks l.stage.now) + 1) 0

abbrev pub decreases-visit::is_from_child : goal.decreases-visit::is_from_child
decreases-visit::is_from_child l = work l.context.now (size_of_checks (stage_checks l.stage.now) + 2) 0

abbrev pub decreases-passes::add_one : goal.decreases-passes::add_one
decreases-passes::add_one l = work l.context.now (size_of_checks (stage_checks l.stage.now) + 3) 0

abbrev pub decreases-passes::add_from_child : goal.decreases-passes::add_from_child
decreases-passes::add_from_child l = rank (weight l.plan.now) (2 * depth l.child.now) l.root.now

abbrev pub decreases-found::found_from : goal.decreases-found::found_from
decreases-found::found_from l = rank (weight l.plan.now) (2 * depth l.at.now) l.root.now

abbrev pub decreases-found::visit_child : goal.decreases-found::visit_child
decreases-found::visit_child l = rank (weight l.plan.now) (2 * depth l.child.now + 1) l.root.now

abbrev pub decreases-compare::compares : goal.decreases-compare::compares
decreases-compare::compares l = work l.context.now (size_of_guards l.left.now.guards + size_of_guards l.right.now.guards + 6) 0

abbrev pub decreases-compare::differ : goal.decreases-compare::differ
decreases-compare::differ l = work l.context.now (size_of_guards l.guards.now + size_of_guards l.other_guards.now + 5) 0

abbrev pub decreases-compare::relates : goal.decreases-compare::relates
decreases-compare::relates l = work l.context.now (size_of_guards l.side.now.guards + 2) 0

abbrev pub decreases-first::first : goal.decreases-first::first
decreases-first::first l = work l.context.now (size_of_guards l.guards.now + 1) 0

abbrev pub decreases-first::first_from : goal.decreases-first::first_from
decreases-first::first_from l = work l.context.now (size_of_guards l.guards.now) (depth l.at.now + 1)

abbrev pub decreases-alike::all_like : goal.decreases-alike::all_like
decreases-alike::all_like l = work l.context.now (size_of_guards l.guards.now + 1) 0

abbrev pub decreases-alike::all_like_from : goal.decreases-alike::all_like_from
decreases-alike::all_like_from l = work l.context.now (size_of_guards l.guards.now) (depth l.at.now + 1)

abbrev pub decreases-search::finds : goal.decreases-search::finds
decreases-search::finds l = work l.context.now (size_of_guards l.guards.now + size_of_wanted l.wanted.now + 1) 0

abbrev pub decreases-search::search : goal.decreases-search::search
decreases-search::search l = work l.context.now (size_of_guards l.guards.now + size_of_wanted l.wanted.now) (depth l.at.now + 1)

abbrev pub decreases-search::advance : goal.decreases-search::advance
decreases-search::advance l = work l.context.now (size_of_guards l.guards.now) 0

abbrev pub decreases-search::goes : goal.decreases-search::goes
decreases-search::goes l = work l.context.now (size_of_check (check_of l.guard.now) + 1) 1

abbrev pub decreases-search::admits : goal.decreases-search::admits
decreases-search::admits l = work l.context.now (size_of_check (check_of l.guard.now) + 1) 0

abbrev pub decreases-search::own_attributes : goal.decreases-search::own_attributes
decreases-search::own_attributes l = work l.context.now (size_of_wanted l.wanted.now) 2

abbrev pub decreases-search::own_attribute : goal.decreases-search::own_attribute
decreases-search::own_attribute l = work l.context.now (size_of_wanted l.wanted.now) 1

abbrev pub decreases-search::suits : goal.decreases-search::suits
decreases-search::suits l = work l.context.now (size_of_wanted l.wanted.now) 0

abbrev pub invariant-search::advance-loop-i : goal.invariant-search::advance-loop-i
invariant-search::advance-loop-i l = (j : ℕ) → Has l.next j ↔ NextBelow l.i l.steps (Has l.reached) l.context.root.now l.at j

-- What is found is found at an attribute that is not yet seen.
abbrev pub invariant-search::own_attribute-loop-attribute : goal.invariant-search::own_attribute-loop-attribute
invariant-search::own_attribute-loop-attribute l =
    (rest : Steps) → OwnAttribute (front_of l.step rest) l.context.root.now l.at l.wanted
    → OneOf (λ a. MeetsName (test_of l.step.test) a.space a.local × Suits l.wanted l.context.root.now a.value) (drop l.attribute-index l.attribute-items)

abbrev pub invariant-search::own_attributes-loop-i : goal.invariant-search::own_attributes-loop-i
invariant-search::own_attributes-loop-i l = (k : ℕ) → Has l.reached k → k < l.i → OwnAttribute (after k (steps_of l.steps)) l.context.root.now l.at l.wanted → ⊥

-- What is found is found from a child that is not yet seen.
abbrev pub invariant-search::search-loop-child : goal.invariant-search::search-loop-child
invariant-search::search-loop-child l =
    SearchFinds l.steps (Has l.reached) l.context.root.now l.at l.wanted
    → OneOf (λ c. SearchFinds l.steps (Next l.steps (Has l.reached) l.context.root.now c) l.context.root.now c l.wanted) (elements_in (drop l.child-index l.child-items))

abbrev pub invariant-first::first_from-loop-child : goal.invariant-first::first_from-loop-child
invariant-first::first_from-loop-child l =
    SearchFinds l.steps (Has l.reached) l.context.root.now l.at anything
    → OneOf (λ c. SearchFinds l.steps (Next l.steps (Has l.reached) l.context.root.now c) l.context.root.now c anything) (elements_in (drop l.child-index l.child-items))

-- What is found so far is found from the element, and what is found from it is found so far or from a child not yet seen.
abbrev pub invariant-found::found_from-loop-child : goal.invariant-found::found_from-loop-child
invariant-found::found_from-loop-child l = record {
  sound : (i : ℕ) (x : Stage) → slice_get l.plan i ≡ Some x → Has l.asked i → Has l.found i → At (newest l.plan) l.root i l.at;
  complete : (i : ℕ) (x : Stage) → slice_get l.plan i ≡ Some x → Has l.asked i → At (newest l.plan) l.root i l.at
      → Has l.found i ⊎ OneOf (FromChildAt (newest l.plan) l.root i x) (elements_in (drop l.child-index l.child-items));
}

abbrev pub invariant-passes::add_from_child-loop-i : goal.invariant-passes::add_from_child-loop-i
invariant-passes::add_from_child-loop-i l = MarkedBelow l.i l.plan (Has l.asked) (Has l.fn.found) (Has l.found) (FromChild (Has l.below) (Has l.known) l.root l.child)

abbrev pub decreases-passes::add_from_child-loop-i : goal.decreases-passes::add_from_child-loop-i
decreases-passes::add_from_child-loop-i l = length l.plan - l.i

-- What differs is found from a child that is not yet seen.
abbrev pub invariant-alike::all_like_from-loop-child : goal.invariant-alike::all_like_from-loop-child
invariant-alike::all_like_from-loop-child l = record {
  like : IsLike l.fn.like l.last;
  unseen : SearchFinds l.steps (Has l.reached) l.context.root.now l.at (unlike l.fn.like)
      → OneOf (λ c. SearchFinds l.steps (Next l.steps (Has l.reached) l.context.root.now c) l.context.root.now c (unlike l.fn.like)) (elements_in (drop l.child-index l.child-items));
}
