-- The checks that stand for the conditions of a path's steps.
use Rattle.std.proofs.Common.{◌≡◌, ◌<◌, ◌+◌, ◌↔◌, ℕ, zero, suc, List, [], ◌∷◌, ◌++◌, Some, length, map, refl, sym, ap, subst, arith}
use Rattle.std.specs.List.{slice_get}
use Rattle.voe_tree.specs.declared.element.Element.{Element}
use Rattle.filter_text.specs.Filter.{Part, element, attribute, Steps, step}
use Rattle.filter_text.specs.View.{axis_of, part_of, test_of, conditions_of, condition_of, front_of, steps_of}
use Rattle.filter_text.specs.declared.filter.Step.{Step}
use Rattle.path_filter.specs.SearchParts.{Goes}
use Rattle.path_filter.specs.Meaning.{MeetsName}
use Rattle.path_filter.specs.Places.{document}
use Rattle.path_filter.specs.Plan.{Check, Checks, no_more, more, AreGuards, At, CheckAsks, CheckHolds, CheckRefers, IsOfDocument, StandsFor, check_of, checks_of, newest}
use Rattle.path_filter.specs.Search.{Each}
use Rattle.path_filter.specs.declared.plan.Check.{Check as CodeCheck}
use Rattle.path_filter.specs.declared.plan.Stage.{Stage}
use Rattle.path_filter.proofs.PlanLaws.{both_asks, check_same, get, newest_length, refers_sees}
use Rattle.path_filter.proofs.Views.{front-out}
use Rattle.path_filter.proofs.Measures.{size_of_check, size_of_checks, size_of_guards}

-- the guards of a step and others
opened : (plan : List Stage) (x : Step) (ss : Steps) (ks : Checks) → AreGuards plan (front_of x ss) ks
    → AreGuards plan (step (axis_of x.axis) (part_of x.part) (test_of x.test) (conditions_of (map condition_of x.conditions)) ss) ks
opened plan x ss ks g = subst (λ f. AreGuards plan (f ss) ks) (front-out x) g

pub guards_length : (plan : List Stage) (ss : List Step) (ks : List CodeCheck) → AreGuards plan (steps_of ss) (checks_of (map check_of ks)) → length ks ≡ length ss
guards_length plan [] [] g = refl
guards_length plan [] (k ∷ ks) g = absurd g
guards_length plan (x ∷ ss) [] g = absurd (opened plan x (steps_of ss) no_more g)
guards_length plan (x ∷ ss) (k ∷ ks) g = ap suc (guards_length plan ss ks (opened plan x (steps_of ss) (checks_of (map check_of (k ∷ ks))) g).2)

pub record GuardAt (plan : List Stage) (x : Step) (k : CodeCheck) (size : ℕ) : Type 0 where
  pub refers : CheckRefers plan (check_of k)
  pub stands : StandsFor plan (check_of k) (conditions_of (map condition_of x.conditions))
  pub smaller : size_of_check (check_of k) + 1 < size

pub some_checks : (ks : Checks) → 0 < size_of_checks ks
some_checks no_more = omega arith
some_checks (more k ks) = omega arith

pub guard_at : (plan : List Stage) (ss : List Step) (ks : List CodeCheck) (i : ℕ) (x : Step) (k : CodeCheck) → AreGuards plan (steps_of ss) (checks_of (map check_of ks))
    → slice_get ss i ≡ Some x → slice_get ks i ≡ Some k → GuardAt plan x k (size_of_guards ks)
guard_at plan [] ks i x k g at there = absurd (let bad : ⊥ = cc in bad)
guard_at plan (y ∷ ss) [] i x k g at there = absurd (opened plan y (steps_of ss) no_more g)
guard_at plan (y ∷ ss) (j ∷ ks) zero x k g at there =
    let same : y ≡ x = cc in
    let equal : j ≡ k = cc in
    let first = opened plan y (steps_of ss) (checks_of (map check_of (j ∷ ks))) g in
    let refers = subst (λ z. CheckRefers plan (check_of z)) equal first.0 in
    let stands = subst (λ z. StandsFor plan (check_of k) (conditions_of (map condition_of z.conditions))) same (subst (λ z. StandsFor plan (check_of z) (conditions_of (map condition_of y.conditions))) equal first.1) in
    let size = ap (λ z. size_of_check (check_of z)) equal in
    record { refers = refers; stands = stands; smaller = omega (arith, size, some_checks (checks_of (map check_of ks))) }
guard_at plan (y ∷ ss) (j ∷ ks) (suc i) x k g at there =
    let later = guard_at plan ss ks i x k (opened plan y (steps_of ss) (checks_of (map check_of (j ∷ ks))) g).2 at there in
    record { refers = later.refers; stands = later.stands; smaller = omega (arith, later.smaller) }

pub guards_snoc : (plan : List Stage) (ss : List Step) (ks : List Check) (x : Step) (k : Check) → AreGuards plan (steps_of ss) (checks_of ks) → CheckRefers plan k
    → StandsFor plan k (conditions_of (map condition_of x.conditions)) → AreGuards plan (steps_of (ss ++ x ∷ [])) (checks_of (ks ++ k ∷ []))
guards_snoc plan [] [] x k g refers stands = subst (λ f. AreGuards plan (f (steps_of [])) (more k no_more)) (sym (front-out x)) (refers, stands, tt)
guards_snoc plan [] (j ∷ ks) x k g refers stands = absurd g
guards_snoc plan (y ∷ ss) [] x k g refers stands = absurd (opened plan y (steps_of ss) no_more g)
guards_snoc plan (y ∷ ss) (j ∷ ks) x k g refers stands =
    let first = opened plan y (steps_of ss) (checks_of (j ∷ ks)) g in
    subst (λ f. AreGuards plan (f (steps_of (ss ++ x ∷ []))) (more j (checks_of (ks ++ k ∷ [])))) (sym (front-out y)) (first.0, first.1, guards_snoc plan ss ks x k first.2 refers stands)

-- ---- where a step goes

pub goes_in : (x : Step) (rest : Steps) (root e : Element) → Goes (front_of x rest) root e
    → (part_of x.part ≡ element) × MeetsName (test_of x.test) e.space e.local × Each (conditions_of (map condition_of x.conditions)) root e
goes_in x rest root e goes = by (part_of x.part) (subst (λ f. Goes (f rest) root e) (front-out x) goes)
  where
    by : (part : Part) → Goes (step (axis_of x.axis) part (test_of x.test) (conditions_of (map condition_of x.conditions)) rest) root e
        → (part ≡ element) × MeetsName (test_of x.test) e.space e.local × Each (conditions_of (map condition_of x.conditions)) root e
    by element goes = (refl, goes.0, goes.1)
    by attribute goes = absurd goes

pub goes_out : (x : Step) (rest : Steps) (root e : Element) → (part_of x.part ≡ attribute → ⊥) → MeetsName (test_of x.test) e.space e.local → Each (conditions_of (map condition_of x.conditions)) root e
    → Goes (front_of x rest) root e
goes_out x rest root e never meets each = subst (λ f. Goes (f rest) root e) (sym (front-out x)) (by (part_of x.part) never)
  where
    by : (part : Part) → (part ≡ attribute → ⊥) → Goes (step (axis_of x.axis) part (test_of x.test) (conditions_of (map condition_of x.conditions)) rest) root e
    by element never = (meets, each)
    by attribute never = absurd (never refl)

-- ---- what a guard decides

pub guard_holds : (plan : List Stage) (Asked Here Known : ℕ → Type 0) (root e : Element) (k : Check) → CheckRefers (newest plan) k → CheckAsks Asked k
    → ((i : ℕ) (x : Stage) → slice_get plan i ≡ Some x → Asked i → Here i ↔ At (newest plan) root i e)
    → ((j : ℕ) → IsOfDocument (newest plan) j → Known j ↔ At (newest plan) root j (document root))
    → CheckHolds Here Known root e k ↔ CheckHolds (λ j. At (newest plan) root j e) (λ j. At (newest plan) root j (document root)) root e k
guard_holds plan Asked Here Known root e k refers asks found knows =
    check_same Here (λ j. At (newest plan) root j e) Known (λ j. At (newest plan) root j (document root)) root e k
    (both_asks Asked (λ j. Here j ↔ At (newest plan) root j e) (newest plan) (λ j lt asked. let y = get plan j (omega (arith, lt, newest_length plan [])) in found j y.0 y.1 asked) k asks refers)
    (refers_sees (λ j. Known j ↔ At (newest plan) root j (document root)) (newest plan) (λ j lt of_document. knows j of_document) k refers)
