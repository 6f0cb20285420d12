-- The front of a plan finds what the whole plan finds there.
use Rattle.std.proofs.Common.{◌≡◌, ◌<◌, ◌≤◌, ◌+◌, ◌⊎◌, ◌↔◌, inl, inr, ℕ, zero, suc, true, List, [], ◌∷◌, Some, length, take, drop, sym, ◌∙◌, ap, subst, arith}
use Rattle.std.proofs.lemmas.List.{take-append-drop, length-take-le}
use Rattle.std.specs.List.{slice_get}
use Rattle.voe_tree.specs.declared.element.Element.{Element}
use Rattle.path_filter.proofs.Known.{KnownBelow}
use Rattle.path_filter.specs.Places.{document}
use Rattle.path_filter.specs.Plan.{Check, Checks, any_of, all_of, not_so, here, anywhere, compared, no_more, more, At, newest, newest_onto, stage_at, stage_checks, IsOfDocument, IsMade, StagesAreSmall, Knows, CheckRefers, ChecksRefer, NextRefers, CheckIsSmall, ChecksAreSmall, NextIsSmall, StageRefers}
use Rattle.path_filter.specs.Planned.{LastOfDocument}
use Rattle.path_filter.specs.declared.plan.Next.{Next}
use Rattle.path_filter.specs.declared.plan.Next.TheVariants as next
use Rattle.path_filter.specs.declared.plan.Stage.{Stage}
use Rattle.path_filter.proofs.SearchSteps.{below-more, from-place}
use Rattle.path_filter.proofs.PlaceLaws.{same_some}
use Rattle.path_filter.proofs.PlanLaws.{at_onto, stage_onto, stage_get, newest_length, newest_more, document_within}
use Rattle.path_filter.proofs.Measures.{size_of_checks, weight}

whole : (plan : List Stage) (n : ℕ) → newest plan ≡ newest_onto (newest (take n plan)) (drop n plan)
whole plan n = ap newest (sym (take-append-drop n plan)) ∙ newest_more (take n plan) (drop n plan) []

made_onto : (ys before : List Stage) → IsMade (newest_onto before ys) → IsMade before
made_onto [] before made = made
made_onto (y ∷ ys) before made = (made_onto ys (y ∷ before) made).1

pub made_front : (plan : List Stage) (n : ℕ) → IsMade (newest plan) → IsMade (newest (take n plan))
made_front plan n made = made_onto (drop n plan) (newest (take n plan)) (subst IsMade (whole plan n) made)

pub small_front : (plan : List Stage) (n : ℕ) → StagesAreSmall plan → StagesAreSmall (take n plan)
small_front [] zero small = tt
small_front [] (suc n) small = tt
small_front (x ∷ plan) zero small = tt
small_front (x ∷ plan) (suc n) small = (small.0, small_front plan n small.1)

pub front_length : (plan : List Stage) (n : ℕ) → n ≤ length plan → length (newest (take n plan)) ≡ n
front_length plan n le = newest_length (take n plan) [] ∙ (let l = length-take-le n plan le in omega (arith, l))

at_front : (plan : List Stage) (n : ℕ) (root : Element) (j : ℕ) (e : Element) → n ≤ length plan → j < n → At (newest plan) root j e ≡ At (newest (take n plan)) root j e
at_front plan n root j e le lt = ap (λ p. At p root j e) (whole plan n) ∙ at_onto (drop n plan) (newest (take n plan)) root j e (omega (arith, lt, front_length plan n le))

stage_front : (plan : List Stage) (n j : ℕ) → n ≤ length plan → j < n → stage_at (newest plan) j ≡ stage_at (newest (take n plan)) j
stage_front plan n j le lt = ap (λ p. stage_at p j) (whole plan n) ∙ stage_onto (drop n plan) (newest (take n plan)) j (omega (arith, lt, front_length plan n le))

both_ways : (A B : Type 0) → A ≡ B → A ↔ B
both_ways A B is = ((λ a. subst (λ X. X) is a), (λ b. subst (λ X. X) (sym is) b))

pub knows_front : (plan : List Stage) (i : ℕ) (Known : ℕ → Type 0) (root : Element) → i < length plan → KnownBelow i Known (newest plan) root → Knows Known (newest (take (i + 1) plan)) root
knows_front plan i Known root lt below = λ j small (x, at, is).
    let few = front_length plan (i + 1) (omega (arith, lt)) in
    let in_whole = stage_front plan (i + 1) j (omega (arith, lt)) (omega (arith, small, few)) in
    let right = below.right j (omega (arith, small, few)) (x, in_whole ∙ at, is) in
    let same = both_ways _ _ (at_front plan (i + 1) root j (document root) (omega (arith, lt)) (omega (arith, small, few))) in
    ((λ k. same.0 (right.0 k)), (λ a. right.1 (same.1 a)))

pub one_known : (plan : List Stage) (i : ℕ) (y : Stage) (Old New : ℕ → Type 0) (root : Element) → slice_get plan i ≡ Some y → i < length plan
    → ((k : ℕ) → New k ↔ (Old k ⊎ ((k ≡ i) × (y.of_document ≡ true) × At (newest (take (i + 1) plan)) root i (document root))))
    → KnownBelow i Old (newest plan) root → KnownBelow (i + 1) New (newest plan) root
one_known plan i y Old New root at lt new old = record {
  right = λ j small of_document. elim (below-more j i small) [
    | inl same ↦
        (let here = both_ways _ _ (at_front plan (i + 1) root i (document root) (omega (arith, lt)) (omega arith)) in (
          (λ h. elim ((new j).0 h) [
            | inl was ↦ absurd (old.none j (omega (arith, same)) was)
            | inr good ↦ subst (λ n. At (newest plan) root n (document root)) (sym same) (here.1 good.2)
          ]),
          (λ h. (new j).1 (inr (same, flagged (subst (IsOfDocument (newest plan)) same of_document), here.0 (subst (λ n. At (newest plan) root n (document root)) same h)))),
        ))
    | inr less ↦
        (let right = old.right j less of_document in (
          (λ h. elim ((new j).0 h) [ inl was ↦ right.0 was | inr good ↦ absurd (omega (arith, less, good.0)) ]),
          (λ h. (new j).1 (inl (right.1 h))),
        ))
  ];
  none = λ j le h. elim ((new j).0 h) [ inl was ↦ old.none j (omega (arith, le)) was | inr good ↦ absurd (omega (arith, le, good.0)) ];
}
  where
    flagged : IsOfDocument (newest plan) i → y.of_document ≡ true
    flagged (x, there, is) = let same = same_some (stage_at (newest plan) i) x y there (stage_get plan i y at) in subst (λ z. z.of_document ≡ true) same is

-- the front before a stage knows all its paths from the document
pub front_knows : (plan : List Stage) (i : ℕ) (Known : ℕ → Type 0) (root : Element) → i < length plan → Knows Known (newest plan) root
    → (j : ℕ) → IsOfDocument (newest (take i plan)) j → Known j ↔ At (newest (take i plan)) root j (document root)
front_knows plan i Known root lt knows j (x, at, is) =
    let le : i ≤ length plan = omega (arith, lt) in
    let small : j < i = omega (arith, document_within (newest (take i plan)) j (x, at, is), front_length plan i le) in
    let right = knows j (omega (arith, small, lt, newest_length plan [])) (x, stage_front plan i j le small ∙ at, is) in
    let same = both_ways _ _ (at_front plan i root j (document root) le small) in
    ((λ k. same.0 (right.0 k)), (λ a. right.1 (same.1 a)))

-- a stage refers to the front before it
pub refers_front : (plan : List Stage) (i : ℕ) (x : Stage) → IsMade (newest plan) → slice_get plan i ≡ Some x → StageRefers (newest (take i plan)) x
refers_front plan i x made at = (made_onto (drop (i + 1) plan) (x ∷ newest (take i plan)) (subst IsMade (whole plan i ∙ ap (newest_onto (newest (take i plan))) (from-place plan i x at)) made)).0

pub front_weight : (plan : List Stage) (i : ℕ) (x : Stage) → slice_get plan i ≡ Some x → weight (take i plan) + size_of_checks (stage_checks x) + 4 ≤ weight plan
front_weight [] i x at = absurd (let bad : ⊥ = cc in bad)
front_weight (y ∷ plan) zero x at =
    let same : y ≡ x = cc in
    let size = ap (λ z. size_of_checks (stage_checks z)) same in
    omega (arith, size)
front_weight (y ∷ plan) (suc i) x at = omega (arith, front_weight plan i x at)

pub all_known : (plan : List Stage) (n : ℕ) (Known : ℕ → Type 0) (root : Element) → length plan ≤ n → KnownBelow n Known (newest plan) root
    → (j : ℕ) → IsOfDocument (newest plan) j → Known j ↔ At (newest plan) root j (document root)
all_known plan n Known root le below j of_document = below.right j (omega (arith, document_within (newest plan) j of_document, newest_length plan [])) of_document

-- ---- positions of a plan are small

mutual
  pub refers_small : (earlier : List Stage) (k : Check) → length earlier ≤ 512 → CheckRefers earlier k → CheckIsSmall k
  refers_small earlier (any_of ks) few r = refer_small earlier ks few r
  refers_small earlier (all_of ks) few r = refer_small earlier ks few r
  refers_small earlier (not_so k) few r = refers_small earlier k few r
  refers_small earlier (here i) few r = omega (arith, r, few)
  refers_small earlier (anywhere i) few r = omega (arith, r.0, few)
  refers_small earlier (compared a how b) few r = tt

  refer_small : (earlier : List Stage) (ks : Checks) → length earlier ≤ 512 → ChecksRefer earlier ks → ChecksAreSmall ks
  refer_small earlier no_more few r = tt
  refer_small earlier (more k ks) few r = (refers_small earlier k few r.0, refer_small earlier ks few r.1)

next_small : (earlier : List Stage) (x : Next) → length earlier ≤ 512 → NextRefers earlier x → NextIsSmall x
next_small earlier (next.On i) few r = omega (arith, r, few)
next_small earlier (next.Ends w) few r = tt

small_onto : (ys before : List Stage) → length before + length ys ≤ 512 → IsMade (newest_onto before ys) → StagesAreSmall ys
small_onto [] before few made = tt
small_onto (y ∷ ys) before few made =
    let here_made = made_onto ys (y ∷ before) made in
    let enough : length before ≤ 512 = omega (arith, few) in
    ((refer_small before (stage_checks y) enough here_made.0.0, next_small before y.next enough here_made.0.1), small_onto ys (y ∷ before) (omega (arith, few)) made)

pub made_small : (plan : List Stage) → length plan ≤ 512 → IsMade (newest plan) → StagesAreSmall plan
made_small plan few made = small_onto plan [] (omega (arith, few)) made

pub document_of_last : (plan : List Stage) (i : ℕ) → suc i ≡ length plan → LastOfDocument plan → IsOfDocument plan i
document_of_last [] i is d = absurd (omega (arith, is))
document_of_last (x ∷ plan) i is d = (let same : length plan ≡ i = omega (arith, is) in subst (IsOfDocument (x ∷ plan)) same d)
