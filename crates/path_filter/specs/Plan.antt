-- What the positions of a plan find.
use Rattle.std.specs.Prelude.{◌≡◌, ◌↔◌, ℕ, suc, ◌+◌, ◌<◌, ◌≤◌, ◌⊎◌, ◌==◌, true, if◌then◌else◌, List, [], ◌∷◌, Option, Some, None, map, length}
use Rattle.std.specs.Bool.{MatchBool}
use Rattle.voe_tree.specs.Contents.{string_of}
use Rattle.voe_tree.specs.declared.element.Element.{Element}
use Rattle.filter_text.specs.Filter.{Text, Axis, descendant, element, attribute, Comparison, Path, path, Steps, arrived, step, Conditions, Operand, found}
use Rattle.filter_text.specs.Filter as filter
use Rattle.filter_text.specs.Size.{steps_in_operand}
use Rattle.filter_text.specs.View.{axis_of, comparison_of, operand_of, part_of, test_of}
use Rattle.path_filter.specs.Places.{document, element_below}
use Rattle.path_filter.specs.Meaning.{Holder, Leads, MeetsName, Related}
use Rattle.path_filter.specs.Search.{Each, Finds, Is, OneOf}
use Rattle.path_filter.specs.declared.plan.Sought.{Sought}
use Rattle.path_filter.specs.declared.plan.Sought.TheVariants as sought
use Rattle.path_filter.specs.declared.plan.Next.{Next}
use Rattle.path_filter.specs.declared.plan.Next.TheVariants as next
use Rattle.path_filter.specs.declared.plan.Check.{Check as CodeCheck, fold-Check}
use Rattle.path_filter.specs.declared.plan.Check.TheOpen.{Check-F, Side-F}
use Rattle.path_filter.specs.declared.plan.Side.{Side as CodeSide, fold-Side}
use Rattle.path_filter.specs.declared.plan.Stage.{Stage}

-- ---- conditions as data

mutual
  pub data Check : Type 0 where
    any_of : Checks → Check
    all_of : Checks → Check
    not_so : Check → Check
    here : ℕ → Check
    anywhere : ℕ → Check
    compared : Side → Comparison → Side → Check

  -- an operand, with a check in place of the conditions of each step of its path
  pub data Side : Type 0 where
    side : Operand → Checks → Side

  pub data Checks : Type 0 where
    no_more : Checks
    more : Check → Checks → Checks

abbrev pub checks_of : List Check → Checks
checks_of [] = no_more
checks_of (k ∷ ks) = more k (checks_of ks)

abbrev pub check_data : Check-F Check Side → Check
check_data (Check-F.AnyOf ks) = any_of (checks_of ks)
check_data (Check-F.AllOf ks) = all_of (checks_of ks)
check_data (Check-F.Not k) = not_so k
check_data (Check-F.Here i) = here i
check_data (Check-F.Anywhere i) = anywhere i
check_data (Check-F.Compare a how b) = compared a (comparison_of how) b

abbrev pub side_data : Side-F Check Side → Side
side_data s = side (operand_of s.operand) (checks_of s.guards)

abbrev pub check_of : CodeCheck → Check
check_of = fold-Check Check Side check_data side_data

abbrev pub side_of : CodeSide → Side
side_of = fold-Side Check Side check_data side_data

abbrev pub guards_of : CodeSide → Checks
guards_of s = checks_of (map check_of s.guards)

abbrev pub operand_in : Side → Operand
operand_in (side o gs) = o

abbrev pub stage_checks : Stage → Checks
stage_checks x = checks_of (map check_of x.checks)

-- ---- what holds and what is found, where it is known which positions find something

-- the string is what the end of the path looks for
abbrev pub Suited : Sought → Text → Type 0
Suited sought.Anything s = Unit {0}
Suited (sought.Related how t) s = Related (comparison_of how) s t

-- from the element `Here`, and from the document `There`, these positions find something
abbrev mutual
  pub CheckHolds : (ℕ → Type 0) → (ℕ → Type 0) → Element → Element → Check → Type 0
  CheckHolds Here There root e (any_of ks) = OneHolds Here There root e ks
  CheckHolds Here There root e (all_of ks) = EachHolds Here There root e ks
  CheckHolds Here There root e (not_so k) = CheckHolds Here There root e k → ⊥
  CheckHolds Here There root e (here i) = Here i
  CheckHolds Here There root e (anywhere i) = There i
  CheckHolds Here There root e (compared a how b) = Is (filter.compare (operand_in a) how (operand_in b)) root e

  pub EachHolds : (ℕ → Type 0) → (ℕ → Type 0) → Element → Element → Checks → Type 0
  EachHolds Here There root e no_more = Unit {0}
  EachHolds Here There root e (more k ks) = CheckHolds Here There root e k × EachHolds Here There root e ks

  pub OneHolds : (ℕ → Type 0) → (ℕ → Type 0) → Element → Element → Checks → Type 0
  OneHolds Here There root e no_more = ⊥
  OneHolds Here There root e (more k ks) = CheckHolds Here There root e k ⊎ OneHolds Here There root e ks

-- the path goes on from the element, or ends there
abbrev pub GoesOn : (ℕ → Type 0) → Element → Next → Type 0
GoesOn Here e (next.On i) = Here i
GoesOn Here e (next.Ends w) = Suited w (string_of e)

-- the step goes to the element, and what comes behind it is found from there
abbrev pub Arrives : (ℕ → Type 0) → (ℕ → Type 0) → Element → Element → Stage → Type 0
Arrives Here There root e x =
    (part_of x.part ≡ element) × MeetsName (test_of x.test) e.space e.local × EachHolds Here There root e (stage_checks x) × GoesOn Here e x.next

-- the path ends at an attribute with this value
abbrev pub EndsAt : Text → Next → Type 0
EndsAt s (next.On i) = ⊥
EndsAt s (next.Ends w) = Suited w s

-- the step names an attribute of the element itself
abbrev pub Owns : Element → Stage → Type 0
Owns e x = (part_of x.part ≡ attribute) × OneOf (λ a. MeetsName (test_of x.test) a.space a.local × EndsAt a.value x.next) e.attributes

-- ---- what a position finds

-- from the element, through these child numbers
abbrev pub Walks : Axis → (Element → Type 0) → Element → Type 0
Walks axis P e = (ks : List ℕ) × Leads axis ks × (c : Element) × (element_below e ks ≡ Some c) × P c

abbrev pub Holds : Axis → (Element → Type 0) → Element → Type 0
Holds axis P e = (ks : List ℕ) × Holder axis ks × (c : Element) × (element_below e ks ≡ Some c) × P c

-- the stage finds something from the element, where it is known what the positions below it find
abbrev pub StageFinds : (ℕ → Element → Type 0) → Element → Stage → Element → Type 0
StageFinds At root x e =
    Walks (axis_of x.axis) (λ c. Arrives (λ j. At j c) (λ j. At j (document root)) root c x) e ⊎ Holds (axis_of x.axis) (λ c. Owns c x) e

-- The position finds something from the element. The stages stand the last one first.
abbrev pub At : List Stage → Element → ℕ → Element → Type 0
At [] root i e = ⊥
At (x ∷ earlier) root i e = MatchBool (i == length earlier) (StageFinds (At earlier root) root x e) (At earlier root i e)

-- the stages of a plan, the last one first
abbrev pub newest_onto : List Stage → List Stage → List Stage
newest_onto before [] = before
newest_onto before (x ∷ xs) = newest_onto (x ∷ before) xs

abbrev pub newest : List Stage → List Stage
newest plan = newest_onto [] plan

abbrev pub stage_at : List Stage → ℕ → Option Stage
stage_at [] i = None
stage_at (x ∷ earlier) i = if i == length earlier then Some x else stage_at earlier i

-- the position is the first step of a path from the document
abbrev pub IsOfDocument : List Stage → ℕ → Type 0
IsOfDocument plan i = (x : Stage) × (stage_at plan i ≡ Some x) × (x.of_document ≡ true)

-- the check holds at an element exactly where the conditions do
abbrev pub StandsFor : List Stage → Check → Conditions → Type 0
StandsFor plan k cs = (root e : Element) → CheckHolds (λ j. At plan root j e) (λ j. At plan root j (document root)) root e k ↔ Each cs root e

-- the steps of an operand that is a path
abbrev pub way_of : Operand → Steps
way_of (found (path absolute ss)) = ss
way_of _ = arrived

-- ---- which plans are well made: a stage refers to earlier ones, and the guards of its comparisons stand for the
-- conditions of their paths

abbrev mutual
  pub CheckRefers : List Stage → Check → Type 0
  CheckRefers earlier (any_of ks) = ChecksRefer earlier ks
  CheckRefers earlier (all_of ks) = ChecksRefer earlier ks
  CheckRefers earlier (not_so k) = CheckRefers earlier k
  CheckRefers earlier (here i) = i < length earlier
  CheckRefers earlier (anywhere i) = (i < length earlier) × IsOfDocument earlier i
  CheckRefers earlier (compared (side a gs) how (side b hs)) = AreGuards earlier (way_of a) gs × AreGuards earlier (way_of b) hs × (steps_in_operand a + steps_in_operand b ≤ 512)

  -- the checks stand for the conditions of the steps
  pub AreGuards : List Stage → Steps → Checks → Type 0
  AreGuards earlier arrived no_more = Unit {0}
  AreGuards earlier (step axis part test cs ss) (more k ks) = CheckRefers earlier k × StandsFor earlier k cs × AreGuards earlier ss ks
  AreGuards earlier _ _ = ⊥

  pub ChecksRefer : List Stage → Checks → Type 0
  ChecksRefer earlier no_more = Unit {0}
  ChecksRefer earlier (more k ks) = CheckRefers earlier k × ChecksRefer earlier ks

-- the checks stand for the conditions of the operand's steps
abbrev pub Guarded : List Stage → Operand → Checks → Type 0
Guarded earlier o gs = AreGuards earlier (way_of o) gs

abbrev pub NextRefers : List Stage → Next → Type 0
NextRefers earlier (next.On i) = i < length earlier
NextRefers earlier (next.Ends w) = Unit {0}

abbrev pub StageRefers : List Stage → Stage → Type 0
StageRefers earlier x = ChecksRefer earlier (stage_checks x) × NextRefers earlier x.next

abbrev pub IsMade : List Stage → Type 0
IsMade [] = Unit {0}
IsMade (x ∷ earlier) = StageRefers earlier x × IsMade earlier

-- ---- what is asked of a visit

-- a position finds something from a child: the step goes to it, or goes on from it
abbrev pub FromChild : (ℕ → Type 0) → (ℕ → Type 0) → Element → Element → ℕ → Stage → Type 0
FromChild Here There root c i x = Arrives Here There root c x ⊎ ((axis_of x.axis ≡ descendant) × Here i)

-- all that decides whether the check holds at an element is asked there
abbrev mutual
  pub CheckAsks : (ℕ → Type 0) → Check → Type 0
  CheckAsks Asked (any_of ks) = ChecksAsk Asked ks
  CheckAsks Asked (all_of ks) = ChecksAsk Asked ks
  CheckAsks Asked (not_so k) = CheckAsks Asked k
  CheckAsks Asked (here i) = Asked i
  CheckAsks Asked (anywhere i) = Unit {0}
  CheckAsks Asked (compared a how b) = Unit {0}

  pub ChecksAsk : (ℕ → Type 0) → Checks → Type 0
  ChecksAsk Asked no_more = Unit {0}
  ChecksAsk Asked (more k ks) = CheckAsks Asked k × ChecksAsk Asked ks

abbrev pub NextAsks : (ℕ → Type 0) → Next → Type 0
NextAsks Asked (next.On i) = Asked i
NextAsks Asked (next.Ends w) = Unit {0}

-- all that decides whether the position finds something from the child is asked there
abbrev pub Asks : (ℕ → Type 0) → Element → ℕ → Stage → Type 0
Asks Asked c i x =
    ((axis_of x.axis ≡ descendant) → Asked i)
    × ((part_of x.part ≡ element) → MeetsName (test_of x.test) c.space c.local → ChecksAsk Asked (stage_checks x) × NextAsks Asked x.next)

-- the positions from the document are known, but for the last one
abbrev pub Knows : (ℕ → Type 0) → List Stage → Element → Type 0
Knows Known plan root = (j : ℕ) → suc j < length plan → IsOfDocument plan j → Known j ↔ At plan root j (document root)

-- ---- what the steps of a path find

abbrev pub FindsSought : Steps → Sought → Element → Element → Type 0
FindsSought ss w root e = (s : Text) × Finds ss root e s × Suited w s

-- ---- positions that a set can hold

abbrev mutual
  pub CheckIsSmall : Check → Type 0
  CheckIsSmall (any_of ks) = ChecksAreSmall ks
  CheckIsSmall (all_of ks) = ChecksAreSmall ks
  CheckIsSmall (not_so k) = CheckIsSmall k
  CheckIsSmall (here i) = i < 576
  CheckIsSmall (anywhere i) = i < 576
  CheckIsSmall (compared a how b) = Unit {0}

  pub ChecksAreSmall : Checks → Type 0
  ChecksAreSmall no_more = Unit {0}
  ChecksAreSmall (more k ks) = CheckIsSmall k × ChecksAreSmall ks

abbrev pub NextIsSmall : Next → Type 0
NextIsSmall (next.On i) = i < 576
NextIsSmall (next.Ends w) = Unit {0}

abbrev pub StageIsSmall : Stage → Type 0
StageIsSmall x = ChecksAreSmall (stage_checks x) × NextIsSmall x.next

abbrev pub StagesAreSmall : List Stage → Type 0
StagesAreSmall [] = Unit {0}
StagesAreSmall (x ∷ xs) = StageIsSmall x × StagesAreSmall xs
