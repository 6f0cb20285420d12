-- Which plans stand for which paths. The stages stand the last one first.
use Rattle.std.specs.Prelude.{◌≡◌, ◌↔◌, ℕ, suc, ◌+◌, ◌<◌, ◌≤◌, IsTrue, true, List, [], ◌∷◌, ◌++◌, length}
use Rattle.voe_tree.specs.declared.element.Element.{Element}
use Rattle.filter_text.specs.Filter.{Text, Path, path, Steps, arrived, step, Part, element, attribute, Condition, Conditions, Operand, found}
use Rattle.filter_text.specs.Size.{steps_in_conditions, steps_in_steps}
use Rattle.filter_text.specs.Filter as filter
use Rattle.filter_text.specs.View.{steps_of}
use Rattle.filter_text.specs.declared.filter.Path.{Path as CodePath, out-Path}
use Rattle.path_filter.specs.Meaning.{Passes}
use Rattle.path_filter.specs.Places.{document}
use Rattle.path_filter.specs.Plan.{Check, Checks, no_more, more, CheckHolds, CheckRefers, StageFinds, StageRefers, NextRefers, GoesOn, EndsAt, Suited, FindsSought, At, IsMade, IsOfDocument}
use Rattle.path_filter.specs.Search.{Is, PathFinds}
use Rattle.path_filter.specs.declared.plan.Sought.{Sought}
use Rattle.path_filter.specs.declared.plan.Next.{Next}
use Rattle.path_filter.specs.declared.plan.Stage.{Stage}

-- At most so many stages were added.
pub record Grows (old new : List Stage) (n : ℕ) : Type 0 where
  pub added : List Stage
  pub extends : new ≡ added ++ old
  pub made : IsMade new
  pub few : length new ≤ length old + n

-- the check holds at an element exactly where the condition does
pub record Means (plan : List Stage) (k : Check) (c : Condition) : Type 0 where
  pub refers : CheckRefers plan k
  pub holds : (root e : Element) → CheckHolds (λ j. At plan root j e) (λ j. At plan root j (document root)) root e k ↔ Is c root e

abbrev pub AllMean : List Stage → Checks → Conditions → Type 0
AllMean plan no_more filter.no_more = Unit {0}
AllMean plan (more k ks) (filter.more c cs) = Means plan k c × AllMean plan ks cs
AllMean plan _ _ = ⊥

-- how many steps stand in the conditions of the steps
abbrev pub inner_steps : Steps → ℕ
inner_steps arrived = 0
inner_steps (step axis part test cs ss) = steps_in_conditions cs + inner_steps ss

abbrev pub inner_steps_in : Operand → ℕ
inner_steps_in (found (path absolute ss)) = inner_steps ss
inner_steps_in _ = 0

-- one string by itself
abbrev pub IsText : Operand → Type 0
IsText (found way) = ⊥
IsText _ = Unit {0}

-- a path from the document, with a step
abbrev pub IsFromDocument : Operand → Type 0
IsFromDocument (found (path true ss)) = 0 < steps_in_steps ss
IsFromDocument _ = ⊥

-- the condition holds at each element of a document or at none
abbrev pub IsSameEverywhere : Condition → Type 0
IsSameEverywhere c = (root e f : Element) → Is c root e → Is c root f

-- a string that the path names is what is sought
abbrev pub Seeks : Path → Sought → Element → Element → Type 0
Seeks p w root e = (s : Text) × PathFinds p root e s × Suited w s

-- the check holds where the path names what is sought
pub record Looks (plan : List Stage) (k : Check) (p : Path) (w : Sought) : Type 0 where
  pub refers : CheckRefers plan k
  pub holds : (root e : Element) → CheckHolds (λ j. At plan root j e) (λ j. At plan root j (document root)) root e k ↔ Seeks p w root e

-- the position finds what the steps do
pub record Starts (plan : List Stage) (i : ℕ) (ss : Steps) (w : Sought) : Type 0 where
  pub within : i < length plan
  pub finds : (root e : Element) → At plan root i e ↔ FindsSought ss w root e

-- the position is the path's first step, and the last one of the plan
pub record IsLast (plan : List Stage) (i : ℕ) (p : CodePath) (w : Sought) : Type 0 where
  pub starts : Starts plan i (steps_of (out-Path p).steps) w
  pub document : IsTrue (out-Path p).is_absolute → IsOfDocument plan i
  pub last : suc i ≡ length plan

-- what comes behind a step finds what the other steps do
pub record Follows (plan : List Stage) (x : Next) (part : Part) (ss : Steps) (w : Sought) : Type 0 where
  pub refers : NextRefers plan x
  pub goes : part ≡ element → (root e : Element) → GoesOn (λ j. At plan root j e) e x ↔ FindsSought ss w root e
  pub ends : part ≡ attribute → (s : Text) → EndsAt s x ↔ Suited w s

-- the stage finds what the steps do
pub record Stands (plan : List Stage) (x : Stage) (ss : Steps) (w : Sought) : Type 0 where
  pub refers : StageRefers plan x
  pub finds : (root e : Element) → StageFinds (At plan root) root x e ↔ FindsSought ss w root e

-- from the last position something is found from the document; a path without steps names the document itself
abbrev pub PlanPasses : List Stage → Element → Type 0
PlanPasses [] root = Unit {0}
PlanPasses (x ∷ earlier) root = At (x ∷ earlier) root (length earlier) (document root)

abbrev pub LastOfDocument : List Stage → Type 0
LastOfDocument [] = Unit {0}
LastOfDocument (x ∷ earlier) = IsOfDocument (x ∷ earlier) (length earlier)

-- the plan of a filter
pub record IsPlanOf (plan : List Stage) (f : Path) : Type 0 where
  pub made : IsMade plan
  pub few : length plan ≤ 512
  pub last : LastOfDocument plan
  pub decides : (root : Element) → PlanPasses plan root ↔ Passes f root
