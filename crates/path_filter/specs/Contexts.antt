-- What conditions are evaluated in.
use Rattle.std.specs.Prelude.{◌↔◌, ◌≤◌, ℕ, length}
use Rattle.voe_tree.specs.Shape.{depth}
use Rattle.path_filter.specs.Places.{document}
use Rattle.path_filter.specs.Plan.{At, Check, CheckHolds, IsMade, IsOfDocument, newest}
use Rattle.path_filter.specs.Positions.{Has}
use Rattle.voe_tree.specs.declared.element.Element.{Element}
use Rattle.path_filter.specs.declared.context.Context.{Context}

-- A well made plan, all of whose paths from the document are known, and a document that nests no deeper than 64.
pub record IsReady (c : Context) : Type 0 where
  pub shallow : depth c.root.now ≤ 64
  pub made : IsMade (newest c.plan.now)
  pub few : length c.plan.now ≤ 512
  pub knows : (j : ℕ) → IsOfDocument (newest c.plan.now) j → Has c.known.now j ↔ At (newest c.plan.now) c.root.now j (document c.root.now)

-- the check holds by what the plan's positions find
abbrev pub HoldsAt : Context → Element → Check → Type 0
HoldsAt c e k = CheckHolds (λ j. At (newest c.plan.now) c.root.now j e) (λ j. At (newest c.plan.now) c.root.now j (document c.root.now)) c.root.now e k
