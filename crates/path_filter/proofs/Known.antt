-- Which first steps of paths from the document find something, up to a place.
use Rattle.std.specs.Prelude.{◌<◌, ◌≤◌, ◌↔◌, ℕ, List}
use Rattle.voe_tree.specs.declared.element.Element.{Element}
use Rattle.path_filter.specs.Places.{document}
use Rattle.path_filter.specs.Plan.{At, IsOfDocument}
use Rattle.path_filter.specs.declared.plan.Stage.{Stage}

-- The set is right below `n`, and has nothing from `n` on. The stages stand the last one first.
pub record KnownBelow (n : ℕ) (Known : ℕ → Type 0) (plan : List Stage) (root : Element) : Type 0 where
  pub right : (j : ℕ) → j < n → IsOfDocument plan j → Known j ↔ At plan root j (document root)
  pub none : (j : ℕ) → n ≤ j → Known j → ⊥
