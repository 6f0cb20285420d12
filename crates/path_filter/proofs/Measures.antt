-- Measures of an evaluation.
use Rattle.std.proofs.Common.{ℕ, ◌+◌, ◌*◌, List, [], ◌∷◌, map}
use Rattle.voe_tree.specs.Shape.{depth}
use Rattle.voe_tree.specs.declared.element.Element.{Element}
use Rattle.path_filter.specs.Plan.{Check, Checks, Side, all_of, any_of, anywhere, check_of, checks_of, compared, here, more, no_more, not_so, side, stage_checks}
use Rattle.path_filter.specs.declared.context.Context.{Context}
use Rattle.path_filter.specs.declared.plan.Check.{Check as CodeCheck}
use Rattle.path_filter.specs.declared.plan.Stage.{Stage}
use Rattle.path_filter.specs.declared.wanted.Wanted.{Wanted}
use Rattle.path_filter.specs.declared.wanted.Wanted.TheVariants as wanted

-- Sizes: each part is smaller than the whole.
abbrev mutual
  pub size_of_check : Check → ℕ
  size_of_check (any_of ks) = size_of_checks ks + 1
  size_of_check (all_of ks) = size_of_checks ks + 1
  size_of_check (not_so k) = size_of_check k + 1
  size_of_check (here i) = 1
  size_of_check (anywhere i) = 1
  size_of_check (compared a how b) = size_of_side a + size_of_side b + 3

  pub size_of_side : Side → ℕ
  size_of_side (side o gs) = size_of_checks gs + 2

  pub size_of_checks : Checks → ℕ
  size_of_checks no_more = 1
  size_of_checks (more k ks) = size_of_check k + size_of_checks ks + 1

abbrev pub size_of_guards : List CodeCheck → ℕ
size_of_guards gs = size_of_checks (checks_of (map check_of gs))

abbrev pub size_of_wanted : Wanted → ℕ
size_of_wanted (wanted.RelatedToOne how one e) = size_of_guards one.now.guards + 3
size_of_wanted _ = 0

-- How much is evaluated for a plan: its front weighs less, by more than its next stage's checks.
abbrev pub weight : List Stage → ℕ
weight [] = 0
weight (x ∷ xs) = size_of_checks (stage_checks x) + weight xs + 4

-- the size of what is left first, and then the depth of the tree
abbrev pub rank : ℕ → ℕ → Element → ℕ
rank size within root = size * (2 * depth root + 4) + within

-- A search goes down the plan, and with the same part of the plan down the filter and the tree.
abbrev pub work : Context → ℕ → ℕ → ℕ
work c size within = rank (weight c.plan.now + size) within c.root.now
