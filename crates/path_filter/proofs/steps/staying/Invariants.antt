use Rattle.std.proofs.Common.{◌↔◌, ◌<◌, ℕ}
use Rattle.filter_text.specs.View.{steps_of}
use Rattle.path_filter.specs.SearchParts.{Stays}
use Rattle.path_filter.specs.Positions.{Has}
use Rattle.path_filter.specs.Search.{after}
use Rattle.path_filter.proofs.steps.staying.Given as goal

abbrev pub invariant-loop-i : goal.invariant-loop-i
invariant-loop-i l = (j : ℕ) → Has l.next j ↔ (Has l.reached j × (j < l.i) × Stays (after j (steps_of l.steps)))
