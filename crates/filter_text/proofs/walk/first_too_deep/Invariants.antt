use Rattle.std.proofs.Common.{◌≡◌, ◌≤◌, drop}
use Rattle.filter_text.specs.Reading.{first_too_deep}
use Rattle.filter_tokens.specs.TokenView.{placed_views}
use Rattle.filter_text.proofs.walk.first_too_deep.Given as goal

abbrev pub invariant-loop-placed : goal.invariant-loop-placed
invariant-loop-placed l = (first_too_deep l.opened (placed_views (drop l.placed-index l.tokens)) ≡ first_too_deep 0 (placed_views l.tokens)) × (l.opened ≤ 16)
