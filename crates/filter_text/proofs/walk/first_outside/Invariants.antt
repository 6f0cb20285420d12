use Rattle.std.proofs.Common.{◌≡◌, drop}
use Rattle.filter_text.specs.Reading.{first_outside}
use Rattle.filter_tokens.specs.TokenView.{placed_views}
use Rattle.filter_text.proofs.walk.first_outside.Given as goal

abbrev pub invariant-loop-i : goal.invariant-loop-i
invariant-loop-i l = first_outside (placed_views (drop l.i l.tokens)) ≡ first_outside (placed_views l.tokens)
