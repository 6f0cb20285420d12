use Rattle.std.proofs.Common.{◌≡◌, drop}
use Rattle.filter_text.specs.Machine.{beginning, walk}
use Rattle.filter_text.specs.MachineView.{state_view, stack_view}
use Rattle.filter_tokens.specs.TokenView.{placed_views}
use Rattle.filter_text.proofs.walk.walk.Given as goal

abbrev pub invariant-loop-i : goal.invariant-loop-i
invariant-loop-i l = walk (placed_views (drop l.i l.tokens)) (record { state = state_view l.state; stack = stack_view l.stack }) ≡ walk (placed_views l.tokens) beginning
