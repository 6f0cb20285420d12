use Rattle.std.proofs.Common.{◌≡◌}
use Rattle.trials_hub.proofs.turns.take_turns.Given as goal

abbrev pub invariant-loop : goal.invariant-loop
invariant-loop g l = l.seat.hub ≡ l.hub
