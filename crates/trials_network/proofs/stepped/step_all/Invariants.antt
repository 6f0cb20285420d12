use Rattle.std.proofs.Common.{◌≡◌, false}
use Rattle.trials_network.proofs.stepped.step_all.Given as goal

-- no event was refused
abbrev pub invariant-loop-event : goal.invariant-loop-event
invariant-loop-event l = l.network.failed ≡ false
