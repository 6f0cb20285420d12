use Rattle.broker_end.specs.Broker.{NoneIsShown}
use Rattle.broker_end.proofs.live.first_shown.Given as goal

abbrev pub invariant-loop-at : goal.invariant-loop-at
invariant-loop-at g l = NoneIsShown l.end.notes l.filters l.initial.after l.at
