use Rattle.std.proofs.Common.{◌≡◌, drop}
use Rattle.net_model.specs.Steps.{place_of_name}
use Rattle.broker_end.specs.Broker.{names_of}
use Rattle.broker_end.proofs.sessions.place_of_name.Given as goal

abbrev pub invariant-loop-at : goal.invariant-loop-at
invariant-loop-at l = place_of_name (names_of (drop l.at l.links)) l.name l.at ≡ place_of_name (names_of l.links) l.name 0
