use Rattle.std.proofs.Common.{◌≡◌}
use Rattle.broker_run.specs.Course.{HasTaken}
use Rattle.broker_run.proofs.run.settle_all.Given as goal

abbrev pub invariant-loop : goal.invariant-loop
invariant-loop g l = record {
  kept : HasTaken g.W.Di.Dialer.returns g.W.Di.Dialer.fault_count g.W.Di.L.Link l.lines.first.value (g.W.World.parts l.world).dialer l.lines.back l.lines.lacked;
  rest : g.W.World.parts l.world ≡ record (g.W.World.parts l.initial.world) { dialer = (g.W.World.parts l.world).dialer };
  first : l.lines.first.value ≡ l.initial.lines.first.value;
  dialed : l.lines.dialed ≡ l.initial.lines.dialed;
  guests : l.doors.guests ≡ l.initial.doors.guests;
}
