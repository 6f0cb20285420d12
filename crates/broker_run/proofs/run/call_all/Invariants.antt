use Rattle.std.proofs.Common.{◌≡◌, ◌+◌, ◌-◌, ◌^◌, min}
use Rattle.broker_run.specs.Course.{HasBegun, HasTaken, IsSameButStarts}
use Rattle.broker_run.proofs.run.call_all.Given as goal

abbrev pub invariant-loop-address : goal.invariant-loop-address
invariant-loop-address g l = record {
  kept : HasTaken g.W.Di.Dialer.returns g.W.Di.Dialer.fault_count g.W.Di.L.Link l.lines.first.value (g.W.World.parts l.world).dialer l.lines.back l.lines.lacked;
  begun : HasBegun g.W-Sp-Spawner.fault_count g.W-Sp-Spawner.begin_count l.desk.first.value (g.W.World.parts l.world).spawner l.desk.started;
  tally : l.desk.started ≡ min (l.doors.guests + l.lines.dialed) (2 ^ 64 - 1);
  rest : IsSameButStarts (g.W.World.parts l.initial.world) (g.W.World.parts l.world);
  first_begun : l.desk.first.value ≡ l.initial.desk.first.value;
  first_dialed : l.lines.first.value ≡ l.initial.lines.first.value;
  guests : l.doors.guests ≡ l.initial.doors.guests;
  dialed : l.lines.dialed ≡ l.address;
}
