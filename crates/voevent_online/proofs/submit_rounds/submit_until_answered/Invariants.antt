use Rattle.std.proofs.Common.{◌≡◌, ◌<◌, length}
use Rattle.voevent_online.proofs.Rounded.{SoFar}
use Rattle.voevent_online.proofs.submit_rounds.submit_until_answered.Given as goal

abbrev pub invariant-loop : goal.invariant-loop
invariant-loop g l = record {
  rest : g.W.World.parts l.world ≡ record (g.W.World.parts l.initial.world) { dialer = (g.W.World.parts l.world).dialer };
  line : 0 < length l.end.config.links;
  so_far : SoFar g.W.D.Disk g.W.Di.L.Link g.W.Di.Dialer.returns g.W.Di.Dialer.fault_count l.identifier
      (record { end = l.initial.end; moment = g.W.C.Clock.moment l.initial.clock; dialer = (g.W.World.parts l.initial.world).dialer })
      (record { end = l.end; moment = g.W.C.Clock.moment l.clock; dialer = (g.W.World.parts l.world).dialer });
}
