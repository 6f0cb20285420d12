use Rattle.voe_net.proofs.Joining.{HasBegun}
use Rattle.voe_net.proofs.making.begin_sessions.Given as goal

abbrev pub invariant-loop-link : goal.invariant-loop-link
invariant-loop-link g l = HasBegun g.D.Disk l.initial.end l.end l.link
