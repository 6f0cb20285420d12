use Rattle.voevent_online.proofs.Causes.{online_cause}
use Rattle.voevent_online.proofs.top.online.Goals as goal

pub returns : goal.returns
returns g c = (
  c.answer-status.result,
  c.code.ensures,
  c.answer-status.ensures,
  online_cause g.W.So.Source g.W.Si.Sink g.W.D.Disk g.W.Di.L.Link g.W.Di.Dialer.returns g.W.Di.Dialer.fault_count g.W.Li.L.Link g.W.Li.Listener.returns g.W.Li.Listener.accept_count g.W-Sp-Spawner.fault_count g.W-Sp-Spawner.begin_count (g.W.World.parts c.args.world.now) (g.W.World.parts c.answer-status.new.world) c.args.words.now c.answer-status.result c.answer-status.ensures,
)
