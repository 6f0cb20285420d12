use Rattle.std.proofs.Common.{sym, subst}
use Rattle.online_words.specs.declared.request.Request.{Request}
use Rattle.voevent_online.specs.Online.{Performs}
use Rattle.voevent_online.proofs.top.perform.Goals as goal

pub returns-in-Submit : goal.returns-in-Submit
returns-in-Submit g c =
    subst (λ (r : Request). Performs g.W.So.Source g.W.Si.Sink g.W.D.Disk g.W.Di.L.Link g.W.Di.Dialer.returns g.W.Di.Dialer.fault_count g.W.Li.L.Link g.W.Li.Listener.returns g.W.Li.Listener.accept_count g.W-Sp-Spawner.fault_count g.W-Sp-Spawner.begin_count (g.W.World.parts c.args.world.now) (g.W.World.parts c.submit.new.world) r c.submit.result) (sym c.in-Submit.is)
    (record { rest = c.submit.ensures.rest; back = c.submit.ensures.back; tells = c.submit.ensures.tells })

pub returns-in-Listen : goal.returns-in-Listen
returns-in-Listen g c =
    subst (λ (r : Request). Performs g.W.So.Source g.W.Si.Sink g.W.D.Disk g.W.Di.L.Link g.W.Di.Dialer.returns g.W.Di.Dialer.fault_count g.W.Li.L.Link g.W.Li.Listener.returns g.W.Li.Listener.accept_count g.W-Sp-Spawner.fault_count g.W-Sp-Spawner.begin_count (g.W.World.parts c.args.world.now) (g.W.World.parts c.listen.new.world) r c.listen.result) (sym c.in-Listen.is)
    (record { rest = c.listen.ensures.rest; back = c.listen.ensures.back; tells = rw c.from.ensures at c.listen.ensures.tells })
