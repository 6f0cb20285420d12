-- The end that is shown.
use Rattle.std.proofs.Common.{sym, ◌∙◌, ap}
use Rattle.voe_values.specs.declared.kind.NodeKind.TheVariants.{Broker}
use Rattle.voe_net.proofs.Shows.{not-there, shown, there}
use Rattle.voe_net.proofs.network.Network.broker.Goals as goal

pub returns-then-seat-clause-there : goal.returns-then-seat-clause-there
returns-then-seat-clause-there g c =
    rw (← c.self.view_is)
    (there g.D.Disk c.self.inside.machine (c.self.invariant.own (ap (λ n. n.failed) c.self.view_is ∙ c.requires)) c.args.node c.in_ok-seat.seat.now (sym c.in_ok-seat.ensures)
    Broker c.broker.result c.if-seat.true c.broker.ensures)

pub returns-then-seat-clause-shown : goal.returns-then-seat-clause-shown
returns-then-seat-clause-shown g c =
    rw (← c.self.view_is)
    (shown g.D.Disk c.self.inside.machine (c.self.invariant.own (ap (λ n. n.failed) c.self.view_is ∙ c.requires)) c.args.node c.in_ok-seat.seat.now (sym c.in_ok-seat.ensures)
    Broker c.broker.result c.if-seat.true c.broker.ensures)

pub returns-else-seat-clause-there : goal.returns-else-seat-clause-there
returns-else-seat-clause-there g c =
    rw (← c.self.view_is)
    (not-there g.D.Disk c.self.inside.machine (c.self.invariant.own (ap (λ n. n.failed) c.self.view_is ∙ c.requires)) c.args.node c.in_ok-seat.seat.now (sym c.in_ok-seat.ensures)
    Broker c.if-seat.false)
