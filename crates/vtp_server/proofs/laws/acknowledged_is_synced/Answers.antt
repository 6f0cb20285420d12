use Rattle.vtp_server.proofs.BrokerTurns.{ack_synced}
use Rattle.vtp_server.proofs.laws.acknowledged_is_synced.Goals as goal

pub returns : goal.returns
returns g c fixed_of number fixed journal place front from packet identifier f = ack_synced g.D.Disk fixed_of number fixed journal place front from packet identifier f
