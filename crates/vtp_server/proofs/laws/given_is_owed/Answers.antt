use Rattle.vtp_server.proofs.BrokerTurns.{packet_owed}
use Rattle.vtp_server.proofs.laws.given_is_owed.Goals as goal

pub returns : goal.returns
returns g c fixed_of number fixed journal place front link session after at identifier packet f = packet_owed g.D.Disk fixed_of number fixed journal place front link session after at identifier packet f
