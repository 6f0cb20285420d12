use Rattle.voe_validity.proofs.Once.{good_is_named}
use Rattle.voe_validity.proofs.judgement.good_packets_are_named.Goals as goal

pub returns : goal.returns
returns c = good_is_named
