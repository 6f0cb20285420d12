use Rattle.voe_validity.proofs.Once.{judged_once}
use Rattle.voe_validity.proofs.judgement.packets_are_judged_once.Goals as goal

pub returns : goal.returns
returns c = judged_once
