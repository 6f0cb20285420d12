use Rattle.vtp_framing.proofs.OneCut.{cut, one_cut}
use Rattle.vtp_framing.proofs.laws.streams_are_unique.Goals as goal

pub returns-clause-some : goal.returns-clause-some
returns-clause-some c = cut

pub returns-clause-one : goal.returns-clause-one
returns-clause-one c = one_cut
