use Rattle.voe_packet.proofs.Short.{short-fits, text-length}
use Rattle.voe_packet.proofs.laws.short_drafts_fit.Goals as goal

pub returns-clause-fits : goal.returns-clause-fits
returns-clause-fits c = short-fits

pub returns-clause-bound : goal.returns-clause-bound
returns-clause-bound c = text-length
