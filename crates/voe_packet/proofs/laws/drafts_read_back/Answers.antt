use Rattle.voe_packet.proofs.DraftTrees.{draft-parts, draft-valid}
use Rattle.voe_packet.proofs.Spelled.{draft-spells}
use Rattle.voe_packet.proofs.laws.drafts_read_back.Goals as goal

pub returns-clause-spells : goal.returns-clause-spells
returns-clause-spells c = draft-spells

pub returns-clause-valid : goal.returns-clause-valid
returns-clause-valid c = draft-valid

pub returns-clause-parts : goal.returns-clause-parts
returns-clause-parts c = draft-parts
