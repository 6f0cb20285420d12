use Rattle.vtp_messages.proofs.Kept.{message_spells}
use Rattle.vtp_messages.proofs.Names.{plain_name}
use Rattle.vtp_messages.proofs.Said.{message_said}
use Rattle.vtp_messages.proofs.laws.messages_read_back.Goals as goal

pub returns-clause-names : goal.returns-clause-names
returns-clause-names c = plain_name

pub returns-clause-says : goal.returns-clause-says
returns-clause-says c = message_said

pub returns-clause-spells : goal.returns-clause-spells
returns-clause-spells c = message_spells
