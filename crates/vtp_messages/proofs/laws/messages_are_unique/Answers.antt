use Rattle.vtp_messages.proofs.OneMessage.{not_refused, one_message}
use Rattle.vtp_messages.proofs.laws.messages_are_unique.Goals as goal

pub returns-clause-one : goal.returns-clause-one
returns-clause-one c = one_message

pub returns-clause-refused : goal.returns-clause-refused
returns-clause-refused c = not_refused
