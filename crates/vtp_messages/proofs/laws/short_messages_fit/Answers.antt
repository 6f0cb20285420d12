use Rattle.vtp_messages.proofs.ShortMessages.{short_fits, some_bytes, within_bytes}
use Rattle.vtp_messages.proofs.laws.short_messages_fit.Goals as goal

pub returns-clause-fits : goal.returns-clause-fits
returns-clause-fits c = short_fits

pub returns-clause-some : goal.returns-clause-some
returns-clause-some c = some_bytes

pub returns-clause-within : goal.returns-clause-within
returns-clause-within c = within_bytes
