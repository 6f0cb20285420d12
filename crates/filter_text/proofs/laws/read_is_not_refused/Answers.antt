use Rattle.filter_text.proofs.Exclusion.{not-refused}
use Rattle.filter_text.proofs.laws.read_is_not_refused.Goals as goal

pub returns : goal.returns
returns c = not-refused
