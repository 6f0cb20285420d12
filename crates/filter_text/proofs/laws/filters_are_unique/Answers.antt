use Rattle.filter_text.proofs.Exclusion.{one-filter}
use Rattle.filter_text.proofs.laws.filters_are_unique.Goals as goal

pub returns : goal.returns
returns c = one-filter
