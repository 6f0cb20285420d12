use Rattle.filter_text.proofs.Exclusion.{small}
use Rattle.filter_text.proofs.laws.filters_are_small.Goals as goal

pub returns : goal.returns
returns c = small
