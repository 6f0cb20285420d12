use Rattle.path_filter.proofs.SetLaws.{read_once}
use Rattle.path_filter.proofs.laws.sets_are_unique.Goals as goal

pub returns : goal.returns
returns c = read_once c.filters_are_unique.ensures
