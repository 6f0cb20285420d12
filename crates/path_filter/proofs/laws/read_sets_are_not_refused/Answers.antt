use Rattle.path_filter.proofs.SetLaws.{not_refused_set}
use Rattle.path_filter.proofs.laws.read_sets_are_not_refused.Goals as goal

pub returns : goal.returns
returns c = not_refused_set c.read_is_not_refused.ensures
