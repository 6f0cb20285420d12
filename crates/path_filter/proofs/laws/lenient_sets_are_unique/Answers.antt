use Rattle.path_filter.proofs.SetLaws.{read_once_leniently}
use Rattle.path_filter.proofs.laws.lenient_sets_are_unique.Goals as goal

pub returns : goal.returns
returns c = read_once_leniently c.filters_are_unique.ensures c.read_is_not_refused.ensures
