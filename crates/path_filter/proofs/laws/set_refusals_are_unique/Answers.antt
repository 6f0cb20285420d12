use Rattle.path_filter.proofs.SetLaws.{one_set_refusal}
use Rattle.path_filter.proofs.laws.set_refusals_are_unique.Goals as goal

pub returns : goal.returns
returns c = one_set_refusal c.read_is_not_refused.ensures c.refusals_are_unique.ensures
