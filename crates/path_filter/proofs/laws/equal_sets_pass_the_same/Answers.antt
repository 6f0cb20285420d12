use Rattle.path_filter.proofs.SetLaws.{passes_same}
use Rattle.path_filter.proofs.laws.equal_sets_pass_the_same.Goals as goal

pub returns : goal.returns
returns c = passes_same
