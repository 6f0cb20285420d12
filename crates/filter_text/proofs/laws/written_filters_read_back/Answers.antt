use Rattle.filter_text.proofs.ReadBack.{read-back}
use Rattle.filter_text.proofs.laws.written_filters_read_back.Goals as goal

pub returns : goal.returns
returns c = read-back
