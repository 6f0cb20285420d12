use Rattle.filter_text.proofs.Exclusion.{one-refusal}
use Rattle.filter_text.proofs.laws.refusals_are_unique.Goals as goal

pub returns : goal.returns
returns c = one-refusal
