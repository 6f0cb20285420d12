use Rattle.vtp_session.proofs.Again.{means_same}
use Rattle.vtp_session.proofs.laws.payloads_mean_one_thing.Goals as goal

pub returns : goal.returns
returns c side place payload unanswered a d = means_same c.trees_are_unique.ensures side place payload unanswered a d
