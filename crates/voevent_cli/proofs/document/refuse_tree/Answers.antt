use Rattle.voevent_cli.proofs.Wants.{matched-no_tree, wanted-no_tree}
use Rattle.voevent_cli.proofs.document.refuse_tree.Goals as goal

pub returns-clause-wanted : goal.returns-clause-wanted
returns-clause-wanted c = λ judged input short refuses. wanted-no_tree judged input c.args.fault c.in-Some.number c.place_of.result c.in_ok-outcome.outcome short refuses
    c.in-Some.ensures c.place_of.ensures c.in_ok-outcome.ensures

pub returns-clause-matched : goal.returns-clause-matched
returns-clause-matched c = λ f input short refuses. matched-no_tree f input c.args.fault c.in-Some.number c.place_of.result c.in_ok-outcome.outcome short refuses
    c.in-Some.ensures c.place_of.ensures c.in_ok-outcome.ensures
