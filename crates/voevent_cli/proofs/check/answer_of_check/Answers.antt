use Rattle.voevent_cli.specs.Documents.{checked}
use Rattle.voevent_cli.proofs.Wants.{wanted-tree}
use Rattle.voevent_cli.proofs.check.answer_of_check.Goals as goal

pub returns-in_ok-outcome-in-Ok : goal.returns-in_ok-outcome-in-Ok
returns-in_ok-outcome-in-Ok c =
    wanted-tree checked c.args.input.now c.in-Ok.tree.root c.in_ok-outcome-in-Ok.outcome c.requires c.in-Ok.ensures c.in_ok-outcome-in-Ok.ensures
