use Rattle.voevent_cli.specs.Documents.{shown}
use Rattle.voevent_cli.proofs.Wants.{wanted-tree}
use Rattle.voevent_cli.proofs.show.answer_of_show.Goals as goal

pub returns-in_ok-outcome-in-Ok : goal.returns-in_ok-outcome-in-Ok
returns-in_ok-outcome-in-Ok c =
    wanted-tree shown c.args.input.now c.in-Ok.tree.root c.in_ok-outcome-in-Ok.outcome c.requires c.in-Ok.ensures c.in_ok-outcome-in-Ok.ensures
