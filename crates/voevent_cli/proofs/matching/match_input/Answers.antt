use Rattle.voevent_cli.proofs.Wants.{matched-tree}
use Rattle.filter_text.specs.View.{path_of}
use Rattle.voevent_cli.proofs.matching.match_input.Goals as goal

pub returns-in_ok-outcome-in-Ok : goal.returns-in_ok-outcome-in-Ok
returns-in_ok-outcome-in-Ok c = matched-tree (path_of c.args.filter.now) c.args.input.now c.in-Ok.tree.root c.in_ok-outcome-in-Ok.outcome c.requires c.in-Ok.ensures c.in_ok-outcome-in-Ok.ensures
