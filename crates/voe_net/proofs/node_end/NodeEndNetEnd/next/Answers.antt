use Rattle.std.proofs.Common.{◌≡◌, subst}
use Rattle.std.specs.Prelude.{IfOk, Option}
use Rattle.std.specs.Option.{option_map}
use Rattle.net_model.specs.Notes.{first_from, to_send}
use Rattle.node_book.specs.Ends.{EndView}
use Rattle.net_machine.specs.Works.{sent_of}
use Rattle.voe_net.specs.Nodes.{show}
use Rattle.voe_net.proofs.node_end.NodeEndNetEnd.next.Goals as goal

pub returns-clause-found : goal.returns-clause-found
returns-clause-found g c =
    let P : Option (EndView _) → Type 0 = λ v. IfOk c.next.result (λ found. found ≡ option_map sent_of (first_from (to_send (show v).notes c.args.number) c.args.after 0 (show v).notes)) in
    subst P c.self.view_is c.next.ensures.found.found
