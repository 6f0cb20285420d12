use Rattle.std.proofs.Common.{◌≡◌, ℕ, Bool, List, subst}
use Rattle.std.specs.Prelude.{OnOk, Option}
use Rattle.std.specs.Option.{option_map}
use Rattle.net_model.specs.Rules.{NodeRules}
use Rattle.node_book.specs.Ends.{EndView}
use Rattle.net_machine.specs.Works.{IsAbout, cut_short}
use Rattle.voe_net.specs.Kept.{end_of}
use Rattle.voe_net.specs.Nodes.{show}
use Rattle.voe_net.specs.Right.{IsRight}
use Rattle.voe_net.proofs.node_end.NodeEndNetEnd.stop.Goals as goal

pub returns-clause-either : goal.returns-clause-either
returns-clause-either g c =
    let new = option_map end_of c.stop.new.kept in
    let work = c.args.work in
    let P : Option (EndView _) → Type 0 = λ v. OnOk c.stop.result ((rules : NodeRules) (packets : List (List ℕ)) → IsAbout work packets → IsRight (show v).config packets rules
    → (outlives : Bool) × (show new ≡ cut_short outlives rules (show v) work)) in
    subst P c.self.view_is c.stop.ensures.either
