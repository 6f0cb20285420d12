use Rattle.std.proofs.Common.{◌≡◌, ℕ, List, subst}
use Rattle.std.specs.Prelude.{IfOk, Option}
use Rattle.std.specs.Option.{option_map}
use Rattle.net_model.specs.Rules.{NodeRules}
use Rattle.node_book.specs.Ends.{EndView}
use Rattle.net_machine.specs.Works.{IsAbout, work_answer, worked}
use Rattle.voe_net.specs.Kept.{end_of}
use Rattle.voe_net.specs.Nodes.{show}
use Rattle.voe_net.specs.Right.{IsRight}
use Rattle.voe_net.proofs.node_end.NodeEndNetEnd.perform.Goals as goal

pub returns-clause-value : goal.returns-clause-value
returns-clause-value g c =
    let new = option_map end_of c.perform.new.kept in
    let work = c.args.work in
    let P : Option (EndView _) → Type 0 = λ v. IfOk c.perform.result (λ answer. (rules : NodeRules) (packets : List (List ℕ)) → IsAbout work packets → IsRight (show v).config packets rules
    → (show new ≡ worked rules (show v) work) × (answer ≡ work_answer rules (show v) work)) in
    subst P c.self.view_is c.perform.ensures.performed.value
