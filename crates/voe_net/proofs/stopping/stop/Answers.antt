use Rattle.std.proofs.Common.{◌≡◌, Bool, List, ℕ}
use Rattle.std.specs.Prelude.{OnOk, Option}
use Rattle.std.specs.Option.{option_map}
use Rattle.std.proofs.lemmas.Result.{on_ok_weaker}
use Rattle.net_model.specs.Rules.{NodeRules}
use Rattle.net_model.specs.Runs.{is_kept}
use Rattle.net_machine.specs.Works.{IsAbout, cut_short}
use Rattle.voe_net.specs.Kept.{end_of}
use Rattle.voe_net.specs.Nodes.{TellsCrash, show}
use Rattle.voe_net.specs.Right.{IsRight}
use Rattle.voe_net.specs.Stopping.{IsStopped}
use Rattle.voe_net.specs.declared.kept.Kept.{Kept}
use Rattle.voe_net.proofs.Crashed.{moved}
use Rattle.voe_net.proofs.stopping.stop.Goals as goal

pub returns-clause-exact : goal.returns-clause-exact
returns-clause-exact g c =
    let d = g.D.Disk in
    let node = c.stop_node-node in
    let P : Option (Kept g.row.D.Denot) → Option (Kept g.row.D.Denot) → Type 0 = λ before after. OnOk node.result.1
    (TellsCrash d (option_map end_of before) → (rules : NodeRules) (packets : List (List ℕ)) → IsAbout c.args.work packets → IsRight (show (option_map end_of before)).config packets rules
    → show (option_map end_of after) ≡ cut_short (is_kept c.args.calls c.args.fill) rules (show (option_map end_of before)) c.args.work) in
    moved (Kept g.row.D.Denot) P c.in-Some.node node.result.0 c.args.kept.now c.put_back.new.kept c.in-Some.ensures.value c.put_back.ensures
    (on_ok_weaker node.result.1 (λ (is : IsStopped d c.args.calls c.args.fill c.args.work (end_of c.in-Some.node) (end_of node.result.0)). is.exact) node.ensures.stopped)

pub returns-clause-either : goal.returns-clause-either
returns-clause-either g c =
    let d = g.D.Disk in
    let node = c.stop_node-node in
    let P : Option (Kept g.row.D.Denot) → Option (Kept g.row.D.Denot) → Type 0 = λ before after. OnOk node.result.1
    ((rules : NodeRules) (packets : List (List ℕ)) → IsAbout c.args.work packets → IsRight (show (option_map end_of before)).config packets rules
    → (outlives : Bool) × (show (option_map end_of after) ≡ cut_short outlives rules (show (option_map end_of before)) c.args.work)) in
    moved (Kept g.row.D.Denot) P c.in-Some.node node.result.0 c.args.kept.now c.put_back.new.kept c.in-Some.ensures.value c.put_back.ensures
    (on_ok_weaker node.result.1 (λ (is : IsStopped d c.args.calls c.args.fill c.args.work (end_of c.in-Some.node) (end_of node.result.0)). is.either) node.ensures.stopped)

pub returns-clause-told : goal.returns-clause-told
returns-clause-told g c =
    let d = g.D.Disk in
    let node = c.stop_node-node in
    let P : Option (Kept g.row.D.Denot) → Option (Kept g.row.D.Denot) → Type 0 = λ before after. OnOk node.result.1
    (TellsCrash d (option_map end_of before) → TellsCrash d (option_map end_of after)) in
    moved (Kept g.row.D.Denot) P c.in-Some.node node.result.0 c.args.kept.now c.put_back.new.kept c.in-Some.ensures.value c.put_back.ensures
    (on_ok_weaker node.result.1 (λ (is : IsStopped d c.args.calls c.args.fill c.args.work (end_of c.in-Some.node) (end_of node.result.0)). is.told) node.ensures.stopped)
