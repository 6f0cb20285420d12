use Rattle.std.specs.Prelude.{OnOk, Option}
use Rattle.std.specs.Option.{option_map}
use Rattle.voe_net.specs.Kept.{end_of}
use Rattle.voe_net.specs.Nodes.{TellsCrash}
use Rattle.voe_net.specs.declared.kept.Kept.{Kept}
use Rattle.voe_net.proofs.Crashed.{moved}
use Rattle.voe_net.proofs.crashing.crash.Goals as goal

pub returns-clause-told : goal.returns-clause-told
returns-clause-told g c =
    let d = g.D.Disk in
    let P : Option (Kept g.row.D.Denot) → Option (Kept g.row.D.Denot) → Type 0 =
    λ before after. OnOk c.crash_node-node.result.1 (TellsCrash d (option_map end_of before) → TellsCrash d (option_map end_of after)) in
    moved (Kept g.row.D.Denot) P c.in-Some.node c.crash_node-node.result.0 c.args.kept.now c.put_back.new.kept c.in-Some.ensures.value c.put_back.ensures c.crash_node-node.ensures.told
