-- The network at its beginning.
use Rattle.std.proofs.Common.{List, ap, arith, length, sym, ◌∙◌, subst}
use Rattle.std.specs.Prelude.{map}
use Rattle.net_model.specs.declared.scenario.Graph as net
use Rattle.net_machine.specs.Parts.{slots_of}
use Rattle.voe_net.specs.Networks.{AreOwn}
use Rattle.voe_net.specs.Nodes.{show}
use Rattle.voe_net.specs.Starting.{AllBlank, AllTellImages}
use Rattle.voe_net.proofs.Begins.{all-own, configs-begun, counts-begun, told-begun}
use Rattle.voe_net.proofs.network.Network.new.Goals as goal

pub invariant_of-result : goal.invariant_of-result
invariant_of-result g c = record {
  empty = c.in-Ok.ensures.empty.0;
  enough = omega (arith, c.in-Ok.ensures.ok.begun.same, c.in-Ok.ensures.empty.1);
  own = λ works. subst (λ (graph : net.Graph). AreOwn graph (slots_of show c.in-Ok.machine.parts.seats)) (sym c.in-Ok.ensures.ok.graph_is)
      (all-own g.D.Disk c.args.graph.now c.into_vec-disks.result.items c.in-Ok.machine.parts.seats c.in-Ok.ensures.ok.begun (ap length c.into_vec-disks.ensures ∙ c.requires.disks)
      (record { forms = c.requires.configs; filters = c.requires.filters }));
}

pub returns-in-Ok-clause-configs : goal.returns-in-Ok-clause-configs
returns-in-Ok-clause-configs g c =
    configs-begun g.D.Disk c.args.graph.now c.into_vec-disks.result.items c.in-Ok.machine.parts.seats c.in-Ok.ensures.ok.begun (ap length c.into_vec-disks.ensures ∙ c.requires.disks)

pub returns-in-Ok-clause-blank : goal.returns-in-Ok-clause-blank
returns-in-Ok-clause-blank g c = subst (λ (disks : List g.row.D.Denot). AllBlank g.D.Disk disks) c.into_vec-disks.ensures c.in-Ok.ensures.blank

pub returns-in-Ok-clause-told : goal.returns-in-Ok-clause-told
returns-in-Ok-clause-told g c = λ tells.
    told-begun g.D.Disk c.args.graph.now c.into_vec-disks.result.items c.in-Ok.machine.parts.seats c.in-Ok.ensures.ok.begun
    (subst (λ (disks : List g.row.D.Denot). AllTellImages g.D.Disk disks) (sym c.into_vec-disks.ensures) tells)

pub returns-in-Ok-clause-counts : goal.returns-in-Ok-clause-counts
returns-in-Ok-clause-counts g c =
    counts-begun g.D.Disk c.args.graph.now c.into_vec-disks.result.items c.in-Ok.machine.parts.seats c.in-Ok.ensures.ok.begun ∙ ap (map g.D.Disk.faults) c.into_vec-disks.ensures
