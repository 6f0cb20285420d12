-- What the machine did.
use Rattle.std.proofs.Common.{sym, ◌∙◌, ap, subst}
use Rattle.net_model.specs.declared.scenario.Graph.{Graph}
use Rattle.net_machine.specs.Parts.{moment_of, slots_of}
use Rattle.voe_net.specs.Networks.{AreOwn}
use Rattle.voe_net.specs.Nodes.{faults_of, show}
use Rattle.voe_net.proofs.Shows.{kept-room, own-after}
use Rattle.voe_net.proofs.network.Network.apply_all.Goals as goal

pub invariant_of-self-2 : goal.invariant_of-self-2
invariant_of-self-2 g c = record {
  empty = c.self.invariant.empty;
  enough = kept-room (faults_of g.D.Disk) c.self.inside.machine.parts.seats c.apply_all.new.self.parts.seats _ c.apply_all.ensures.faults.grown c.self.invariant.enough;
  own = λ works. subst (λ (graph : Graph). AreOwn graph (slots_of show c.apply_all.new.self.parts.seats)) (sym c.apply_all.ensures.fixed.0)
      (own-after c.self.inside.machine.graph c.self.inside.machine.packets (slots_of show c.self.inside.machine.parts.seats) (moment_of show c.apply_all.new.self.parts)
      c.in_ok-apply_all.ensures.done.configs c.in_ok-apply_all.ensures.done.sound.whole (c.self.invariant.own (ap (λ n. n.failed) c.self.view_is ∙ c.requires)));
}

pub returns-clause-exact : goal.returns-clause-exact
returns-clause-exact g c = rw (← c.self.view_is) c.in_ok-apply_all.ensures.done.exact

pub returns-clause-told : goal.returns-clause-told
returns-clause-told g c = rw (← c.self.view_is) c.in_ok-apply_all.ensures.told
