-- How the nodes meet what a machine asks.
use Rattle.std.proofs.Common.{◌≡◌, List, ap, reverse, sym, ◌∙◌, subst, ◌++◌}
use Rattle.std.proofs.lemmas.List.{append-nil}
use Rattle.net_machine.specs.declared.seat.Seat.{Seat}
use Rattle.node_book.specs.Ends.{EndView}
use Rattle.std.specs.Prelude.{Option, map}
use Rattle.net_model.specs.declared.scenario.Graph as net
use Rattle.net_model.specs.Runs.{beginning, first_nodes}
use Rattle.net_machine.specs.Parts.{node_of, slots_of}
use Rattle.voe_net.specs.Nodes.{show}
use Rattle.voe_net.specs.Begun.{AreBegun}
use Rattle.voe_net.specs.TakenBack.{AreTakenBack}
use Rattle.voe_net.specs.Starting.{AreBack}
use Rattle.voe_net.specs.declared.fault.NetFault.TheVariants.{NoMemory}
use Rattle.voe_net.proofs.Backs.{all-back}
use Rattle.voe_net.proofs.Begins.{first-begun, own-begun}
use Rattle.voe_net.proofs.start.make_machine.Goals as goal

pub new-requires-clause-own : goal.new-requires-clause-own
new-requires-clause-own g c =
    rw (c.in_ok-shape.ensures, c.from_vec.ensures)
    (own-begun g.D.Disk c.args.graph.now c.args.disks.now.items c.in_ok-seats.seats.items c.in_ok-seats.ensures.ok.1 c.requires.number)

pub new-requires-clause-first : goal.new-requires-clause-first
new-requires-clause-first g c =
    subst (λ (graph : net.Graph). map node_of (slots_of show c.from_vec.result) ≡ first_nodes graph 0 graph.nodes) (sym c.in_ok-shape.ensures)
    (rw c.from_vec.ensures (first-begun g.D.Disk c.args.graph.now c.args.disks.now.items c.in_ok-seats.seats.items c.in_ok-seats.ensures.ok.1 c.requires.number))

pub returns-in-Ok-clause-ok : goal.returns-in-Ok-clause-ok
returns-in-Ok-clause-ok g c = record {
  graph_is = c.in-Ok.ensures.fixed.0 ∙ c.in_ok-shape.ensures;
  packets_are = c.in-Ok.ensures.fixed.1;
  works = c.in-Ok.ensures.fixed.2;
  state = c.in-Ok.ensures.state ∙ ap beginning c.in_ok-shape.ensures;
  begun = subst (λ (seats : List (Seat (Option (EndView g.row.D.Denot)))). AreBegun g.D.Disk c.args.graph.now c.args.disks.now.items seats)
      (sym (c.in-Ok.ensures.seats ∙ c.from_vec.ensures)) c.in_ok-seats.ensures.ok.1;
}

pub returns-in-Err-clause-err : goal.returns-in-Err-clause-err
returns-in-Err-clause-err g c =
    let seats = c.in-Err.ensures.back ∙ c.from_vec.ensures in
    let taken = subst (λ (all : List (Seat (Option (EndView g.row.D.Denot)))). AreTakenBack g.D.Disk all c.give_back.ensures.0) seats c.give_back.ensures.1 in
    let none = ap reverse c.in_ok-seats.ensures.ok.0 in
    let is = c.give_back.ensures.2 ∙ ap (λ rest. c.give_back.ensures.0 ++ rest) none ∙ append-nil c.give_back.ensures.0 in
    subst (λ (all : List g.row.D.Denot). AreBack g.D.Disk c.args.disks.now.items all NoMemory) (sym is)
    (all-back g.D.Disk c.args.graph.now c.args.disks.now.items c.in_ok-seats.seats.items c.give_back.ensures.0 c.in_ok-seats.ensures.ok.1 taken)
