use Rattle.std.proofs.Common.{Some, sym, subst}
use Rattle.std.specs.Prelude.{Option, Result}
use Rattle.net_model.specs.declared.state.Verdict.{Verdict}
use Rattle.net_machine.specs.declared.fault.EndFault.{EndFault}
use Rattle.voe_net.specs.Kept.{end_of}
use Rattle.voe_net.specs.Performed.{HasPerformed}
use Rattle.voe_net.proofs.Performed.{has_done, node_after, performed}
use Rattle.voe_net.proofs.performing.perform_on.Goals as goal

pub returns-clause-node : goal.returns-clause-node
returns-clause-node g c =
    let said = c.work.ensures in
    let old = c.args.kept.now in
    let new = c.work.new.kept in
    node_after g.D.Disk c.args.work old new c.work.result c.requires.node said.kind said.sessions
    (has_done g.D.Disk c.args.work old new c.work.result said.was_up said.was_down)

pub returns-clause-performed : goal.returns-clause-performed
returns-clause-performed g c =
    let said = c.work.ensures in
    let old = c.args.kept.now in
    let new = c.work.new.kept in
    let P : Result (Option Verdict) EndFault → Type 0 = λ r. HasPerformed g.D.Disk c.args.work (Some (end_of old)) (Some (end_of new)) r in
    subst P (sym c.told.ensures)
    (performed g.D.Disk c.args.work old new c.work.result c.requires.node
    (has_done g.D.Disk c.args.work old new c.work.result said.was_up said.was_down))
