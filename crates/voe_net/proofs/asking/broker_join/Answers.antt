use Rattle.std.proofs.Common.{ℕ, Bool, false, List, sym, subst}
use Rattle.std.specs.Prelude.{Result}
use Rattle.net_machine.specs.declared.fault.EndFault.{EndFault}
use Rattle.voe_net.specs.Asked.{IsEntered}
use Rattle.voe_net.specs.Nodes.{names_of}
use Rattle.voe_net.proofs.Asked.{entered, place_is}
use Rattle.voe_net.proofs.Told.{any_rules}
use Rattle.voe_net.proofs.asking.broker_join.Goals as goal

pub returns : goal.returns
returns g c =
    let d = g.D.Disk in
    let old = c.args.end.now in
    let new = c.step.new.self in
    let said = c.step.ensures in
    let shows : List ℕ → Bool = λ bytes. false in
    let names = names_of old.config.links in
    let name = c.in-Ok.name in
    let P : Result ℕ EndFault → Type 0 = λ r. IsEntered d c.args.link old new r in
    subst P (sym c.entered.ensures)
    (entered d old new names name c.args.link c.step.result (place_is names name c.args.link c.in-Ok.ensures c.requires.names)
    (record { config_is = said.config; sessions_are = said.sessions c.requires.up; steps_are = said.steps; same_disk = said.same_disk })
    (said.happens c.requires.up (any_rules old.config) shows tt))
