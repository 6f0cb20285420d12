use Rattle.std.proofs.Common.{◌≡◌, ℕ, List, Some, false, ap, sym, ◌∙◌}
use Rattle.std.specs.Prelude.{slice_get}
use Rattle.net_model.specs.Steps.{broker_join}
use Rattle.node_notes.specs.declared.config.Config.{Config}
use Rattle.node_notes.specs.declared.config.LinkConfig.{LinkConfig}
use Rattle.node_book.specs.Book.{BookView}
use Rattle.broker_end.specs.Broker.{fate_of}
use Rattle.voe_net.specs.Nodes.{names_of}
use Rattle.voe_net.proofs.Joining.{joined_by, joins_at, no_rules}
use Rattle.voe_net.proofs.making.begin_session.Goals as goal

pub returns-clause-same : goal.returns-clause-same
returns-clause-same g c =
    let old = c.args.end.now in
    joined_by g.D.Disk old c.step.new.self (broker_join (names_of old.config.links) old.notes old.sessions c.in_ok-name.name).answer c.step.result (fate_of c.step.result)
    c.step.ensures.config (c.step.ensures.happens c.requires.up no_rules (λ packet. false) tt)

pub returns-clause-begun : goal.returns-clause-begun
returns-clause-begun g c =
    let old = c.args.end.now in
    let links : c.config.result.now.links ≡ old.config.links = ap (λ (k : Config). k.links) (c.config.ensures ∙ ap (λ (b : BookView g.row.D.Denot). b.config) c.book.ensures) in
    let found : slice_get old.config.links c.args.link ≡ Some c.in-Some.config.now = sym (c.in-Some.ensures.value ∙ ap (λ (l : List LinkConfig). slice_get l c.args.link) links) in
    c.step.ensures.sessions c.requires.up
    ∙ (ap (λ (name : List ℕ). (broker_join (names_of old.config.links) old.notes old.sessions name).sessions) c.in_ok-name.ensures
    ∙ joins_at old.config.links old.notes old.sessions c.args.link c.in-Some.config.now c.requires.names found)
