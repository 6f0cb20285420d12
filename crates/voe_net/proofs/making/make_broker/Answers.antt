use Rattle.std.proofs.Common.{◌≡◌, ap, length, subst, sym, ◌∙◌}
use Rattle.std.proofs.lemmas.List.{length-map}
use Rattle.voe_disk.specs.Disk.{Arming}
use Rattle.node_notes.specs.declared.config.Config.{Config}
use Rattle.voe_net.specs.Nodes.{AreDistinct, names_of}
use Rattle.voe_net.proofs.Beginning.{make_lost}
use Rattle.voe_net.proofs.Crashed.{configured}
use Rattle.voe_net.proofs.making.make_broker.Goals as goal

pub why_lost-requires : goal.why_lost-requires
why_lost-requires g c =
    make_lost g.D.Disk c.args.config c.args.disk c.requires.unarmed (g.met.D.CrashDisk.tells c.args.disk) c.requires.unmade c.in-Err.disk c.in-Err.fault c.in-Err.ensures.err

pub begin_sessions-requires-clause-names : goal.begin_sessions-requires-clause-names
begin_sessions-requires-clause-names g c = subst (λ (k : Config). AreDistinct (names_of k.links)) (sym c.in-Ok.ensures.ok.1.config_is) c.requires.names

pub returns-in-Ok-begin_sessions-clause-node : goal.returns-in-Ok-begin_sessions-clause-node
returns-in-Ok-begin_sessions-clause-node g c =
    let made = c.in-Ok.ensures.ok in
    let joined = c.begin_sessions.ensures.same in
    let new = c.begin_sessions.new.end in
    let config_is : new.config ≡ c.args.config = joined.config_is ∙ made.1.config_is in
    record {
      kind = ap (λ (k : Config). k.kind) config_is ∙ c.requires.kind;
      sessions = ap length c.in-Ok-begin_sessions.ensures.begun ∙ (length-map c.in-Ok.end.config.links (λ link. 1) ∙ sym (ap (λ (k : Config). length k.links) joined.config_is));
      configured = λ up. configured g.D.Disk new c.args.config config_is c.requires.form c.requires.filters c.requires.names;
      unarmed = ap (λ (a : Arming). a.calls) joined.arming ∙ made.1.same_disk.unarmed c.requires.unarmed;
    }
