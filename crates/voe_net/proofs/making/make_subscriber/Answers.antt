use Rattle.std.proofs.Common.{◌∙◌, ap}
use Rattle.node_notes.specs.declared.config.Config.{Config}
use Rattle.voe_net.proofs.Beginning.{make_lost}
use Rattle.voe_net.proofs.Crashed.{configured}
use Rattle.voe_net.proofs.making.make_subscriber.Goals as goal

pub why_lost-requires : goal.why_lost-requires
why_lost-requires g c =
    make_lost g.D.Disk c.args.config c.args.disk c.requires.unarmed (g.met.D.CrashDisk.tells c.args.disk) c.requires.unmade c.in-Err.disk c.in-Err.fault c.in-Err.ensures.err

pub returns-in-Ok-clause-node : goal.returns-in-Ok-clause-node
returns-in-Ok-clause-node g c =
    let ok = c.in-Ok.ensures.ok in
    record {
      kind = ap (λ (k : Config). k.kind) ok.1.config_is ∙ c.requires.kind;
      sessions = ok.0;
      configured = λ up. configured g.D.Disk c.in-Ok.end c.args.config ok.1.config_is c.requires.form c.requires.filters c.requires.names;
      unarmed = ok.1.same_disk.unarmed c.requires.unarmed;
    }
