use Rattle.voe_values.specs.declared.kind.NodeKind.TheVariants.{Author}
use Rattle.voe_net.proofs.Loading.{load_configured, load_lost}
use Rattle.voe_net.proofs.crashing.load_author.Goals as goal

pub why_lost-requires : goal.why_lost-requires
why_lost-requires g c = load_lost g.D.Disk Author c.args.disk c.requires.reading c.in-Err.disk c.in-Err.fault c.requires.unarmed c.in-Err.ensures.err

pub returns-in-Ok-clause-node : goal.returns-in-Ok-clause-node
returns-in-Ok-clause-node g c =
    let ok = c.in-Ok.ensures.ok in
    record {
      kind = ok.1;
      sessions = ok.0;
      configured = λ up. load_configured g.D.Disk Author c.args.disk c.requires.reading c.in-Ok.end ok.3;
      unarmed = ok.3.same_disk.unarmed c.requires.unarmed;
    }
