use Rattle.std.proofs.lemmas.Result.{on_ok_weaker}
use Rattle.voe_net.specs.Kept.{end_of}
use Rattle.voe_net.proofs.Crashed.{loaded_again, reads_left}
use Rattle.voe_net.proofs.crashing.load_crashed.Goals as goal

pub load-requires-clause-reading : goal.load-requires-clause-reading
load-requires-clause-reading g c =
    let state = c.crash.new.self in
    reads_left g.D.Disk c.args.disk state (g.met.D.CrashDisk.tells state) c.crash.ensures.image c.args.kind c.requires

pub returns-clause-loaded : goal.returns-clause-loaded
returns-clause-loaded g c =
    let state = c.crash.new.self in
    on_ok_weaker c.load.result.1
    (loaded_again g.D.Disk c.args.disk state (g.met.D.CrashDisk.tells state) c.crash.ensures.image c.crash.ensures.exact_image c.crash.ensures.exact_told (end_of c.load.result.0))
    c.load.ensures.loaded
