use Rattle.std.proofs.lemmas.Result.{on_ok_weaker}
use Rattle.voe_net.specs.Kept.{end_of}
use Rattle.voe_net.proofs.Crashed.{crash_shown, crash_told, leaves}
use Rattle.voe_net.proofs.crashing.crash_node.Goals as goal

pub load_after_crash-requires : goal.load_after_crash-requires
load_after_crash-requires g c =
    let up = c.is_up.ensures.up.0 c.if-not-is_up.false in
    leaves g.D.Disk c.args.node c.requires up (c.is_up.ensures.sound up)

pub returns-clause-crashed : goal.returns-clause-crashed
returns-clause-crashed g c =
    let up = c.is_up.ensures.up.0 c.if-not-is_up.false in
    on_ok_weaker c.load_after_crash.result.1 (crash_shown g.D.Disk c.args.node c.requires up (c.is_up.ensures.sound up) (end_of c.load_after_crash.result.0)) c.load_after_crash.ensures.loaded

pub returns-clause-told : goal.returns-clause-told
returns-clause-told g c =
    let up = c.is_up.ensures.up.0 c.if-not-is_up.false in
    on_ok_weaker c.load_after_crash.result.1 (crash_told g.D.Disk c.args.node c.requires up (c.is_up.ensures.sound up) (end_of c.load_after_crash.result.0)) c.load_after_crash.ensures.loaded
