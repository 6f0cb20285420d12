use Rattle.std.proofs.lemmas.Result.{on_ok_weaker}
use Rattle.voe_disk.specs.Runs.{Moments}
use Rattle.voe_net.specs.Crashes.{IsLoadedAgain}
use Rattle.voe_net.specs.Kept.{end_of}
use Rattle.voe_net.specs.Stopping.{IsWhole}
use Rattle.voe_net.proofs.StopNode.{leaves_after, stop_cause, stopped_after}
use Rattle.voe_net.proofs.stopping.stop_node.Goals as goal

pub after_work-requires : goal.after_work-requires
after_work-requires g c =
    let d = g.D.Disk in
    let moments : Moments d = record { itself = g.met.D.Disk.since_itself; earlier = g.met.D.Disk.since_earlier; alone = g.met.D.Disk.one_moment; splits = g.met.D.Disk.splits; last = g.met.D.Disk.last_counts } in
    let work = c.work-worked in
    leaves_after d moments g.met.D.Disk.exact_counts c.args.calls c.args.fill c.args.work c.args.node c.arm.new.node work.new.kept c.requires.node c.arm.ensures work.result work.ensures.same_kind work.ensures.was_up work.ensures.was_down

pub returns-clause-stopped : goal.returns-clause-stopped
returns-clause-stopped g c =
    let d = g.D.Disk in
    let moments : Moments d = record { itself = g.met.D.Disk.since_itself; earlier = g.met.D.Disk.since_earlier; alone = g.met.D.Disk.one_moment; splits = g.met.D.Disk.splits; last = g.met.D.Disk.last_counts } in
    let work = c.work-worked in
    let new = end_of c.after_work.result.0 in
    on_ok_weaker c.after_work.result.1
    (λ (is : IsWhole work.result × IsLoadedAgain d (end_of work.new.kept).disk new). stopped_after d moments g.met.D.Disk.exact_counts c.args.calls c.args.fill c.args.work c.args.node c.arm.new.node work.new.kept c.requires.node c.arm.ensures work.result work.ensures.same_kind work.ensures.was_up work.ensures.was_down is.0 new is.1)
    c.after_work.ensures.loaded

pub returns-clause-faults : goal.returns-clause-faults
returns-clause-faults g c =
    let d = g.D.Disk in
    let moments : Moments d = record { itself = g.met.D.Disk.since_itself; earlier = g.met.D.Disk.since_earlier; alone = g.met.D.Disk.one_moment; splits = g.met.D.Disk.splits; last = g.met.D.Disk.last_counts } in
    let work = c.work-worked in
    stop_cause d moments g.met.D.Disk.exact_counts c.args.calls c.args.fill c.args.work c.args.node c.arm.new.node work.new.kept c.requires.node c.arm.ensures work.result work.ensures.same_kind work.ensures.was_up work.ensures.was_down c.after_work.result.1 (d.faults (end_of c.after_work.result.0).disk) c.after_work.ensures.faults
