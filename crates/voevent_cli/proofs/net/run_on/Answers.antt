-- A network that begins and is stepped through all events was run.
use Rattle.std.proofs.Common.{◌∙◌, ap, length, arith}
use Rattle.std.proofs.lemmas.List.{length-map}
use Rattle.voevent_cli.proofs.Ran.{all_packets, hindered_where, not_begun, ran, refused_where}
use Rattle.voevent_cli.proofs.net.run_on.Goals as goal

pub new-requires-clause-packets : goal.new-requires-clause-packets
new-requires-clause-packets g c = rw c.as_slice.ensures (all_packets c.args.scenario.now.packets c.requires.sound.so_far.short)

pub returns-in-Ok-clause-done : goal.returns-in-Ok-clause-done
returns-in-Ok-clause-done g c =
    let new = c.in-Ok.ensures in
    let stepped = c.report_of_run-result.ensures in
    let events = c.as_slice-in-Ok.ensures in
    ran g.D.Disk c.args.scenario.now c.args.disks c.into_disks.result c.in-Ok.network c.report_of_run-result.new.network c.report_of_run-result.result c.requires.right
    (record {
      graph = new.fixed.0;
      packets = new.fixed.1 ∙ c.as_slice.ensures;
      configs = new.configs;
      state = new.state;
      blank = new.blank;
      told = new.told;
      counts = new.counts;
    })
    (record {
      works = stepped.works;
      graph = stepped.fixed;
      configs = stepped.configs;
      reports = stepped.reports;
      exact = rw events at stepped.exact;
    })
    (omega (arith, c.into_disks.ensures.number, stepped.counts.same, ap length new.counts, length-map c.args.disks g.D.Disk.faults, c.requires.count))
    c.into_disks.ensures.kept

pub returns-in-Ok-clause-failed : goal.returns-in-Ok-clause-failed
returns-in-Ok-clause-failed g c =
    let new = c.in-Ok.ensures in
    let stepped = c.report_of_run-result.ensures in
    hindered_where g.D.Disk c.args.disks c.into_disks.result c.in-Ok.network.faults c.report_of_run-result.new.network.faults c.report_of_run-result.result
    new.counts c.into_disks.ensures.counts stepped.failed

pub returns-in-Ok-clause-count : goal.returns-in-Ok-clause-count
returns-in-Ok-clause-count g c =
    let new = c.in-Ok.ensures in
    let stepped = c.report_of_run-result.ensures in
    omega (arith, c.into_disks.ensures.number, stepped.counts.same, ap length new.counts, length-map c.args.disks g.D.Disk.faults)

pub returns-in-Err-clause-done : goal.returns-in-Err-clause-done
returns-in-Err-clause-done g c =
    refused_where g.D.Disk c.args.scenario.now c.args.disks c.in-Err.disks c.in-Err.fault c.refuse.result c.in-Err.ensures.back.cause c.refuse.ensures.shown

pub returns-in-Err-clause-failed : goal.returns-in-Err-clause-failed
returns-in-Err-clause-failed g c =
    not_begun g.D.Disk c.args.disks c.in-Err.disks c.in-Err.fault c.refuse.result c.in-Err.ensures.back.cause c.refuse.ensures.hindered
