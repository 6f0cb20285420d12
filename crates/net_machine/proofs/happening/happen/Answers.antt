-- Each event.
use Rattle.net_machine.specs.AtEnds.{AllTell}
use Rattle.net_machine.specs.Parts.{moment_of}
use Rattle.net_machine.proofs.Happenings.{done-happened, done-stop}
use Rattle.net_machine.proofs.happening.happen.Goals as goal

pub returns-in_ok-write-in-Write-clause-done : goal.returns-in_ok-write-in-Write-clause-done
returns-in_ok-write-in-Write-clause-done g c =
    rw c.in-Write.is
    (done-happened g.N.NetEnd.is_right c.args.plan.now.graph c.args.plan.now.packets.now _ (AllTell g.N.NetEnd.tells_crash c.args.parts.now.seats)
    (moment_of g.N.NetEnd.view c.args.parts.now) (moment_of g.N.NetEnd.view c.write.new.parts) tt c.requires.sound c.in_ok-write-in-Write.ensures.happened)

pub returns-in_ok-_sent-in-Send-clause-done : goal.returns-in_ok-_sent-in-Send-clause-done
returns-in_ok-_sent-in-Send-clause-done g c =
    rw c.in-Send.is
    (done-happened g.N.NetEnd.is_right c.args.plan.now.graph c.args.plan.now.packets.now _ (AllTell g.N.NetEnd.tells_crash c.args.parts.now.seats)
    (moment_of g.N.NetEnd.view c.args.parts.now) (moment_of g.N.NetEnd.view c.send.new.parts) tt c.requires.sound c.in_ok-_sent-in-Send.ensures.happened)

pub returns-in_ok-_came-in-Down-clause-done : goal.returns-in_ok-_came-in-Down-clause-done
returns-in_ok-_came-in-Down-clause-done g c =
    rw c.in-Down.is
    (done-happened g.N.NetEnd.is_right c.args.plan.now.graph c.args.plan.now.packets.now _ (AllTell g.N.NetEnd.tells_crash c.args.parts.now.seats)
    (moment_of g.N.NetEnd.view c.args.parts.now) (moment_of g.N.NetEnd.view c.arrive.new.parts) tt c.requires.sound c.in_ok-_came-in-Down.ensures.happened)

pub returns-in_ok-_heard-in-Up-clause-done : goal.returns-in_ok-_heard-in-Up-clause-done
returns-in_ok-_heard-in-Up-clause-done g c =
    rw c.in-Up.is
    (done-happened g.N.NetEnd.is_right c.args.plan.now.graph c.args.plan.now.packets.now _ (AllTell g.N.NetEnd.tells_crash c.args.parts.now.seats)
    (moment_of g.N.NetEnd.view c.args.parts.now) (moment_of g.N.NetEnd.view c.hear.new.parts) tt c.requires.sound c.in_ok-_heard-in-Up.ensures.happened)

pub returns-in-Cut-clause-done : goal.returns-in-Cut-clause-done
returns-in-Cut-clause-done g c =
    rw c.in-Cut.is
    (done-happened g.N.NetEnd.is_right c.args.plan.now.graph c.args.plan.now.packets.now _ (AllTell g.N.NetEnd.tells_crash c.args.parts.now.seats)
    (moment_of g.N.NetEnd.view c.args.parts.now) (moment_of g.N.NetEnd.view c.cut.new.parts) tt c.requires.sound c.cut.ensures.happened)

pub returns-in_ok-connect-in-Connect-clause-done : goal.returns-in_ok-connect-in-Connect-clause-done
returns-in_ok-connect-in-Connect-clause-done g c =
    rw c.in-Connect.is
    (done-happened g.N.NetEnd.is_right c.args.plan.now.graph c.args.plan.now.packets.now _ (AllTell g.N.NetEnd.tells_crash c.args.parts.now.seats)
    (moment_of g.N.NetEnd.view c.args.parts.now) (moment_of g.N.NetEnd.view c.connect.new.parts) tt c.requires.sound c.in_ok-connect-in-Connect.ensures.happened)

pub returns-in_ok-crash-in-Crash-clause-done : goal.returns-in_ok-crash-in-Crash-clause-done
returns-in_ok-crash-in-Crash-clause-done g c =
    rw c.in-Crash.is
    (done-happened g.N.NetEnd.is_right c.args.plan.now.graph c.args.plan.now.packets.now _ (AllTell g.N.NetEnd.tells_crash c.args.parts.now.seats)
    (moment_of g.N.NetEnd.view c.args.parts.now) (moment_of g.N.NetEnd.view c.crash.new.parts) tt c.requires.sound c.in_ok-crash-in-Crash.ensures.happened)

pub returns-in-Reopen-clause-done : goal.returns-in-Reopen-clause-done
returns-in-Reopen-clause-done g c =
    rw c.in-Reopen.is
    (done-happened g.N.NetEnd.is_right c.args.plan.now.graph c.args.plan.now.packets.now _ (AllTell g.N.NetEnd.tells_crash c.args.parts.now.seats)
    (moment_of g.N.NetEnd.view c.args.parts.now) (moment_of g.N.NetEnd.view c.reopen.new.parts) tt c.requires.sound c.reopen.ensures.happened)

pub returns-in_ok-stop-in-Stop-clause-done : goal.returns-in_ok-stop-in-Stop-clause-done
returns-in_ok-stop-in-Stop-clause-done g c =
    rw c.in-Stop.is
    (done-stop g.N.NetEnd.is_right c.args.plan.now.graph c.args.plan.now.packets.now _ _ _ (AllTell g.N.NetEnd.tells_crash c.args.parts.now.seats)
    (moment_of g.N.NetEnd.view c.args.parts.now) (moment_of g.N.NetEnd.view c.stop.new.parts) c.requires.sound c.in_ok-stop-in-Stop.ensures.stopped)
