use Rattle.std.proofs.Common.{[]}
use Rattle.vtp_server.specs.OneEnd.{state_of}
use Rattle.vtp_server.proofs.EndCalls.{followed_nothing, following_told, nothing_entered}
use Rattle.vtp_server.proofs.one_end.listen.Goals as goal

pub returns-in_default-clause-entered : goal.returns-in_default-clause-entered
returns-in_default-clause-entered g c = nothing_entered c.args.count (state_of g.D.Disk c.args.end.now) (g.K.Sink.held c.args.sink.now)

pub returns-in_default-clause-talk : goal.returns-in_default-clause-talk
returns-in_default-clause-talk g c = followed_nothing g.D.Disk g.L.Link g.K.Sink c.args.timers c.args.end.now.config.name [] c.args.count (g.C.Clock.moment c.args.clock.now) c.args.end.now c.args.link.now c.args.sink.now

pub returns-clause-entered : goal.returns-clause-entered
returns-clause-entered g c =
    (following_told g.D.Disk g.L.Link g.K.Sink c.args.timers c.in-Ok.voice.name c.in-Ok.voice.filters c.args.count (g.C.Clock.moment c.args.clock.now) c.listen_over.result c.args.end.now c.listen_over.new.seat c.args.link.now c.listen_over.new.link c.args.sink.now c.listen_over.new.sink c.listen_over.ensures.talk).0

pub returns-clause-same : goal.returns-clause-same
returns-clause-same g c =
    (following_told g.D.Disk g.L.Link g.K.Sink c.args.timers c.in-Ok.voice.name c.in-Ok.voice.filters c.args.count (g.C.Clock.moment c.args.clock.now) c.listen_over.result c.args.end.now c.listen_over.new.seat c.args.link.now c.listen_over.new.link c.args.sink.now c.listen_over.new.sink c.listen_over.ensures.talk).1
