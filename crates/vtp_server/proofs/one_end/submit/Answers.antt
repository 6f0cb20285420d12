use Rattle.std.proofs.Common.{[], ap}
use Rattle.node_book.specs.Keeps.{has_room}
use Rattle.vtp_server.specs.OneEnd.{down_of, state_of}
use Rattle.vtp_server.proofs.AuthorTalks.{nothing_told}
use Rattle.vtp_server.proofs.EndCalls.{submission_expected, submission_told, submitted_nothing}
use Rattle.vtp_server.proofs.one_end.submit.Goals as goal

pub returns-in_default-clause-talk : goal.returns-in_default-clause-talk
returns-in_default-clause-talk g c = submitted_nothing g.D.Disk g.L.Link c.args.line c.args.timers c.args.end.now.config.name [] (g.C.Clock.moment c.args.clock.now) c.args.end.now c.args.link.now

pub returns-in_default-clause-replies : goal.returns-in_default-clause-replies
returns-in_default-clause-replies g c h = submission_expected g.D.Disk g.L.Link c.args.line c.args.timers c.args.end.now.config.name [] (g.C.Clock.moment c.args.clock.now) _ c.args.end.now c.args.end.now c.args.link.now c.args.link.now h

pub returns-clause-told : goal.returns-clause-told
returns-clause-told g c =
    (submission_told g.D.Disk g.L.Link c.args.line c.args.timers c.in-Ok.voice.name c.in-Ok.voice.filters (g.C.Clock.moment c.args.clock.now) c.submit_over.result c.args.end.now c.submit_over.new.seat c.args.link.now c.submit_over.new.link c.submit_over.ensures.talk).0

pub returns-clause-same : goal.returns-clause-same
returns-clause-same g c =
    (submission_told g.D.Disk g.L.Link c.args.line c.args.timers c.in-Ok.voice.name c.in-Ok.voice.filters (g.C.Clock.moment c.args.clock.now) c.submit_over.result c.args.end.now c.submit_over.new.seat c.args.link.now c.submit_over.new.link c.submit_over.ensures.talk).1

pub returns-clause-nothing : goal.returns-clause-nothing
returns-clause-nothing g c up none =
    nothing_told c.args.line (λ notes note. has_room c.args.end.now.config notes note) (state_of g.D.Disk c.args.end.now) c.submit_over.result (state_of g.D.Disk c.submit_over.new.seat) (ap (down_of g.D.Disk c.args.end.now.disk) up) none
    (submission_told g.D.Disk g.L.Link c.args.line c.args.timers c.in-Ok.voice.name c.in-Ok.voice.filters (g.C.Clock.moment c.args.clock.now) c.submit_over.result c.args.end.now c.submit_over.new.seat c.args.link.now c.submit_over.new.link c.submit_over.ensures.talk).0

pub returns-clause-replies : goal.returns-clause-replies
returns-clause-replies g c h = submission_expected g.D.Disk g.L.Link c.args.line c.args.timers c.args.end.now.config.name [] (g.C.Clock.moment c.args.clock.now) c.submit_over.result c.args.end.now c.submit_over.new.seat c.args.link.now c.submit_over.new.link h
