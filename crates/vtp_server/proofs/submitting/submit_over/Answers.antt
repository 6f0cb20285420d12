use Rattle.std.proofs.Common.{None, arith, subst}
use Rattle.vtp_session.specs.State.{SessionState}
use Rattle.vtp_session.specs.declared.side.Side.TheVariants as side
use Rattle.vtp_server.specs.AuthorSide.{AuthorMemory, author_rules, submits}
use Rattle.vtp_server.specs.Calls.{terms_by}
use Rattle.vtp_server.specs.Counts.{link_counts}
use Rattle.vtp_server.specs.Ends.{Ends, course_of, standing_of}
use Rattle.vtp_server.specs.Reading.{terms_of}
use Rattle.vtp_server.proofs.Called.{submitted_so}
use Rattle.vtp_server.proofs.submitting.submit_over.Goals as goal

pub returns-clause-talk : goal.returns-clause-talk
returns-clause-talk g c =
    submitted_so (g.T.Turns.acts c.args.turns.now) g.L.Link (terms_by side.Author c.args.timers c.args.voice.now.name c.args.voice.now.filters) (g.C.Clock.moment c.args.clock.now) c.now-start.result c.drive-parted.result c.of.result c.args.seat.now c.drive-parted.new.seat c.args.link.now c.drive-parted.new.link c.drive-parted.new.sink.faults
    (omega (arith, c.now-start.ensures.value, c.now-start.ensures.forward)) c.of.ensures
    (subst (λ (x : SessionState × AuthorMemory). Ends (terms_of c.args.voice.now x.0) author_rules (g.T.Turns.acts c.args.turns.now) (course_of x.1 submits x.0) (standing_of x.0 c.args.seat.now (g.L.Link.traffic c.args.link.now) None) c.drive-parted.result c.drive-parted.new.seat (g.L.Link.traffic c.drive-parted.new.link) None (record { link = link_counts g.L.Link c.args.link.now; sink = 0 }) (record { link = link_counts g.L.Link c.drive-parted.new.link; sink = c.drive-parted.new.sink.faults })) (λ i. (c.new-session.ensures i, c.new-side.ensures i)) c.drive-parted.ensures.talk)

pub returns-clause-forward : goal.returns-clause-forward
returns-clause-forward g c = omega (arith, c.now-start.ensures.forward, c.drive-parted.ensures.forward)
