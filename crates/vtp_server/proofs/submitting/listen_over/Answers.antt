use Rattle.std.proofs.Common.{ap, arith, List, ℕ, ◌∙◌, subst}
use Rattle.vtp_session.specs.State.{SessionState}
use Rattle.vtp_session.specs.declared.side.Side.TheVariants as side
use Rattle.vtp_server.specs.Calls.{terms_by}
use Rattle.vtp_server.specs.Counts.{counts_of}
use Rattle.vtp_server.specs.Ends.{Ends, course_of, standing_of}
use Rattle.vtp_server.specs.ListenMemory.{ListenMemory, first_listening}
use Rattle.vtp_server.specs.ListenSide.{listen_rules}
use Rattle.vtp_server.specs.Reading.{terms_of}
use Rattle.vtp_server.specs.declared.ended.ListenStop.{ListenStop}
use Rattle.vtp_server.specs.declared.side.Next.{Next}
use Rattle.vtp_server.proofs.Called.{followed_so}
use Rattle.vtp_server.proofs.submitting.listen_over.Goals as goal

pub returns-clause-talk : goal.returns-clause-talk
returns-clause-talk g c =
    followed_so (g.T.Turns.acts c.args.turns.now) g.L.Link g.K.Sink (terms_by side.Take c.args.timers c.args.voice.now.name c.args.voice.now.filters) c.args.count (g.T.Turns.front_of c.args.seat.now) (g.C.Clock.moment c.args.clock.now) c.now-start.result c.drive-parted.result c.of_listening.result c.args.seat.now c.drive-parted.new.seat c.args.link.now c.drive-parted.new.link c.args.sink.now c.drive-parted.new.sink
    (omega (arith, c.now-start.ensures.value, c.now-start.ensures.forward)) c.of_listening.ensures
    (subst (λ (x : SessionState × ListenMemory × Next (List ℕ) ListenStop). Ends (terms_of c.args.voice.now x.0) listen_rules (g.T.Turns.acts c.args.turns.now) (course_of x.1 x.2 x.0) (standing_of x.0 c.args.seat.now (g.L.Link.traffic c.args.link.now) (g.K.Sink.held c.args.sink.now)) c.drive-parted.result c.drive-parted.new.seat (g.L.Link.traffic c.drive-parted.new.link) (g.K.Sink.held c.drive-parted.new.sink) (counts_of g.L.Link g.K.Sink c.args.link.now c.args.sink.now) (counts_of g.L.Link g.K.Sink c.drive-parted.new.link c.drive-parted.new.sink)) (λ i. (c.new-session.ensures i, (c.new-side.ensures ∙ ap (λ (n : ℕ). first_listening c.args.count n) c.front.ensures) i, c.first_move.ensures i)) c.drive-parted.ensures.talk)

pub returns-clause-forward : goal.returns-clause-forward
returns-clause-forward g c = omega (arith, c.now-start.ensures.forward, c.drive-parted.ensures.forward)
