use Rattle.std.proofs.Common.{◌∙◌, refl, subst, arith}
use Rattle.vtp_server.specs.Counts.{counts_of}
use Rattle.vtp_server.specs.Reading.{terms_of}
use Rattle.vtp_server.specs.Talk.{Terms}
use Rattle.vtp_server.specs.Ends.{course_of, standing_of, MakesOne, Ends}
use Rattle.vtp_server.proofs.Joins.{goes_nowhere, goes_on, ends_join, falls_on, falls_nowhere, terms_same}
use Rattle.vtp_server.proofs.Timely.{time_on}
use Rattle.vtp_server.proofs.driving.drive.Goals as goal

pub loop-init : goal.loop-init
loop-init g c = record {
  time = record { in_time = c.requires.time; heard = omega arith };
  forward = omega arith;
  seat = c.requires.seat;
  side = refl;
  times = refl;
  goes = goes_nowhere g.S.Side.rules (g.T.Turns.acts c.args.turns.now) (terms_of c.args.voice.now c.args.session.now) c.args.session.now c.args.side.now c.args.first c.args.seat.now (g.L.Link.traffic c.args.link.now) (g.K.Sink.held c.args.sink.now);
  counts = falls_nowhere (counts_of g.L.Link g.K.Sink c.args.link.now c.args.sink.now);
}

pub loop-preserved : goal.loop-preserved
loop-preserved g c =
    let i = c.loop.invariant in
    let terms = terms_same c.args.voice.now c.loop.session c.args.session.now i.side i.times in
    let one = subst (λ (t : Terms). MakesOne t g.S.Side.rules (g.T.Turns.acts c.args.turns.now) (course_of c.loop.side c.loop.next c.loop.session) (standing_of c.loop.session c.loop.seat (g.L.Link.traffic c.loop.link) (g.K.Sink.held c.loop.sink)) (course_of c.make_move.new.side c.in-Ok.after c.make_move.new.session) (standing_of c.make_move.new.session c.make_move.new.seat (g.L.Link.traffic c.make_move.new.link) (g.K.Sink.held c.make_move.new.sink))) terms c.in-Ok.ensures.ok in
    record {
      time = time_on _ _ _ _ _ i.time c.in-Ok.ensures.time;
      forward = omega (arith, i.forward, c.in-Ok.ensures.forward);
      seat = c.in-Ok.ensures.seat;
      side = c.in-Ok.ensures.side ∙ i.side;
      times = c.in-Ok.ensures.times ∙ i.times;
      goes = goes_on g.S.Side.rules (g.T.Turns.acts c.args.turns.now) (terms_of c.args.voice.now c.args.session.now) (course_of c.args.side.now c.args.first c.args.session.now) (course_of c.loop.side c.loop.next c.loop.session) (course_of c.make_move.new.side c.in-Ok.after c.make_move.new.session) (standing_of c.args.session.now c.args.seat.now (g.L.Link.traffic c.args.link.now) (g.K.Sink.held c.args.sink.now)) (standing_of c.loop.session c.loop.seat (g.L.Link.traffic c.loop.link) (g.K.Sink.held c.loop.sink)) (standing_of c.make_move.new.session c.make_move.new.seat (g.L.Link.traffic c.make_move.new.link) (g.K.Sink.held c.make_move.new.sink)) i.goes one;
      counts = falls_on (counts_of g.L.Link g.K.Sink c.args.link.now c.args.sink.now) (counts_of g.L.Link g.K.Sink c.loop.link c.loop.sink) (counts_of g.L.Link g.K.Sink c.make_move.new.link c.make_move.new.sink) i.counts c.in-Ok.ensures.counts;
    }

pub returns-in-Err-clause-talk : goal.returns-in-Err-clause-talk
returns-in-Err-clause-talk g c =
    let i = c.loop.invariant in
    let terms = terms_same c.args.voice.now c.loop.session c.args.session.now i.side i.times in
    let ended = subst (λ (t : Terms). Ends t g.S.Side.rules (g.T.Turns.acts c.args.turns.now) (course_of c.loop.side c.loop.next c.loop.session) (standing_of c.loop.session c.loop.seat (g.L.Link.traffic c.loop.link) (g.K.Sink.held c.loop.sink)) c.in-Err.parted c.make_move.new.seat (g.L.Link.traffic c.make_move.new.link) (g.K.Sink.held c.make_move.new.sink) (counts_of g.L.Link g.K.Sink c.loop.link c.loop.sink) (counts_of g.L.Link g.K.Sink c.make_move.new.link c.make_move.new.sink)) terms c.in-Err.ensures.err in
    ends_join g.S.Side.rules (g.T.Turns.acts c.args.turns.now) (terms_of c.args.voice.now c.args.session.now) (course_of c.args.side.now c.args.first c.args.session.now) (course_of c.loop.side c.loop.next c.loop.session) (standing_of c.args.session.now c.args.seat.now (g.L.Link.traffic c.args.link.now) (g.K.Sink.held c.args.sink.now)) (standing_of c.loop.session c.loop.seat (g.L.Link.traffic c.loop.link) (g.K.Sink.held c.loop.sink)) i.goes.moves c.in-Err.parted c.make_move.new.seat (g.L.Link.traffic c.make_move.new.link) (g.K.Sink.held c.make_move.new.sink) (counts_of g.L.Link g.K.Sink c.args.link.now c.args.sink.now) (counts_of g.L.Link g.K.Sink c.loop.link c.loop.sink) (counts_of g.L.Link g.K.Sink c.make_move.new.link c.make_move.new.sink) i.goes.made i.goes.course i.counts ended

pub returns-in-Err-clause-forward : goal.returns-in-Err-clause-forward
returns-in-Err-clause-forward g c = omega (arith, c.loop.invariant.forward, c.in-Err.ensures.forward)
