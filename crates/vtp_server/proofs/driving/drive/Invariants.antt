use Rattle.std.proofs.Common.{◌≡◌, ◌≤◌}
use Rattle.vtp_server.specs.Counts.{NeverFall, counts_of}
use Rattle.vtp_server.specs.Reading.{terms_of}
use Rattle.vtp_server.specs.Ends.{course_of, standing_of}
use Rattle.vtp_server.specs.InTime.{GoesOnInTime}
use Rattle.vtp_server.proofs.Joins.{GoesOn}
use Rattle.vtp_server.proofs.driving.drive.Given as goal

abbrev pub invariant-loop : goal.invariant-loop
invariant-loop g l = record {
  time : GoesOnInTime l.initial.session.watch l.session.watch (g.C.Clock.moment l.clock);
  forward : g.C.Clock.moment l.initial.clock ≤ g.C.Clock.moment l.clock;
  seat : g.T.Turns.seats l.turns l.seat;
  side : l.session.side ≡ l.initial.session.side;
  times : l.session.times ≡ l.initial.session.times;
  goes : GoesOn g.S.Side.rules (g.T.Turns.acts l.turns) (terms_of l.voice l.initial.session) (course_of l.initial.side l.initial.next l.initial.session) (standing_of l.initial.session l.initial.seat (g.L.Link.traffic l.initial.link) (g.K.Sink.held l.initial.sink)) (course_of l.side l.next l.session) (standing_of l.session l.seat (g.L.Link.traffic l.link) (g.K.Sink.held l.sink));
  counts : NeverFall (counts_of g.L.Link g.K.Sink l.initial.link l.initial.sink) (counts_of g.L.Link g.K.Sink l.link l.sink);
}
