use Rattle.std.proofs.Common.{subst, [], arith}
use Rattle.vtp_server.specs.Carried.{Carried}
use Rattle.vtp_server.specs.Reading.{piece_of}
use Rattle.vtp_server.specs.declared.reading.Fetched.{Fetched}
use Rattle.vtp_server.proofs.Heard.{idle_reads}
use Rattle.vtp_server.proofs.Timely.{idle_time, piece_time}
use Rattle.vtp_server.proofs.reading.read.Goals as goal

pub returns-in-Idle-clause-ok : goal.returns-in-Idle-clause-ok
returns-in-Idle-clause-ok g c =
    let none = subst (λ (f : Fetched). Carried (g.L.Link.traffic c.args.link.now) (g.L.Link.traffic c.fetch.new.link) (piece_of f c.fetch.new.buf) []) c.in-Idle.is c.in_ok-fetched.ensures.carried in
    idle_reads c.args.session.now c.hear_nothing.new.session _ _ c.now-now.result c.hear_nothing.result none c.hear_nothing.ensures.ok

pub returns-in-Idle-clause-time : goal.returns-in-Idle-clause-time
returns-in-Idle-clause-time g c =
    idle_time c.args.session.now c.hear_nothing.new.session (g.C.Clock.moment c.args.clock.now) c.now-now.result (g.C.Clock.moment c.now-now.new.self) c.hear_nothing.result c.requires (omega (arith, c.now-now.ensures.value, c.now-now.ensures.forward)) c.now-now.ensures.value c.hear_nothing.ensures.ok

pub returns-in-Piece-clause-time : goal.returns-in-Piece-clause-time
returns-in-Piece-clause-time g c =
    piece_time c.args.session.now c.hear.new.session _ (g.C.Clock.moment c.args.clock.now) c.now-now.result (g.C.Clock.moment c.now-now.new.self) c.hear.result c.requires (omega (arith, c.now-now.ensures.value, c.now-now.ensures.forward)) c.now-now.ensures.value c.hear.ensures.ok
