use Rattle.std.proofs.Common.{None, [], ◌≡◌, ◌≤◌, ◌^◌, ◌-◌, false, refl, arith, subst}
use Rattle.vtp_session.specs.State.{SessionState}
use Rattle.vtp_session.specs.declared.side.Side.TheVariants as side
use Rattle.vtp_server.specs.Counts.{link_counts}
use Rattle.vtp_server.specs.Ends.{Ends, course_of, standing_of}
use Rattle.vtp_server.specs.Reading.{terms_of}
use Rattle.vtp_server.specs.declared.side.Next.TheVariants as next
use Rattle.vtp_server.specs.declared.speech.Speech.TheVariants as speech
use Rattle.vtp_server.specs.declared.speech.Voice.{Voice}
use Rattle.vtp_server.specs.Calls.{terms_by}
use Rattle.vtp_server.specs.HubTurns.{IsHubTurn}
use Rattle.vtp_server.specs.FeedSide.{feed_rules}
use Rattle.vtp_server.specs.FeedMemory.{FeedMemory, first_memory}
use Rattle.vtp_server.proofs.RuleFacts.{feed_stops, feed_tells}
use Rattle.vtp_server.proofs.Spoken.{feed_speaks}
use Rattle.vtp_server.proofs.Served.{served_by, served_nothing}
use Rattle.vtp_server.proofs.serving.serve_subscriber.Goals as goal

pub returns-in_default-clause-talk : goal.returns-in_default-clause-talk
returns-in_default-clause-talk g c =
    let h = g.S.Turned in
    let few : c.args.seat.now.turns ≤ 2 ^ 64 - 1 = omega (arith, c.turns-made.ensures) in
    served_nothing h.fixed h.records h.sound h.means h.sign_of g.L.Link (terms_by side.Feed c.args.timers c.args.name.now []) feed_rules feed_stops feed_tells feed_speaks (first_memory 32) (next.Say speech.WhoAreYou) refl refl tt (g.C.Clock.moment c.args.clock.now) c.args.seat.now c.args.link.now (omega arith) few

pub returns-clause-talk : goal.returns-clause-talk
returns-clause-talk g c =
    let h = g.S.Turned in
    let few : c.args.seat.now.turns ≤ 2 ^ 64 - 1 = omega (arith, c.turns-made.ensures) in
    served_by h.fixed h.records h.sound h.means h.sign_of g.L.Link (terms_by side.Feed c.args.timers c.args.name.now []) feed_rules feed_stops feed_tells feed_speaks (first_memory 32) (next.Say speech.WhoAreYou) refl refl tt (g.C.Clock.moment c.args.clock.now) c.now-start.result c.drive-parted.result c.of_serving.result c.args.seat.now c.drive-parted.new.seat c.args.link.now c.drive-parted.new.link c.drive-parted.new.sink.faults
    (omega (arith, c.now-start.ensures.value, c.now-start.ensures.forward)) c.of_serving.ensures few
    (subst (λ (x : SessionState × Voice × FeedMemory). Ends (terms_of x.1 x.0) feed_rules (IsHubTurn h.fixed h.records h.sound h.means h.sign_of) (course_of x.2 (next.Say speech.WhoAreYou) x.0) (standing_of x.0 c.args.seat.now (g.L.Link.traffic c.args.link.now) None) c.drive-parted.result c.drive-parted.new.seat (g.L.Link.traffic c.drive-parted.new.link) None (record { link = link_counts g.L.Link c.args.link.now; sink = 0 }) (record { link = link_counts g.L.Link c.drive-parted.new.link; sink = c.drive-parted.new.sink.faults })) (λ i. (c.new-session.ensures i, c.in-Ok.ensures i, c.new-side.ensures i)) c.drive-parted.ensures.talk)
