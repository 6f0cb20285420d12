use Rattle.std.proofs.Common.{refl, subst, sym}
use Rattle.vtp_session.specs.State.{MeetsGarbage, SessionState}
use Rattle.vtp_session.proofs.Lasting.{waiting_garbage}
use Rattle.vtp_session.proofs.session.Session.sent.Goals as goal

pub returns-clause-garbage : goal.returns-clause-garbage
returns-clause-garbage c place why met =
    let i = c.self.inside in
    let s : SessionState = record {
      side = i.side;
      times = record { beat = i.timers.beat; silence = i.timers.silence };
      left = i.unframer.left;
      place = i.unframer.place;
      watch = record { heard = i.heard; beaten = i.beaten; latest = i.latest };
      unanswered = i.unanswered.items;
    } in
    waiting_garbage s (record s { unanswered = c.push.new.self.items }) c.push.new.self.items refl place why (subst (λ (x : SessionState). MeetsGarbage x place why) (sym c.self.view_is) met)
