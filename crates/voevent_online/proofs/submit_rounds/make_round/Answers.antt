use Rattle.std.proofs.Common.{ℕ, ap, ◌∙◌, subst}
use Rattle.std.specs.Prelude.{Option, nat_lt}
use Rattle.voe_outside.specs.Causes.{count_after}
use Rattle.voe_outside.specs.Returns.{Returns, TakesBack}
use Rattle.voevent_online.proofs.submit_rounds.make_round.Goals as goal

pub returns-in-Link-clause-round : goal.returns-in-Link-clause-round
returns-in-Link-clause-round g c =
    let q = g.W.World.parts c.hang_up.new.world in
    let L = g.row.W-Di-L.Denot in
    record {
      fresh = c.in-Link.link;
      last = c.submit-told.new.link;
      unused = c.in-Link.ensures.unused;
      taken_back = subst (λ (r : Option (Returns L)). TakesBack r (g.W.Di.Dialer.returns q.dialer) c.submit-told.new.link) c.in-Link.ensures.returns c.hang_up.ensures.returns;
      dial_faults = c.hang_up.ensures.faults ∙ ap (λ (n : ℕ). count_after n (nat_lt 0 (g.W.Di.L.Link.fault_count c.submit-told.new.link))) c.in-Link.ensures.faults;
      same = c.submit-told.ensures.same;
      forward = c.submit-told.ensures.forward;
      becomes = c.submit-told.ensures.told;
      talk = c.submit-told.ensures.talk;
      replies = c.submit-told.ensures.replies c.submit-told.ensures.talk;
      in_time = c.submit-told.ensures.silent;
    }
