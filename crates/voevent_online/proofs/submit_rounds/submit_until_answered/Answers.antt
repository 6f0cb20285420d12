use Rattle.std.proofs.Common.{◌≡◌, ◌<◌, ℕ, List, length, sym, ap, ◌∙◌, subst}
use Rattle.voe_world.specs.Parts.{Parts}
use Rattle.net_model.specs.Notes.{is_open}
use Rattle.node_book.specs.Book.{BookView}
use Rattle.node_notes.specs.declared.config.Config.{Config}
use Rattle.voevent_online.specs.Rounds.{outcome_after}
use Rattle.voevent_online.proofs.Rounded.{ends_so, goes_on}
use Rattle.voevent_online.proofs.submit_rounds.submit_until_answered.Goals as goal

module _ {D : Type 0} where
  open_in : (book same : BookView D) (identifier : List ℕ) → book ≡ same → is_open book.notes 0 identifier ≡ is_open same.notes 0 identifier
  open_in book same identifier e = ap (λ (b : BookView D). is_open b.notes 0 identifier) e

module _ {So Si D Di Li Sp : Type 0} where
  with_dialer : (p q : Parts So Si D Di Li Sp) (d : Di) → p ≡ q → record p { dialer = d } ≡ record q { dialer = d }
  with_dialer p q d e = ap (λ (x : Parts So Si D Di Li Sp). record x { dialer = d }) e

pub returns-in-Some-outcome_after-clause-rounds : goal.returns-in-Some-outcome_after-clause-rounds
returns-in-Some-outcome_after-clause-rounds g c =
    let t = c.make_round-told.new.end in
    let i = c.args.identifier.now in
    let told = c.make_round-told.result in
    let same : c.is_open-is_open.result ≡ is_open t.notes 0 i = c.is_open-is_open.ensures ∙ open_in c.book.result.now (record { disk = t.disk; config = t.config; notes = t.notes; down = t.down }) i c.book.ensures in
    ends_so g.W.D.Disk g.W.Di.L.Link g.W.Di.Dialer.returns g.W.Di.Dialer.fault_count i told c.in-Some-outcome_after.outcome
    (record { end = c.args.end.now; moment = g.W.C.Clock.moment c.args.clock.now; dialer = (g.W.World.parts c.args.world.now).dialer })
    (record { end = c.loop.end; moment = g.W.C.Clock.moment c.loop.clock; dialer = (g.W.World.parts c.loop.world).dialer })
    (record { end = t; moment = g.W.C.Clock.moment c.make_round-told.new.clock; dialer = (g.W.World.parts c.make_round-told.new.world).dialer })
    c.loop.invariant.so_far c.make_round-told.ensures.round
    (ap (outcome_after told) (sym same) ∙ (sym c.outcome_after.ensures ∙ c.in-Some-outcome_after.is))

pub loop-preserved : goal.loop-preserved
loop-preserved g c =
    let t = c.make_round-told.new.end in
    let i = c.args.identifier.now in
    let told = c.make_round-told.result in
    let w = g.W.World.parts c.make_round-told.new.world in
    let same : c.is_open-is_open.result ≡ is_open t.notes 0 i = c.is_open-is_open.ensures ∙ open_in c.book.result.now (record { disk = t.disk; config = t.config; notes = t.notes; down = t.down }) i c.book.ensures in
    record {
      rest = c.make_round-told.ensures.rest ∙ with_dialer (g.W.World.parts c.loop.world) (record (g.W.World.parts c.args.world.now) { dialer = (g.W.World.parts c.loop.world).dialer }) w.dialer c.loop.invariant.rest;
      line = subst (λ (config : Config). 0 < length config.links) (sym c.make_round-told.ensures.config) c.loop.invariant.line;
      so_far = goes_on g.W.D.Disk g.W.Di.L.Link g.W.Di.Dialer.returns g.W.Di.Dialer.fault_count i told
          (record { end = c.args.end.now; moment = g.W.C.Clock.moment c.args.clock.now; dialer = (g.W.World.parts c.args.world.now).dialer })
          (record { end = c.loop.end; moment = g.W.C.Clock.moment c.loop.clock; dialer = (g.W.World.parts c.loop.world).dialer })
          (record { end = t; moment = g.W.C.Clock.moment c.make_round-told.new.clock; dialer = w.dialer })
          c.loop.invariant.so_far c.make_round-told.ensures.round
          (ap (outcome_after told) (sym same) ∙ (sym c.outcome_after.ensures ∙ c.in-None-outcome_after.is));
    }
