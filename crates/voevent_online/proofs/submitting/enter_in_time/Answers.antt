use Rattle.std.proofs.Common.{◌≡◌, ℕ, List, sym, ap, subst, arith}
use Rattle.std.specs.Prelude.{Option}
use Rattle.voe_disk.specs.declared.disk.Disk.{Ghosts as DiskGhosts}
use Rattle.voe_outside.specs.Returns.{Returns}
use Rattle.voe_outside.specs.declared.link.Link.{Ghosts as LinkGhosts}
use Rattle.voe_world.specs.Parts.{Parts}
use Rattle.voevent_online.specs.Rounds.{Standing}
use Rattle.voevent_online.specs.Submission.{Becomes}
use Rattle.voevent_online.specs.declared.submit_lines.Outcome.{Outcome}
use Rattle.node_book.specs.Ends.{EndView}
use Rattle.voevent_online.proofs.Later.{becomes_later}
use Rattle.voevent_online.proofs.submitting.enter_in_time.Goals as goal

module _ {So Si D Di Li Sp : Type 0} where
  dialer_in : (p q : Parts So Si D Di Li Sp) → p ≡ q → p.dialer ≡ q.dialer
  dialer_in p q e = ap (λ (x : Parts So Si D Di Li Sp). x.dialer) e

  moment_in : (p q : Parts So Si D Di Li Sp) → p ≡ q → p.moment ≡ q.moment
  moment_in p q e = ap (λ (x : Parts So Si D Di Li Sp). x.moment) e

module _ {D Di L : Type 0} (disk : DiskGhosts D) (link : LinkGhosts L) (returns : Di → Option (Returns L)) (faults : Di → ℕ) where
  becomes_as : (identifier packet : List ℕ) (became : Outcome) (before after : EndView D) (m n m_as n_as : ℕ) (d e d_as e_as : Di) → m ≡ m_as → n ≡ n_as → d ≡ d_as → e ≡ e_as
      → Becomes disk link returns faults identifier packet became (record { end = before; moment = m; dialer = d }) (record { end = after; moment = n; dialer = e })
      → Becomes disk link returns faults identifier packet became (record { end = before; moment = m_as; dialer = d_as }) (record { end = after; moment = n_as; dialer = e_as })
  becomes_as identifier packet became before after m n m_as n_as d e d_as e_as one two three four h =
      let Went : Standing D Di → Standing D Di → Type 0 = λ s t. Becomes disk link returns faults identifier packet became s t in
      let start : record { end = before; moment = m; dialer = d } ≡ record { end = before; moment = m_as; dialer = d_as } = λ i. record { end = before; moment = one i; dialer = three i } in
      let stop : record { end = after; moment = n; dialer = e } ≡ record { end = after; moment = n_as; dialer = e_as } = λ i. record { end = after; moment = two i; dialer = four i } in
      subst (λ (t : Standing D Di). Went (record { end = before; moment = m_as; dialer = d_as }) t) stop
      (subst (λ (s : Standing D Di). Went s (record { end = after; moment = n; dialer = e })) start h)

pub put_clock-requires-after_bounds : goal.put_clock-requires-after_bounds
put_clock-requires-after_bounds g c = λ κs bounds.
    let p = g.W.World.parts c.args.world.now in
    let m = g.W.World.parts c.clock-clock.new.self in
    let n = g.W.World.parts c.enter-outcome.new.world in
    let from : g.W.C.Clock.moment c.clock-clock.result ≡ p.moment = c.clock-clock.ensures.moment in
    let first : m.moment ≡ p.moment = moment_in m p c.clock-clock.ensures.parts in
    let same : n.moment ≡ m.moment = moment_in n (record m { dialer = n.dialer }) c.enter-outcome.ensures.rest in
    let forward = (becomes_later g.W.D.Disk g.W.Di.L.Link g.W.Di.Dialer.returns g.W.Di.Dialer.fault_count c.args.identifier.now c.args.packet c.enter-outcome.result
    (record { end = c.args.end.now; moment = g.W.C.Clock.moment c.clock-clock.result; dialer = m.dialer })
    (record { end = c.enter-outcome.new.end; moment = g.W.C.Clock.moment c.enter-outcome.new.clock; dialer = n.dialer })
    c.enter-outcome.ensures.becomes).moment in
    omega (arith, from, first, same, forward)

pub returns-clause-becomes : goal.returns-clause-becomes
returns-clause-becomes g c =
    let p = g.W.World.parts c.args.world.now in
    let m = g.W.World.parts c.clock-clock.new.self in
    let n = g.W.World.parts c.enter-outcome.new.world in
    let q = g.W.World.parts c.put_clock.new.self in
    let stop = g.W.C.Clock.moment c.enter-outcome.new.clock in
    becomes_as g.W.D.Disk g.W.Di.L.Link g.W.Di.Dialer.returns g.W.Di.Dialer.fault_count c.args.identifier.now c.args.packet c.enter-outcome.result c.args.end.now c.enter-outcome.new.end
    (g.W.C.Clock.moment c.clock-clock.result) stop p.moment q.moment m.dialer n.dialer p.dialer q.dialer
    c.clock-clock.ensures.moment (sym (moment_in q (record n { moment = stop }) c.put_clock.ensures.parts))
    (dialer_in m p c.clock-clock.ensures.parts) (sym (dialer_in q (record n { moment = stop }) c.put_clock.ensures.parts))
    c.enter-outcome.ensures.becomes
