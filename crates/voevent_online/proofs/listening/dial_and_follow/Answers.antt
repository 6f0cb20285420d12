use Rattle.std.proofs.Common.{◌≡◌, ap, ◌∙◌, inl}
use Rattle.voe_world.specs.Parts.{Parts}
use Rattle.voevent_online.proofs.Listened.{follows_so}
use Rattle.voevent_online.proofs.listening.dial_and_follow.Goals as goal

module _ {So Si D Di Li Sp : Type 0} where
  sink_in : (p q : Parts So Si D Di Li Sp) → p ≡ q → p.sink ≡ q.sink
  sink_in p q e = ap (λ (x : Parts So Si D Di Li Sp). x.sink) e

  dialer_in : (p q : Parts So Si D Di Li Sp) → p ≡ q → p.dialer ≡ q.dialer
  dialer_in p q e = ap (λ (x : Parts So Si D Di Li Sp). x.dialer) e

pub returns-in-Link-clause-follows : goal.returns-in-Link-clause-follows
returns-in-Link-clause-follows g c =
    let p = g.W.World.parts c.args.world.now in
    let m = g.W.World.parts c.dial.new.world in
    let s = g.W.World.parts (g.W.World.with_sink c.dial.new.world c.listen-ended.new.sink) in
    let q = g.W.World.parts c.hang_up.new.world in
    let law = g.met.W.World.sink_put c.dial.new.world c.listen-ended.new.sink in
    let here : c.sink.result.now ≡ p.sink = c.sink.ensures.value ∙ sink_in m (record p { dialer = m.dialer }) c.dial.ensures.parts in
    let there : q.sink ≡ c.listen-ended.new.sink = sink_in q (record s { dialer = q.dialer }) c.hang_up.ensures.parts ∙ sink_in s (record m { sink = c.listen-ended.new.sink }) law in
    let same_dialer : s.dialer ≡ m.dialer = dialer_in s (record m { sink = c.listen-ended.new.sink }) law in
    (
    inl (
      c.listen-ended.result,
      c.status_of.ensures,
      follows_so g.W.D.Disk g.W.Si.Sink g.W.Di.L.Link g.W.Di.Dialer.returns g.W.Di.Dialer.fault_count
          c.args.count c.listen-ended.result c.args.end.now c.listen-ended.new.end
          (g.W.C.Clock.moment c.args.clock.now) (g.W.C.Clock.moment c.listen-ended.new.clock)
          p.sink c.sink.result.now c.listen-ended.new.sink q.sink
          p.dialer s.dialer q.dialer
          c.in-Link.link c.listen-ended.new.link
          here there
          (ap g.W.Di.Dialer.returns same_dialer ∙ c.in-Link.ensures.returns)
          (ap g.W.Di.Dialer.fault_count same_dialer ∙ c.in-Link.ensures.faults)
          c.in-Link.ensures.unused c.hang_up.ensures.returns c.hang_up.ensures.faults
          c.listen-ended.ensures.entered c.listen-ended.ensures.talk c.listen-ended.ensures.silent,
    ))
