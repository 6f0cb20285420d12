use Rattle.std.proofs.Common.{◌≡◌, ℕ, ◌+◌, sym, ap, subst, ◌∙◌, inl}
use Rattle.voe_world.specs.Parts.{added}
use Rattle.broker_run.specs.Run.{ServedGuests}
use Rattle.broker_run.proofs.Served.{guests_served, has_put_back, if_told, run_seen, spawner_same, dialer_same, accepted_same, listeners_same, tells_same}
use Rattle.broker_run.proofs.run.run_broker.Goals as goal

pub returns-clause-served : goal.returns-clause-served
returns-clause-served g c = λ n e.
    let doors = c.open-run.new.doors in
    let both = c.close-authors.result in
    let old = g.W.World.parts c.args.world.now in
    let lent = g.W.World.parts c.listeners.new.self in
    let mid = g.W.World.parts c.open-run.new.world in
    let new = g.W.World.parts c.put_listeners.new.self in
    let k = c.open-run.ensures.served n e in
    let put = c.put_listeners.ensures.parts in
    let closed = c.close-authors.ensures in
    let told = guests_served g.W.Li.L.Link g.W.Li.Listener.returns g.W.Li.Listener.accept_count c.args.sessions doors.authors doors.subscribers doors.authors_back doors.subscribers_back (doors.counted ∙ k.0) k.1 (doors.authors_talked k.2) (doors.subscribers_talked k.2) in
    let told_back = subst (λ (r : g.row.W-Li.Denot × g.row.W-Li.Denot). ∥ ServedGuests g.W.Li.Listener.returns g.W.Li.Listener.accept_count g.W.Li.L.Link c.args.sessions r.0 r.1 ∥₁) (sym closed) told in
    let handed = subst (λ (r : g.row.W-Li.Denot × g.row.W-Li.Denot). g.W.Li.Listener.accept_count r.0 + g.W.Li.Listener.accept_count r.1 ≡ c.args.sessions) (sym closed) (doors.counted ∙ k.0) in
    let before = accepted_same c.open-run.ensures.rest ∙ accepted_same c.listeners.ensures.parts in (
      (
        k.3.0,
        run_seen g.W-Sp-Spawner.begin_count g.W.Di.Dialer.returns g.W.Di.L.Link old lent mid new c.args.sessions k.3.0 n (spawner_same c.listeners.ensures.parts) (dialer_same c.listeners.ensures.parts) (spawner_same put) (dialer_same put) k.3.1,
        k.3.2,
      ),
      accepted_same put ∙ (ap (λ (x : ℕ). added mid.accepted x) handed ∙ ap (λ (x : ℕ). added x c.args.sessions) before),
      if_told (λ a s. ∥ ServedGuests g.W.Li.Listener.returns g.W.Li.Listener.accept_count g.W.Li.L.Link c.args.sessions a s ∥₁) mid.tells new.listeners both.0 both.1 (listeners_same put) told_back,
    )

pub returns-clause-put_back : goal.returns-clause-put_back
returns-clause-put_back g c =
    let both = c.close-authors.result in
    let old = g.W.World.parts c.args.world.now in
    let mid = g.W.World.parts c.open-run.new.world in
    let new = g.W.World.parts c.put_listeners.new.self in
    let put = c.put_listeners.ensures.parts in
    let lent = c.listeners.ensures.parts in
    inl (has_put_back g.W.Li.Listener.accept_count old mid new both.0 both.1 (tells_same c.open-run.ensures.rest ∙ tells_same lent) (accepted_same c.open-run.ensures.rest ∙ accepted_same lent) (listeners_same put) (accepted_same put))
