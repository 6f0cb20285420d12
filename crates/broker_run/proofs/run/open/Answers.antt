use Rattle.std.proofs.Common.{◌≡◌, ℕ, ◌+◌, ◌-◌, ◌^◌, min, sym, ap, subst, ◌∙◌, rules}
use Rattle.voe_world.specs.Parts.{added}
use Rattle.vtp_session.specs.declared.side.Side.TheVariants.{Take}
use Rattle.broker_run.specs.Back.{TookMoreTalks}
use Rattle.broker_run.proofs.run.open.Goals as goal

pub returns-clause-served : goal.returns-clause-served
returns-clause-served g c = λ n e.
    let old = g.W.World.parts c.args.world.now in
    let new = g.W.World.parts c.go.new.world in
    let k = c.go.ensures.served n e in
    let ended = k.0 in
    let lines = c.go.new.lines.dialed in
    let sp : c.go.new.desk.first.value ≡ old.spawner = search rules in
    let dialed : c.go.new.lines.first.value ≡ (g.W.World.parts (g.W.World.with_spawner c.args.world.now c.spawner.result.now)).dialer = c.go.ensures.first_dialed ∙ (c.in-Ok-new.ensures.first ∙ c.dialer.ensures.value) in
    let di : c.go.new.lines.first.value ≡ old.dialer = rw (g.met.W.World.spawner_put c.args.world.now c.spawner.result.now) at dialed in
    let taken = subst (λ (b : ℕ). ∥ TookMoreTalks Take g.W.Di.L.Link b (g.W.Di.Dialer.returns c.go.new.lines.first.value) (g.W.Di.Dialer.returns new.dialer) ∥₁) ended.lines_back (c.go.ensures.kept.talked ended.lines_fine) in
    let begun = c.go.ensures.begun.begun in (
      ended.enough,
      ended.guests_back ∙ ended.enough,
      ended.guests_fine,
      (
        lines,
        record {
          all = ended.all ∙ (k.2 ∙ ap (λ (x : ℕ). min (x + lines) (2 ^ 64 - 1)) ended.enough);
          begun = begun ∙ (ap (λ (s : g.row.W-Sp.Denot). added (g.W-Sp-Spawner.begin_count s) c.go.new.desk.started) sp ∙ ap (λ (x : ℕ). added (g.W-Sp-Spawner.begin_count old.spawner) x) (sym ended.all));
          lines_back = subst (λ (d : g.row.W-Di.Denot). ∥ TookMoreTalks Take g.W.Di.L.Link lines (g.W.Di.Dialer.returns d) (g.W.Di.Dialer.returns new.dialer) ∥₁) di taken;
        },
        k.1,
      ),
    )
