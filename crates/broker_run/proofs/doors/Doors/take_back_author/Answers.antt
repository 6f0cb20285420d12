use Rattle.std.proofs.Common.{◌≡◌, ℕ, ◌+◌, ◌-◌, ◌^◌, min, false, sym, subst, ◌∙◌, arith}
use Rattle.vtp_session.specs.declared.side.Side.TheVariants.{Line}
use Rattle.broker_run.specs.Back.{TookTalks}
use Rattle.broker_run.specs.Talks.{WasTalk}
use Rattle.broker_run.specs.Doors.{side_of}
use Rattle.broker_run.specs.declared.link.Door.{Door}
use Rattle.broker_run.proofs.Backs.{took_back}
use Rattle.broker_run.proofs.doors.Doors.take_back_author.Goals as goal

pub invariant_of-self-clause-authors_talked : goal.invariant_of-self-clause-authors_talked
invariant_of-self-clause-authors_talked g c = λ none.
    let s = c.args.self.now in
    let link = c.args.spent.link in
    let talk = subst (λ (d : Door). c.args.spent.lacked ≡ false → ∥ WasTalk (side_of d) g.P.L.Link link ∥₁) c.requires c.args.spent.talked in
    let back : c.saturating_add-self.result ≡ min (s.authors_back + 1) (2 ^ 64 - 1) = c.saturating_add-self.ensures in
    let before = took_back Line g.P.L.Link s.lacked c.args.spent.lacked s.authors_back (g.P.Listener.returns s.authors) (g.P.Listener.returns c.hang_up.new.self) link (omega arith) s.authors_talked c.hang_up.ensures.returns talk (sym c.either-self.ensures ∙ none) in
    subst (λ (n : ℕ). ∥ TookTalks Line g.P.L.Link n (g.P.Listener.returns c.hang_up.new.self) ∥₁) (sym back) before
