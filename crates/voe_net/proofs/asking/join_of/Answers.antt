use Rattle.std.proofs.Common.{◌≡◌, ◌<◌, ℕ, None, Ok, Some, length, sym, ap, subst, ◌∙◌}
use Rattle.voe_net.specs.Kept.{IsKeptNode, end_of}
use Rattle.voe_net.specs.Performed.{HasJoined}
use Rattle.voe_net.specs.declared.kept.Kept.{Kept}
use Rattle.voe_net.proofs.Asked.{joined, no_session}
use Rattle.voe_net.proofs.Performed.{up_over}
use Rattle.voe_net.proofs.asking.join_of.Goals as goal

pub returns-in-Author-clause-joined : goal.returns-in-Author-clause-joined
returns-in-Author-clause-joined g c =
    let d = g.D.Disk in
    let over = up_over (end_of c.args.kept.now) c.args.number c.requires.kind c.requires.number in
    let up : c.in-Author.end.down ≡ None = sym (ap (λ (k : Kept _). (end_of k).down) c.in-Author.is) ∙ over.up in
    let node = subst (λ (k : Kept _). IsKeptNode d k) c.in-Author.is c.requires.node in
    let P : Kept _ → Type 0 = λ k. HasJoined d c.args.number (Some (end_of k)) (Some (end_of k)) (Ok 0) in
    subst P (sym c.in-Author.is) (no_session d c.args.number c.in-Author.end up node.kind node.sessions)

pub returns-in-Broker-clause-joined : goal.returns-in-Broker-clause-joined
returns-in-Broker-clause-joined g c =
    let d = g.D.Disk in
    let number = c.args.number in
    let end = c.in-Broker.end in
    let new = c.broker_join.new.end in
    let over = up_over (end_of c.args.kept.now) number c.requires.kind c.requires.number in
    let up : end.down ≡ None = sym (ap (λ (k : Kept _). (end_of k).down) c.in-Broker.is) ∙ over.up in
    let node = subst (λ (k : Kept _). IsKeptNode d k) c.in-Broker.is c.requires.node in
    let within : number < length end.config.links = subst (λ (k : Kept _). number < length (end_of k).config.links) c.in-Broker.is over.within in
    let low : number < length end.sessions = subst (λ (n : ℕ). number < n) (sym node.sessions) within in
    let P : Kept _ → Type 0 = λ k. HasJoined d number (Some (end_of k)) (Some new) c.broker_join.result in
    subst P (sym c.in-Broker.is) (joined d number end new c.broker_join.result up low c.broker_join.ensures)
