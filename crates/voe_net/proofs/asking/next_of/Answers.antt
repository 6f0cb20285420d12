use Rattle.std.proofs.Common.{◌≡◌, None, Some, sym, ap, subst, ◌∙◌}
use Rattle.voe_net.specs.Kept.{end_of}
use Rattle.voe_net.specs.Performed.{HasFound}
use Rattle.voe_net.specs.declared.kept.Kept.{Kept}
use Rattle.voe_net.proofs.Asked.{found}
use Rattle.voe_net.proofs.Performed.{up_over}
use Rattle.voe_net.proofs.asking.next_of.Goals as goal

pub returns-in-Author-clause-found : goal.returns-in-Author-clause-found
returns-in-Author-clause-found g c =
    let d = g.D.Disk in
    let number = c.args.number in
    let over = up_over (end_of c.args.kept.now) number c.requires.over.takes_answers c.requires.over.within in
    let up : c.in-Author.end.down ≡ None = sym (ap (λ (k : Kept _). (end_of k).down) c.in-Author.is) ∙ over.up in
    let P : Kept _ → Type 0 = λ k. HasFound d number c.args.after (Some (end_of k)) (Some c.author_next.new.end) c.author_next.result in
    subst P (sym c.in-Author.is) (found d number c.args.after c.in-Author.end c.author_next.new.end c.author_next.result up c.author_next.ensures)

pub returns-in-Broker-clause-found : goal.returns-in-Broker-clause-found
returns-in-Broker-clause-found g c =
    let d = g.D.Disk in
    let number = c.args.number in
    let over = up_over (end_of c.args.kept.now) number c.requires.over.takes_answers c.requires.over.within in
    let up : c.in-Broker.end.down ≡ None = sym (ap (λ (k : Kept _). (end_of k).down) c.in-Broker.is) ∙ over.up in
    let P : Kept _ → Type 0 = λ k. HasFound d number c.args.after (Some (end_of k)) (Some c.broker_next.new.end) c.broker_next.result in
    subst P (sym c.in-Broker.is) (found d number c.args.after c.in-Broker.end c.broker_next.new.end c.broker_next.result up c.broker_next.ensures)
