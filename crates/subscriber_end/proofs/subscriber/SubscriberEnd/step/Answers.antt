use Rattle.std.proofs.Common.{◌≡◌, None, sym, subst}
use Rattle.net_model.specs.Rules.{NodeRules}
use Rattle.node_book.specs.Ends.{EndView}
use Rattle.node_book.specs.EndSteps.{Happens}
use Rattle.node_book.proofs.EndReady.{before_step}
use Rattle.subscriber_end.specs.Subscriber.{AreRightFor, fate_of, outcome_of}
use Rattle.subscriber_end.specs.declared.event.SubscriberEvent.{SubscriberEvent}
use Rattle.subscriber_end.specs.declared.event.SubscriberEvent.TheVariants.{Packet}
use Rattle.subscriber_end.proofs.subscriber.SubscriberEnd.step.Goals as goal

pub returns-clause-happens : goal.returns-clause-happens
returns-clause-happens g c =
    let d = g.D.Disk in
    let new = c.take.new.end in
    let result = c.take.result in
    let packet = c.into_packet-packet.result in
    let P : EndView _ → Type 0 = λ v. v.down ≡ None → (rules : NodeRules) → AreRightFor v.config c.args.event rules → Happens d v new (outcome_of rules v.notes c.args.event) result (fate_of result) in
    let E : SubscriberEvent → Type 0 = λ e. (rules : NodeRules) → AreRightFor c.self.inside.end.config e rules → Happens d c.self.inside.end new (outcome_of rules c.self.inside.end.notes e) result (fate_of result) in
    let Q : EndView _ → Type 0 = λ v. (rules : NodeRules) → AreRightFor v.config (Packet packet) rules → Happens d v new (outcome_of rules v.notes (Packet packet)) result (fate_of result) in
    subst P c.self.view_is
    (λ up. subst E (sym c.into_packet-packet.ensures)
    (λ rules right. before_step d c.self.inside.end new (outcome_of rules c.self.inside.end.notes (Packet packet)) result (fate_of result)
    (subst Q c.begin.ensures.after c.take.ensures.happens rules right)))
