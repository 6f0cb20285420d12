use Rattle.std.proofs.Common.{◌≡◌, ℕ, Bool, List, None, sym, subst}
use Rattle.net_model.specs.Rules.{NodeRules}
use Rattle.node_book.specs.Ends.{EndView}
use Rattle.node_book.specs.EndSteps.{Happens}
use Rattle.node_book.proofs.EndReady.{before_step}
use Rattle.broker_end.specs.Broker.{AreRightFor, fate_of, outcome_of}
use Rattle.broker_end.specs.declared.event.BrokerEvent.{BrokerEvent}
use Rattle.broker_end.specs.declared.event.BrokerEvent.TheVariants.{Packet, Next, Acked, Live}
use Rattle.broker_end.proofs.broker.BrokerEnd.step.Goals as goal

pub returns-in-Packet-clause-happens : goal.returns-in-Packet-clause-happens
returns-in-Packet-clause-happens g c =
    let d = g.D.Disk in
    let new = c.take.new.end in
    let result = c.take.result in
    let event = Packet c.in-Packet.from c.in-Packet.packet in
    let P : EndView _ → Type 0 = λ v. v.down ≡ None → (rules : NodeRules) (shows : List ℕ → Bool) → AreRightFor v.config v.notes c.args.event rules shows → Happens d v new (outcome_of rules shows v.config v.notes v.sessions c.args.event) result (fate_of result) in
    let E : BrokerEvent → Type 0 = λ e. (rules : NodeRules) (shows : List ℕ → Bool) → AreRightFor c.self.inside.end.config c.self.inside.end.notes e rules shows → Happens d c.self.inside.end new (outcome_of rules shows c.self.inside.end.config c.self.inside.end.notes c.self.inside.end.sessions e) result (fate_of result) in
    let Q : EndView _ → Type 0 = λ v. (rules : NodeRules) (shows : List ℕ → Bool) → AreRightFor v.config v.notes event rules shows → Happens d v new (outcome_of rules shows v.config v.notes v.sessions event) result (fate_of result) in
    subst P c.self.view_is
    (λ up. subst E (sym c.in-Packet.is)
    (λ rules shows right. before_step d c.self.inside.end new (outcome_of rules shows c.self.inside.end.config c.self.inside.end.notes c.self.inside.end.sessions event) result (fate_of result)
    (subst Q c.begin.ensures.after (λ rules shows right. c.take.ensures.happens rules right) rules shows right)))

pub returns-in-Next-clause-happens : goal.returns-in-Next-clause-happens
returns-in-Next-clause-happens g c =
    let d = g.D.Disk in
    let new = c.begin.new.self in
    let result = c.next.result in
    let event = Next c.in-Next.link c.in-Next.session c.in-Next.after in
    let P : EndView _ → Type 0 = λ v. v.down ≡ None → (rules : NodeRules) (shows : List ℕ → Bool) → AreRightFor v.config v.notes c.args.event rules shows → Happens d v new (outcome_of rules shows v.config v.notes v.sessions c.args.event) result (fate_of result) in
    let E : BrokerEvent → Type 0 = λ e. (rules : NodeRules) (shows : List ℕ → Bool) → AreRightFor c.self.inside.end.config c.self.inside.end.notes e rules shows → Happens d c.self.inside.end new (outcome_of rules shows c.self.inside.end.config c.self.inside.end.notes c.self.inside.end.sessions e) result (fate_of result) in
    let Q : EndView _ → Type 0 = λ v. (rules : NodeRules) (shows : List ℕ → Bool) → AreRightFor v.config v.notes event rules shows → Happens d v new (outcome_of rules shows v.config v.notes v.sessions event) result (fate_of result) in
    subst P c.self.view_is
    (λ up. subst E (sym c.in-Next.is)
    (λ rules shows right. before_step d c.self.inside.end new (outcome_of rules shows c.self.inside.end.config c.self.inside.end.notes c.self.inside.end.sessions event) result (fate_of result)
    (subst Q c.begin.ensures.after (λ rules shows right. c.next.ensures) rules shows right)))

pub returns-in-Acked-clause-happens : goal.returns-in-Acked-clause-happens
returns-in-Acked-clause-happens g c =
    let d = g.D.Disk in
    let new = c.acked.new.end in
    let result = c.acked.result in
    let event = Acked c.in-Acked.link c.in-Acked.session c.in-Acked.identifier in
    let P : EndView _ → Type 0 = λ v. v.down ≡ None → (rules : NodeRules) (shows : List ℕ → Bool) → AreRightFor v.config v.notes c.args.event rules shows → Happens d v new (outcome_of rules shows v.config v.notes v.sessions c.args.event) result (fate_of result) in
    let E : BrokerEvent → Type 0 = λ e. (rules : NodeRules) (shows : List ℕ → Bool) → AreRightFor c.self.inside.end.config c.self.inside.end.notes e rules shows → Happens d c.self.inside.end new (outcome_of rules shows c.self.inside.end.config c.self.inside.end.notes c.self.inside.end.sessions e) result (fate_of result) in
    let Q : EndView _ → Type 0 = λ v. (rules : NodeRules) (shows : List ℕ → Bool) → AreRightFor v.config v.notes event rules shows → Happens d v new (outcome_of rules shows v.config v.notes v.sessions event) result (fate_of result) in
    subst P c.self.view_is
    (λ up. subst E (sym c.in-Acked.is)
    (λ rules shows right. before_step d c.self.inside.end new (outcome_of rules shows c.self.inside.end.config c.self.inside.end.notes c.self.inside.end.sessions event) result (fate_of result)
    (subst Q c.begin.ensures.after (λ rules shows right. c.acked.ensures.happens rules right) rules shows right)))

pub returns-in-Live-clause-happens : goal.returns-in-Live-clause-happens
returns-in-Live-clause-happens g c =
    let d = g.D.Disk in
    let new = c.begin.new.self in
    let result = c.live.result in
    let event = Live c.in-Live.after c.in-Live.filters in
    let P : EndView _ → Type 0 = λ v. v.down ≡ None → (rules : NodeRules) (shows : List ℕ → Bool) → AreRightFor v.config v.notes c.args.event rules shows → Happens d v new (outcome_of rules shows v.config v.notes v.sessions c.args.event) result (fate_of result) in
    let E : BrokerEvent → Type 0 = λ e. (rules : NodeRules) (shows : List ℕ → Bool) → AreRightFor c.self.inside.end.config c.self.inside.end.notes e rules shows → Happens d c.self.inside.end new (outcome_of rules shows c.self.inside.end.config c.self.inside.end.notes c.self.inside.end.sessions e) result (fate_of result) in
    let Q : EndView _ → Type 0 = λ v. (rules : NodeRules) (shows : List ℕ → Bool) → AreRightFor v.config v.notes event rules shows → Happens d v new (outcome_of rules shows v.config v.notes v.sessions event) result (fate_of result) in
    subst P c.self.view_is
    (λ up. subst E (sym c.in-Live.is)
    (λ rules shows right. before_step d c.self.inside.end new (outcome_of rules shows c.self.inside.end.config c.self.inside.end.notes c.self.inside.end.sessions event) result (fate_of result)
    (subst Q c.begin.ensures.after (λ rules shows right. c.live.ensures.happens shows right) rules shows right)))
