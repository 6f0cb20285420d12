use Rattle.std.proofs.Common.{◌≡◌, inr, false, None, refl, sym, subst}
use Rattle.net_model.specs.Rules.{NodeRules}
use Rattle.net_model.specs.declared.step.Judged.TheVariants.{BadTree}
use Rattle.node_notes.specs.declared.config.Config.{Config}
use Rattle.node_book.specs.Keeps.{has_room}
use Rattle.node_book.specs.Ends.{EndView}
use Rattle.node_book.specs.EndSteps.{Happens}
use Rattle.node_book.proofs.EndReady.{before_step}
use Rattle.author_end.specs.Author.{AreRightFor, fate_of, outcome_of}
use Rattle.author_end.specs.declared.event.AuthorEvent.{AuthorEvent}
use Rattle.author_end.specs.declared.event.AuthorEvent.TheVariants.{Write, Next, Answer}
use Rattle.author_end.proofs.author.AuthorEnd.step.Goals as goal

-- rules whose journal is the book
abbrev rules_of : Config → NodeRules
rules_of config = record { judge = λ bytes. BadTree 0; digest_of = λ bytes. bytes; passes = λ link bytes. false; has_room = has_room config }

pub returns-in-Write-clause-happens : goal.returns-in-Write-clause-happens
returns-in-Write-clause-happens g c =
    let d = g.D.Disk in
    let new = c.write.new.end in
    let result = c.write.result in
    let event = Write c.in-Write.packet in
    let P : EndView _ → Type 0 = λ v. v.down ≡ None → (rules : NodeRules) → AreRightFor v.config c.args.event rules → Happens d v new (outcome_of rules v.notes c.args.event) result (fate_of result) in
    let E : AuthorEvent → Type 0 = λ e. (rules : NodeRules) → AreRightFor c.self.inside.end.config e rules → Happens d c.self.inside.end new (outcome_of rules c.self.inside.end.notes e) result (fate_of result) in
    let Q : EndView _ → Type 0 = λ v. (rules : NodeRules) → AreRightFor v.config event rules → Happens d v new (outcome_of rules v.notes event) result (fate_of result) in
    subst P c.self.view_is
    (λ up. subst E (sym c.in-Write.is)
    (λ rules right. before_step d c.self.inside.end new (outcome_of rules c.self.inside.end.notes event) result (fate_of result)
    (subst Q c.begin.ensures.after c.write.ensures.happens rules right)))

pub returns-in-Next-clause-happens : goal.returns-in-Next-clause-happens
returns-in-Next-clause-happens g c =
    let d = g.D.Disk in
    let new = c.begin.new.self in
    let result = c.next.result in
    let event = Next c.in-Next.line c.in-Next.after in
    let P : EndView _ → Type 0 = λ v. v.down ≡ None → (rules : NodeRules) → AreRightFor v.config c.args.event rules → Happens d v new (outcome_of rules v.notes c.args.event) result (fate_of result) in
    let E : AuthorEvent → Type 0 = λ e. (rules : NodeRules) → AreRightFor c.self.inside.end.config e rules → Happens d c.self.inside.end new (outcome_of rules c.self.inside.end.notes e) result (fate_of result) in
    let Q : EndView _ → Type 0 = λ v. (rules : NodeRules) → AreRightFor v.config event rules → Happens d v new (outcome_of rules v.notes event) result (fate_of result) in
    subst P c.self.view_is
    (λ up. subst E (sym c.in-Next.is)
    (λ rules right. before_step d c.self.inside.end new (outcome_of rules c.self.inside.end.notes event) result (fate_of result)
    (subst Q c.begin.ensures.after (λ rules right. c.next.ensures) rules right)))

pub returns-in-Next-clause-rules : goal.returns-in-Next-clause-rules
returns-in-Next-clause-rules g c = λ up.
    let E : AuthorEvent → Type 0 = λ e. (rules : NodeRules) × AreRightFor c.args.self.now.config e rules in
    inr (subst E (sym c.in-Next.is) (rules_of c.args.self.now.config, tt))

pub returns-in-Answer-clause-happens : goal.returns-in-Answer-clause-happens
returns-in-Answer-clause-happens g c =
    let d = g.D.Disk in
    let new = c.answer.new.end in
    let result = c.answer.result in
    let event = Answer c.in-Answer.line c.in-Answer.identifier c.in-Answer.ack in
    let P : EndView _ → Type 0 = λ v. v.down ≡ None → (rules : NodeRules) → AreRightFor v.config c.args.event rules → Happens d v new (outcome_of rules v.notes c.args.event) result (fate_of result) in
    let E : AuthorEvent → Type 0 = λ e. (rules : NodeRules) → AreRightFor c.self.inside.end.config e rules → Happens d c.self.inside.end new (outcome_of rules c.self.inside.end.notes e) result (fate_of result) in
    let Q : EndView _ → Type 0 = λ v. (rules : NodeRules) → AreRightFor v.config event rules → Happens d v new (outcome_of rules v.notes event) result (fate_of result) in
    subst P c.self.view_is
    (λ up. subst E (sym c.in-Answer.is)
    (λ rules right. before_step d c.self.inside.end new (outcome_of rules c.self.inside.end.notes event) result (fate_of result)
    (subst Q c.begin.ensures.after c.answer.ensures.happens rules right)))

pub returns-in-Answer-clause-rules : goal.returns-in-Answer-clause-rules
returns-in-Answer-clause-rules g c = λ up.
    let E : AuthorEvent → Type 0 = λ e. (rules : NodeRules) × AreRightFor c.args.self.now.config e rules in
    inr (subst E (sym c.in-Answer.is) (rules_of c.args.self.now.config, λ notes note. refl))
