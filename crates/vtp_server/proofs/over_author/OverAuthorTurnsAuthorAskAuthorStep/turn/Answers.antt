use Rattle.std.proofs.Common.{length, refl, sym, subst}
use Rattle.vtp_server.specs.OneEnd.{IsAuthorTurn}
use Rattle.vtp_server.specs.declared.author.AuthorAsk.{AuthorAsk}
use Rattle.vtp_server.specs.declared.author.AuthorAsk.TheVariants as ask
use Rattle.vtp_server.proofs.AuthorSteps.{sendable}
use Rattle.vtp_server.proofs.over_author.OverAuthorTurnsAuthorAskAuthorStep.turn.Goals as goal

pub returns-in-Next-clause-gives : goal.returns-in-Next-clause-gives
returns-in-Next-clause-gives g c =
    let e = c.step.ensures in
    sendable g.D.Disk c.args.end.now c.step.new.self c.args.self.now.line (ask.Next c.in-Next.after) c.step.result
    (record { config = e.config; sessions = e.sessions; steps = e.steps; same_disk = e.same_disk; sound = e.sound; was_down = e.was_down; happens = e.happens; rules = e.rules; no_memory = e.no_memory })

pub returns-in-Next-clause-turn : goal.returns-in-Next-clause-turn
returns-in-Next-clause-turn g c =
    let e = c.step.ensures in (
      length c.args.end.now.notes,
      subst (λ (q : AuthorAsk). IsAuthorTurn g.D.Disk c.args.self.now.line c.args.end.now q c.step.result (length c.args.end.now.notes) (length c.step.new.self.notes) c.step.new.self) (sym c.in-Next.is)
          (record {
            step = record { config = e.config; sessions = e.sessions; steps = e.steps; same_disk = e.same_disk; sound = e.sound; was_down = e.was_down; happens = e.happens; rules = e.rules; no_memory = e.no_memory };
            place_is = refl;
            front_is = refl;
          }),
    )

pub returns-in-Answer-clause-gives : goal.returns-in-Answer-clause-gives
returns-in-Answer-clause-gives g c =
    let e = c.step-in-Answer.ensures in
    sendable g.D.Disk c.args.end.now c.step-in-Answer.new.self c.args.self.now.line (ask.Answer c.in-Answer.identifier c.in-Answer.ack) c.step-in-Answer.result
    (record { config = e.config; sessions = e.sessions; steps = e.steps; same_disk = e.same_disk; sound = e.sound; was_down = e.was_down; happens = e.happens; rules = e.rules; no_memory = e.no_memory })
