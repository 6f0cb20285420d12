use Rattle.std.proofs.Common.{inr, map, refl, sym, subst}
use Rattle.path_filter.specs.Plan.{ChecksAsk, check_of, checks_of, stage_checks}
use Rattle.path_filter.specs.Positions.{Has}
use Rattle.path_filter.proofs.AskLaws.{checks_ask-more}
use Rattle.path_filter.proofs.SearchSteps.{contra}
use Rattle.path_filter.proofs.visit.ask_stage.Goals.{then-goes_deeper, else-goes_deeper}
use Rattle.path_filter.proofs.visit.ask_stage.Goals as goal

pub returns-then-meets-clause-asks : goal.returns-then-meets-clause-asks
returns-then-meets-clause-asks c = (
  (λ deeper. c.ask_next.ensures.keeps _ (c.ask_checks.ensures.keeps _
      (elim c.if-goes_deeper.branch [
        | then-goes_deeper w ↦ subst (λ p. Has p c.args.position) (sym w.asked-is) ((w.add.ensures c.args.position).1 (inr refl))
        | else-goes_deeper w ↦ absurd (contra _ (c.goes_deeper.ensures.1 deeper) w.if-goes_deeper.false)
      ]))),
  (λ of_elements meets. (checks_ask-more (Has c.ask_checks.new.asked) (Has c.ask_next.new.asked) c.ask_next.ensures.keeps (stage_checks c.args.stage.now) (subst (λ ks. ChecksAsk (Has c.ask_checks.new.asked) (checks_of (map check_of ks))) c.as_slice.ensures c.ask_checks.ensures.asks), c.ask_next.ensures.asks)),
)
