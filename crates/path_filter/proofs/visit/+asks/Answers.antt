use Rattle.std.proofs.Common.{map, sym, subst}
use Rattle.path_filter.specs.Plan.{ChecksAsk, check_of, checks_of}
use Rattle.path_filter.specs.Positions.{Has}
use Rattle.path_filter.proofs.AskLaws.{check_asks-more, first_and_rest}
use Rattle.path_filter.proofs.visit.+asks.Goals as goal

pub ask_checks-returns-in-len1-up-clause-asks : goal.ask_checks-returns-in-len1-up-clause-asks
ask_checks-returns-in-len1-up-clause-asks t c =
    subst (λ ks. ChecksAsk (Has c.ask_checks.new.asked) (checks_of (map check_of ks))) (sym (first_and_rest c.args.checks.now c.first-item.result c.in-len1-up.len_at_least c.first-item.is))
    (check_asks-more (Has c.ask_check.new.asked) (Has c.ask_checks.new.asked) c.ask_checks.ensures.keeps (check_of c.first-item.result) c.ask_check.ensures.asks, c.ask_checks.ensures.asks)
