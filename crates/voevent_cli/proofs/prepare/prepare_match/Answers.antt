-- A filter that is refused leaves the input unread.
use Rattle.voevent_cli.proofs.Wants.{matched_refused}
use Rattle.voevent_cli.specs.Wanted.{filter_of}
use Rattle.voevent_cli.proofs.prepare.prepare_match.Goals as goal

pub returns-in-Err-clause-prepares : goal.returns-in-Err-clause-prepares
returns-in-Err-clause-prepares g c =
    matched_refused c.args.words.now (g.S.Source.left c.args.source.now) (g.S.Source.fault_count c.args.source.now) (g.S.Source.fault_count c.args.source.now) c.in-Err.fault c.in-Some.refusal (c.in_ok-outcome-in-Err).field-0 c.requires
    (λ f other. c.read_is_not_refused.ensures (filter_of c.args.words.now) f other)
    (rw c.filter_word.ensures at c.in-Err.ensures) c.in-Some.ensures c.in_ok-outcome-in-Err.ensures
