use Rattle.std.proofs.Common.{sym, true, ◌∙◌}
use Rattle.voevent_online.proofs.Opened.{found_at, not_found_at}
use Rattle.voevent_online.proofs.submit_journal.has_ack.Goals as goal

pub returns-then-acknowledges_at : goal.returns-then-acknowledges_at
returns-then-acknowledges_at g c = sym (found_at true c.args.identifier.now c.args.book.now.notes c.loop-at.at (sym c.acknowledges_at.ensures ∙ c.if-acknowledges_at.true))

pub loop-at-preserved : goal.loop-at-preserved
loop-at-preserved g c = record {
  none = not_found_at true c.args.identifier.now c.args.book.now.notes c.loop-at.at (sym c.acknowledges_at.ensures ∙ c.if-acknowledges_at.false) c.loop-at.invariant.none;
  whole = c.loop-at.invariant.whole;
}
