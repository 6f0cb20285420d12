use Rattle.std.proofs.Common.{◌≡◌, ◌+◌, ◌-◌, ◌^◌, ◌||◌, min, nat_lt, sym, ◌∙◌, arith}
use Rattle.vtp_session.specs.declared.side.Side.TheVariants.{Take}
use Rattle.broker_run.proofs.Backs.{took_more_back}
use Rattle.broker_run.proofs.Courses.{never_less}
use Rattle.broker_run.proofs.lines.Lines.take_back.Goals as goal

pub returns-clause-kept : goal.returns-clause-kept
returns-clause-kept g c =
    let s = c.args.self.now in
    let link = c.args.spent.link in
    let back : c.saturating_add-self.result ≡ min (s.back + 1) (2 ^ 64 - 1) = rw c.note.ensures.back at c.saturating_add-self.ensures in
    let lacked : c.either-self.result ≡ (s.lacked || c.args.spent.lacked) = rw c.note.ensures.lacked at c.either-self.ensures in
    let up = never_less (g.N.Dialer.fault_count c.args.dialer.now) (nat_lt 0 (g.N.L.Link.fault_count link)) in
    record {
      no_less = rw (c.note.ensures.first, c.hang_up.ensures.faults) (omega (arith, c.requires.no_less, up));
      talked = λ none. rw (c.note.ensures.first, back) (took_more_back Take g.N.L.Link s.lacked c.args.spent.lacked s.back (g.N.Dialer.returns s.first.value) (g.N.Dialer.returns c.args.dialer.now) (g.N.Dialer.returns c.hang_up.new.self) link c.requires.talked c.hang_up.ensures.returns c.args.spent.talked (sym lacked ∙ none));
    }
