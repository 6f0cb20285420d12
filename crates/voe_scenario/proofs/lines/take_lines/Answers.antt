-- A turn takes one line or is refused; at the end no line is left.
use Rattle.std.proofs.Common.{◌+◌, ◌<◌, length, rules, arith}
use Rattle.voe_scenario.proofs.Turns.{left_of, lines_left-cut, left_of-cut, lines_read-nil, lines_read-taken, lines_read-refused}
use Rattle.voe_scenario.proofs.lines.take_lines.Goals as goal

pub loop-rest-init : goal.loop-rest-init
loop-rest-init g c = record {
  leads = λ outcome reads. reads;
  sound = c.requires.sound;
  counted = omega arith;
}

pub returns-in_err-take_at-clause-refused : goal.returns-in_err-take_at-clause-refused
returns-in_err-take_at-clause-refused g c =
    let cut = lines_left-cut c.in-Some.lines.now c.cut.result.0.now c.cut.result.1 c.cut.ensures.last c.cut.ensures.first in
    let leads = rw (c.in-Some.is, cut) at c.loop-rest.invariant.leads in
    let told = lines_read-refused g.R.TakesLines.refuses g.R.TakesLines.with_line _ _ _ _ _ _ _ leads c.in_err-take_at.ensures.refused in
    search (rules, told)

pub loop-rest-preserved : goal.loop-rest-preserved
loop-rest-preserved g c =
    let cut = lines_left-cut c.in-Some.lines.now c.cut.result.0.now c.cut.result.1 c.cut.ensures.last c.cut.ensures.first in
    let leads = rw (c.in-Some.is, cut) at c.loop-rest.invariant.leads in
    let counted = rw c.in-Some.is at c.loop-rest.invariant.counted in
    let shorter : left_of c.cut.result.1 < length c.in-Some.lines.now + 1 = left_of-cut c.in-Some.lines.now c.cut.result.1 c.cut.ensures.shorter in
    record {
      leads = lines_read-taken g.R.TakesLines.refuses g.R.TakesLines.with_line _ _ _ _ _ _ _ leads c.in_ok-take_at.ensures.unrefused c.in_ok-take_at.ensures.taken;
      sound = c.in_ok-take_at.ensures.sound;
      counted = omega arith;
    }

pub returns-clause-ok : goal.returns-clause-ok
returns-clause-ok g c =
    let leads = rw c.in_default.is at c.loop-rest.invariant.leads in
    leads _ (lines_read-nil g.R.TakesLines.refuses g.R.TakesLines.with_line c.loop-rest.reader (c.loop-rest.place + 1))
