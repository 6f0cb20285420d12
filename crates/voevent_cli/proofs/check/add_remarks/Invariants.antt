use Rattle.std.proofs.Common.{◌≡◌, ◌++◌, drop}
use Rattle.voevent_cli.specs.Lines.{remark_lines}
use Rattle.voevent_cli.proofs.check.add_remarks.Given as goal

abbrev pub invariant-loop-number : goal.invariant-loop-number
invariant-loop-number l = l.out ++ remark_lines (drop l.number-index l.numbers) ≡ l.initial.out ++ remark_lines l.numbers
