use Rattle.std.proofs.Common.{◌≡◌, ◌+◌, ◌-◌, ◌≤◌, drop}
use Rattle.xml_lexer.specs.Scan.{front_len}
use Rattle.xml_lexer.proofs.front.bad_from.Given as goal

abbrev pub invariant-loop-at : goal.invariant-loop-at
invariant-loop-at l = (l.at + front_len (drop l.at l.bytes) ≡ l.from + front_len (drop l.from l.bytes)) × (l.from ≤ l.at) × (l.at ≤ l.end)

abbrev pub decreases-loop-at : goal.decreases-loop-at
decreases-loop-at l = l.end - l.at
