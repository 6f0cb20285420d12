use Rattle.std.proofs.Common.{◌≡◌, ◌+◌, drop, option_map}
use Rattle.xml_lexer.specs.Scan.{value_len}
use Rattle.xml_lexer.proofs.scan.value_len.Given as goal

abbrev pub invariant-loop-i : goal.invariant-loop-i
invariant-loop-i l = option_map (λ n. l.i + n) (value_len l.quote (drop l.i l.bytes)) ≡ value_len l.quote l.bytes
