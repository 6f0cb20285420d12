use Rattle.std.proofs.Common.{◌≡◌, ◌+◌, ◌-◌, ◌≤◌, length, drop}
use Rattle.std.specs.List.{prefix_len}
use Rattle.xml_lexer.specs.Scan.{in_name}
use Rattle.xml_lexer.proofs.characters.name_len.Given as goal

abbrev pub invariant-loop-len : goal.invariant-loop-len
invariant-loop-len l =
    (l.len + prefix_len in_name (drop l.len l.bytes) ≡ prefix_len in_name l.bytes) × (l.len ≤ length l.bytes)

abbrev pub decreases-loop-len : goal.decreases-loop-len
decreases-loop-len l = length l.bytes - l.len
