use Rattle.std.proofs.Common.{◌≡◌, ◌+◌, ◌-◌, ◌≤◌, length, drop}
use Rattle.std.specs.List.{position_or_len}
use Rattle.xml_lexer.specs.Spelling.{same}
use Rattle.voe_tree.specs.Writing.{texts}
use Rattle.voe_tree.proofs.write.tag.number_of.Given as goal

abbrev pub decreases-loop-number : goal.decreases-loop-number
decreases-loop-number l = length l.spaces - l.number

abbrev pub invariant-loop-number : goal.invariant-loop-number
invariant-loop-number l =
    (l.number + position_or_len (same l.space) (texts (drop l.number l.spaces)) ≡ position_or_len (same l.space) (texts l.spaces)) × (l.number ≤ length l.spaces)
