use Rattle.std.proofs.Common.{◌≡◌, ◌+◌, ◌-◌, ◌≤◌, length, drop}
use Rattle.std.specs.List.{prefix_len}
use Rattle.voe_tree.specs.Names.{is_plain_byte}
use Rattle.voe_tree.proofs.values.plain_len.Given as goal

abbrev pub decreases-loop-len : goal.decreases-loop-len
decreases-loop-len l = length l.bytes - l.len

abbrev pub invariant-loop-len : goal.invariant-loop-len
invariant-loop-len l = (l.len + prefix_len is_plain_byte (drop l.len l.bytes) ≡ prefix_len is_plain_byte l.bytes) × (l.len ≤ length l.bytes)
