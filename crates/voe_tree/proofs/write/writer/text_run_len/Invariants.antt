use Rattle.std.proofs.Common.{◌≡◌, ◌+◌, ◌-◌, ◌≤◌, length, drop}
use Rattle.std.specs.List.{prefix_len}
use Rattle.voe_tree.specs.Writing.{is_run_byte}
use Rattle.voe_tree.proofs.write.writer.text_run_len.Given as goal

abbrev pub decreases-loop-len : goal.decreases-loop-len
decreases-loop-len l = length l.text - l.len

abbrev pub invariant-loop-len : goal.invariant-loop-len
invariant-loop-len l = (l.len + prefix_len is_run_byte (drop l.len l.text) ≡ prefix_len is_run_byte l.text) × (l.len ≤ length l.text)
