use Rattle.std.proofs.Common.{◌≡◌, ◌<◌, ◌++◌, length, true}
use Rattle.std.specs.Prelude.{slice_index}
use Rattle.voe_tree.specs.Canonical.{is_escaped_in_value, written_value}
use Rattle.voe_tree.proofs.write.writer.Writer.escaped.Given as goal

abbrev pub decreases-loop-special : goal.decreases-loop-special
decreases-loop-special l = length l.rest

abbrev pub invariant-loop-special : goal.invariant-loop-special
invariant-loop-special l = record {
  bytes : l.self.bytes.items ++ written_value l.rest ≡ l.fn.self.bytes.items ++ written_value l.fn.value;
  tokens : l.self.tokens ≡ l.fn.self.tokens;
  stops : 0 < length l.rest → is_escaped_in_value (slice_index l.rest 0) ≡ true;
}
