use Rattle.std.proofs.Common.{◌≡◌, ◌<◌, ◌+◌, ◌++◌, length, true}
use Rattle.std.specs.Prelude.{slice_index}
use Rattle.voe_tree.specs.Canonical.{all_written, is_escaped, text_tokens}
use Rattle.voe_tree.proofs.write.writer.Writer.text.Given as goal

abbrev pub decreases-loop-special : goal.decreases-loop-special
decreases-loop-special l = length l.rest

abbrev pub invariant-loop-special : goal.invariant-loop-special
invariant-loop-special l = record {
  bytes : l.self.bytes.items ++ all_written (text_tokens l.rest) ≡ l.fn.self.bytes.items ++ all_written (text_tokens l.fn.text);
  tokens : l.self.tokens + length (text_tokens l.rest) ≡ l.fn.self.tokens + length (text_tokens l.fn.text);
  stops : 0 < length l.rest → is_escaped (slice_index l.rest 0) ≡ true;
}
