use Rattle.std.proofs.Common.{◌≡◌, ◌+◌, ◌++◌, drop, length, map}
use Rattle.voe_tree.specs.Canonical.{all_written}
use Rattle.voe_packet.specs.Params.{param_token}
use Rattle.voe_packet.proofs.draft.write_each_param.Given as goal

abbrev pub invariant-loop-param : goal.invariant-loop-param
invariant-loop-param l = record {
  bytes : l.writer.bytes.items ++ all_written (map param_token (drop l.param-index l.params)) ≡ l.initial.writer.bytes.items ++ all_written (map param_token l.params);
  tokens : l.writer.tokens + length (drop l.param-index l.params) ≡ l.initial.writer.tokens + length l.params;
}
