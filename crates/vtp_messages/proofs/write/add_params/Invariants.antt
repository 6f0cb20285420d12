use Rattle.std.proofs.Common.{◌≡◌, ◌+◌, ◌++◌, drop, map}
use Rattle.voe_tree.specs.Canonical.{all_written}
use Rattle.voe_packet.specs.Params.{param_token}
use Rattle.vtp_messages.proofs.write.add_params.Given as goal

abbrev pub invariant-loop-param : goal.invariant-loop-param
invariant-loop-param l = record {
  bytes : l.writer.bytes.items ++ all_written (map param_token (drop l.param-index l.params)) ≡ l.initial.writer.bytes.items ++ all_written (map param_token l.params);
  tokens : l.writer.tokens ≡ l.initial.writer.tokens + l.param-index;
}
