use Rattle.std.proofs.Common.{◌<◌, length, arith}
use Rattle.voe_packet.proofs.Written.{what_counts, what_put}
use Rattle.voe_packet.proofs.draft.write_params.Goals as goal

pub returns-clause-bytes : goal.returns-clause-bytes
returns-clause-bytes c =
    let some : 0 < length c.args.params.now = grind arith in
    what_put c.args.params.now c.args.writer.now.bytes.items c.finish.new.self.bytes.items c.write_each_param.new.writer.bytes.items c.end_tag.new.self.bytes.items some
    c.in_ok-finish.ensures.bytes c.in_ok-write_each_param.ensures.bytes c.in_ok-end_tag.ensures.bytes

pub returns-clause-tokens : goal.returns-clause-tokens
returns-clause-tokens c =
    let some : 0 < length c.args.params.now = grind arith in
    what_counts c.args.params.now c.args.writer.now.tokens c.finish.new.self.tokens c.write_each_param.new.writer.tokens c.end_tag.new.self.tokens some
    c.in_ok-finish.ensures.tokens c.in_ok-write_each_param.ensures.tokens c.in_ok-end_tag.ensures.tokens
