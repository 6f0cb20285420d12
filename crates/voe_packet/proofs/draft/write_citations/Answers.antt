use Rattle.std.proofs.Common.{◌<◌, length, arith}
use Rattle.voe_packet.proofs.Written.{cited_counts, cited_put}
use Rattle.voe_packet.proofs.draft.write_citations.Goals as goal

pub returns-clause-bytes : goal.returns-clause-bytes
returns-clause-bytes c =
    let some : 0 < length c.args.citations.now = grind arith in
    cited_put c.args.citations.now c.args.writer.now.bytes.items c.finish.new.self.bytes.items c.write_each_citation.new.writer.bytes.items c.end_tag.new.self.bytes.items some
    c.in_ok-finish.ensures.bytes c.in_ok-write_each_citation.ensures.bytes c.in_ok-end_tag.ensures.bytes

pub returns-clause-tokens : goal.returns-clause-tokens
returns-clause-tokens c =
    let some : 0 < length c.args.citations.now = grind arith in
    cited_counts c.args.citations.now c.args.writer.now.tokens c.finish.new.self.tokens c.write_each_citation.new.writer.tokens c.end_tag.new.self.tokens some
    c.in_ok-finish.ensures.tokens c.in_ok-write_each_citation.ensures.tokens c.in_ok-end_tag.ensures.tokens
