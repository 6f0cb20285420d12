use Rattle.std.proofs.Common.{◌∙◌}
use Rattle.voe_packet.proofs.Written.{citation_put}
use Rattle.voe_packet.proofs.draft.write_citation.Goals as goal

pub returns-clause-bytes : goal.returns-clause-bytes
returns-clause-bytes c =
    citation_put c.args.citation.now c.args.writer.now.bytes.items c.put.new.self.bytes.items c.value.new.self.bytes.items c.finish.new.self.bytes.items
    c.text.new.self.bytes.items c.end_tag.new.self.bytes.items c.as_bytes.result.now c.as_bytes-2.result.now
    (c.as_bytes.ensures.value ∙ c.cite_word.ensures) (c.as_bytes-2.ensures.value ∙ c.as_str.ensures.text)
    c.in_ok-put.ensures.bytes c.in_ok-value.ensures.bytes c.in_ok-finish.ensures.bytes c.in_ok-text.ensures.bytes c.in_ok-end_tag.ensures.bytes
