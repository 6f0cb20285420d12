use Rattle.std.proofs.Common.{◌∙◌}
use Rattle.voe_packet.proofs.Written.{root_put}
use Rattle.voe_packet.proofs.draft.write_root.Goals as goal

pub returns-clause-bytes : goal.returns-clause-bytes
returns-clause-bytes c =
    root_put c.args.draft.now c.args.writer.now.bytes.items c.put.new.self.bytes.items c.value.new.self.bytes.items c.put-2.new.self.bytes.items
    c.value-2.new.self.bytes.items c.finish.new.self.bytes.items c.as_bytes.result.now c.as_bytes-2.result.now
    (c.as_bytes.ensures.value ∙ c.as_str.ensures.text) (c.as_bytes-2.ensures.value ∙ c.role_word.ensures)
    c.in_ok-put.ensures.bytes c.in_ok-value.ensures.bytes c.in_ok-put-2.ensures.bytes c.in_ok-value-2.ensures.bytes c.in_ok-finish.ensures.bytes
