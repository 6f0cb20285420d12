use Rattle.std.proofs.Common.{◌∙◌}
use Rattle.vtp_messages.proofs.Puts.{param_put}
use Rattle.vtp_messages.proofs.write.add_param.Goals as goal

pub returns-clause-bytes : goal.returns-clause-bytes
returns-clause-bytes c =
    param_put c.args.param.now c.args.writer.now.bytes.items c.put.new.self.bytes.items c.value.new.self.bytes.items c.put-2.new.self.bytes.items
    c.value-2.new.self.bytes.items c.finish.new.self.bytes.items c.as_bytes.result.now c.as_bytes-2.result.now
    (c.as_bytes.ensures.value ∙ c.as_str.ensures) (c.as_bytes-2.ensures.value ∙ c.as_str-2.ensures)
    c.in_ok-put.ensures.bytes c.in_ok-value.ensures.bytes c.in_ok-put-2.ensures.bytes c.in_ok-value-2.ensures.bytes c.in_ok-finish.ensures.bytes
