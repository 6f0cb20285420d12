use Rattle.std.proofs.Common.{◌∙◌}
use Rattle.vtp_messages.proofs.Puts.{root_put}
use Rattle.vtp_messages.proofs.write.add_root.Goals as goal

pub returns-clause-bytes : goal.returns-clause-bytes
returns-clause-bytes c =
    root_put c.args.role c.args.writer.now.bytes.items c.put.new.self.bytes.items c.put-2.new.self.bytes.items c.finish.new.self.bytes.items
    c.as_bytes.result.now (c.as_bytes.ensures.value ∙ c.word.ensures) c.in_ok-put.ensures.bytes c.in_ok-put-2.ensures.bytes c.in_ok-finish.ensures.bytes
