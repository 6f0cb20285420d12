use Rattle.vtp_messages.proofs.Puts.{message_put}
use Rattle.vtp_messages.proofs.write.add_message.Goals as goal

pub returns-clause-bytes : goal.returns-clause-bytes
returns-clause-bytes c =
    message_put c.args.message.now c.args.writer.now.bytes.items c.add_root.new.writer.bytes.items c.add_inner.new.writer.bytes.items
    c.end_tag.new.self.bytes.items c.in_ok-add_root.ensures.bytes c.in_ok-add_inner.ensures.bytes c.in_ok-end_tag.ensures.bytes
