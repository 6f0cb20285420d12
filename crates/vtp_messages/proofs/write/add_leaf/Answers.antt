use Rattle.vtp_messages.proofs.Puts.{leaf_put}
use Rattle.vtp_messages.proofs.write.add_leaf.Goals as goal

pub returns-clause-bytes : goal.returns-clause-bytes
returns-clause-bytes c =
    leaf_put c.args.name.now c.args.text.now c.args.writer.now.bytes.items c.add_start.new.writer.bytes.items c.text.new.self.bytes.items
    c.end_tag.new.self.bytes.items c.as_bytes.result.now c.as_bytes.ensures.value c.in_ok-add_start.ensures.bytes c.in_ok-text.ensures.bytes c.in_ok-end_tag.ensures.bytes
