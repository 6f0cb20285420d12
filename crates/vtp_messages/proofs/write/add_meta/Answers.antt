use Rattle.std.proofs.Common.{◌≡◌, true, arith}
use Rattle.vtp_messages.proofs.Puts.{meta_put}
use Rattle.vtp_messages.proofs.write.add_meta.Goals as goal

pub returns-clause-bytes : goal.returns-clause-bytes
returns-clause-bytes c =
    let stands : c.has_meta.result ≡ true = grind (arith, c.if-not-has_meta.false, c.if-not-has_meta.ensures) in
    meta_put c.args.params.now c.args.answer.now c.has_meta.result c.args.writer.now.bytes.items c.add_start.new.writer.bytes.items
    c.add_params.new.writer.bytes.items c.add_text.new.writer.bytes.items c.end_tag.new.self.bytes.items c.has_meta.ensures stands
    c.in_ok-add_start.ensures.bytes c.in_ok-add_params.ensures.bytes c.in_ok-add_text.ensures.bytes c.in_ok-end_tag.ensures.bytes
