use Rattle.std.proofs.Common.{◌∙◌, ◌++◌, ap}
use Rattle.std.specs.Prelude.{codes}
use Rattle.voe_tree.specs.Canonical.{all_written}
use Rattle.vtp_messages.specs.Spelling.{leaf, meta}
use Rattle.vtp_messages.proofs.Puts.{inner_put}
use Rattle.vtp_messages.proofs.write.add_inner.Goals as goal

pub returns-clause-bytes : goal.returns-clause-bytes
returns-clause-bytes c =
    inner_put c.args.message.now c.args.writer.now.bytes.items c.add_leaf.new.writer.bytes.items c.add_name.new.writer.bytes.items
    c.add_text.new.writer.bytes.items c.add_meta.new.writer.bytes.items
    (c.in_ok-add_leaf.ensures.bytes ∙ ap (λ o. c.args.writer.now.bytes.items ++ all_written (leaf (codes "Origin") o)) c.as_str.ensures.text)
    c.in_ok-add_name.ensures.bytes c.in_ok-add_text.ensures.bytes
    (c.in_ok-add_meta.ensures.bytes ∙ ap (λ ps. c.add_text.new.writer.bytes.items ++ all_written (meta ps c.args.message.now.result)) c.as_slice.ensures)
