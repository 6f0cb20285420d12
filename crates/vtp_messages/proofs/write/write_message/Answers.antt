-- The text spells a tree that says the message.
use Rattle.vtp_messages.proofs.Finished.{finished_text}
use Rattle.vtp_messages.proofs.Kept.{written_message}
use Rattle.vtp_messages.proofs.Said.{message_said, said_if}
use Rattle.vtp_messages.proofs.write.write_message.Goals as goal

pub returns-clause-text : goal.returns-clause-text
returns-clause-text c =
    finished_text c.args.message.now c.new-writer.result.bytes.items c.add_message.new.writer.bytes.items c.new-writer.result.tokens c.add_message.new.writer.tokens
    c.new-writer.ensures.bytes c.new-writer.ensures.tokens c.in_ok-add_message.ensures.bytes c.in_ok-add_message.ensures.tokens
    c.finished.result c.finished.ensures.few c.finished.ensures.many

pub returns-clause-reads : goal.returns-clause-reads
returns-clause-reads c =
    written_message c.args.message.now c.finished.result c.are_plain_names.ensures.origin c.are_plain_names.ensures.response c.requires (returns-clause-text c)

pub returns-clause-says : goal.returns-clause-says
returns-clause-says c =
    said_if c.args.message.now c.finished.result (message_said c.args.message.now c.are_plain_names.ensures.origin c.are_plain_names.ensures.response)
