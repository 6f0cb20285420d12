use Rattle.voe_tree.proofs.ValueLaws.{plain_reads}
use Rattle.voe_tree.proofs.values.plain_front.Goals as goal

pub returns-clause-reads : goal.returns-clause-reads
returns-clause-reads c = plain_reads _ _ _ _ _ c.as_bytes.ensures.value c.plain_len.ensures.value c.split_at.ensures.front c.split_at.ensures.back
