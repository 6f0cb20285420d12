use Rattle.voe_tree.proofs.WrittenRuns.{text_reads}
use Rattle.voe_tree.proofs.write.writer.text_run.Goals as goal

pub returns-clause-reads : goal.returns-clause-reads
returns-clause-reads c = text_reads _ _ _ _ c.text_run_len.ensures.value c.split_at.ensures.front c.split_at.ensures.back
