use Rattle.voe_tree.proofs.WrittenRuns.{value_reads}
use Rattle.voe_tree.proofs.write.writer.value_run.Goals as goal

pub returns-clause-reads : goal.returns-clause-reads
returns-clause-reads c = value_reads _ _ _ _ c.value_run_len.ensures.value c.split_at.ensures.front c.split_at.ensures.back
