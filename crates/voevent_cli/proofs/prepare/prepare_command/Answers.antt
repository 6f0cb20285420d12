-- Above its limit a command has one outcome; else what it did with its input counts.
use Rattle.voevent_cli.proofs.Wants.{prepared_above, prepared_whole}
use Rattle.voevent_cli.proofs.prepare.prepare_command.Goals as goal

pub returns-in_ok-outcome-in-Err-TooLong-clause-prepares : goal.returns-in_ok-outcome-in-Err-TooLong-clause-prepares
returns-in_ok-outcome-in-Err-TooLong-clause-prepares g c =
    prepared_above g.R.Trial.Disk g.R.Real.Disk c.args.words.now c.args.command _ _ _ (g.S.Source.fault_count c.args.source.now) (g.S.Source.fault_count c.read_all.new.source) _ c.refusal_above.result (c.in_ok-outcome-in-Err-TooLong).field-0
    c.requires.asked c.requires.other c.limit.ensures c.in_ok-outcome-in-Err-TooLong.ensures c.refusal_above.ensures (rw c.in-Err-TooLong.field-0-is at c.in-Err-TooLong.ensures.bytes)

pub returns-in-Ok-clause-prepares : goal.returns-in-Ok-clause-prepares
returns-in-Ok-clause-prepares g c =
    prepared_whole g.R.Trial.Disk g.R.Real.Disk c.args.words.now c.args.command _ _ _ (g.S.Source.fault_count c.args.source.now) (g.S.Source.fault_count c.read_all.new.source) _ _ c.in-Ok.input _
    c.requires.asked c.requires.other c.limit.ensures c.in-Ok.ensures.bytes (rw c.as_slice.ensures at c.answer_of.ensures.acted)
