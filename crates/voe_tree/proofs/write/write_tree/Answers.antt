use Rattle.std.proofs.Common.{rules}
use Rattle.voe_tree.proofs.WrittenDocument.{written_spells}
use Rattle.voe_tree.proofs.WrittenRoot.{root_fault, full_refuses, ok_writes}
use Rattle.voe_tree.proofs.write.write_tree.Goals as goal

pub returns-in_err-write-clause-text : goal.returns-in_err-write-clause-text
returns-in_err-write-clause-text c =
    root_fault _ c.from_residual.result c.in_err-write.field-0.0 c.args.tree.now.root c.new-writer.result.bytes.items c.new-writer.result.tokens
    c.new-writer.ensures.bytes c.new-writer.ensures.tokens c.from_residual.ensures.1 c.in_err-write.ensures.large

pub returns-then-is_full-clause-text : goal.returns-then-is_full-clause-text
returns-then-is_full-clause-text c =
    full_refuses c.args.tree.now.root c.new-writer.result.bytes.items c.write.new.writer.bytes.items c.new-writer.result.tokens c.write.new.writer.tokens
    c.new-writer.ensures.bytes c.new-writer.ensures.tokens c.in_ok-write.ensures.bytes c.in_ok-write.ensures.tokens c.is_full.result c.is_full.ensures (search rules)

pub returns-clause-text : goal.returns-clause-text
returns-clause-text c =
    ok_writes c.args.tree.now.root c.new-writer.result.bytes.items c.write.new.writer.bytes.items c.new-writer.result.tokens c.write.new.writer.tokens
    c.new-writer.ensures.bytes c.new-writer.ensures.tokens c.in_ok-write.ensures.bytes c.in_ok-write.ensures.tokens c.into_bytes.result c.is_full.result
    c.into_bytes.ensures c.in_ok-write.ensures.narrow c.is_full.ensures (search rules)

pub returns-clause-spells : goal.returns-clause-spells
returns-clause-spells c = written_spells c.args.tree.now.root c.into_bytes.result c.args.tree.now.well_formed (returns-clause-text c)
