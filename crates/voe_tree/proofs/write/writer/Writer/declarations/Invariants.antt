use Rattle.std.proofs.Common.{◌≡◌, ◌++◌, drop}
use Rattle.voe_tree.specs.Canonical.{numbered_declarations}
use Rattle.voe_tree.specs.Writing.{all_spelled, texts}
use Rattle.voe_tree.proofs.write.writer.Writer.declarations.Given as goal

abbrev pub invariant-loop-number : goal.invariant-loop-number
invariant-loop-number l = record {
  bytes : l.self.bytes.items ++ all_spelled (numbered_declarations l.number (texts (drop l.number l.spaces)))
      ≡ l.fn.self.bytes.items ++ all_spelled (numbered_declarations 0 (texts l.spaces));
  tokens : l.self.tokens ≡ l.fn.self.tokens;
}
