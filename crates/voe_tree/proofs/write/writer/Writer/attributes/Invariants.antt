use Rattle.std.proofs.Common.{◌≡◌, ◌++◌, drop, map}
use Rattle.voe_tree.specs.Canonical.{written_attribute}
use Rattle.voe_tree.specs.Writing.{all_spelled, texts}
use Rattle.voe_tree.proofs.write.writer.Writer.attributes.Given as goal

abbrev pub invariant-loop-attribute : goal.invariant-loop-attribute
invariant-loop-attribute l = record {
  bytes : l.self.bytes.items ++ all_spelled (map (written_attribute (texts l.spaces)) (drop l.attribute-index l.attributes))
      ≡ l.fn.self.bytes.items ++ all_spelled (map (written_attribute (texts l.spaces)) l.attributes);
  tokens : l.self.tokens ≡ l.fn.self.tokens;
}
