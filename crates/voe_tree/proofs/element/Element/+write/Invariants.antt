use Rattle.std.proofs.Common.{◌≡◌, ◌+◌, ◌++◌, length, drop, map, true}
use Rattle.std.specs.List.{list_all}
use Rattle.voe_tree.specs.Canonical.{all_in, all_written, is_narrow, tokens_in}
use Rattle.voe_tree.proofs.element.Element.+write.Given as goal

abbrev pub invariant-loop-node : goal.invariant-loop-node
invariant-loop-node l = record {
  bytes : l.writer.bytes.items ++ all_written (all_in l.self.space (map tokens_in (drop l.node-index l.node-items)))
      ≡ l.initial.writer.bytes.items ++ all_written (all_in l.self.space (map tokens_in l.node-items));
  tokens : l.writer.tokens + length (all_in l.self.space (map tokens_in (drop l.node-index l.node-items)))
      ≡ l.initial.writer.tokens + length (all_in l.self.space (map tokens_in l.node-items));
  narrow : list_all is_narrow (all_in l.self.space (map tokens_in (drop l.node-index l.node-items))) ≡ true
      → list_all is_narrow (all_in l.self.space (map tokens_in l.node-items)) ≡ true;
}
