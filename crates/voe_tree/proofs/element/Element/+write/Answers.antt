use Rattle.std.proofs.Common.{◌≡◌, ◌∙◌, length, sym, ap, arith, rules, false}
use Rattle.std.specs.Prelude.{◌==◌}
use Rattle.voe_tree.specs.Canonical.{text_tokens, tokens_in, tokens_of}
use Rattle.voe_tree.specs.declared.write.writer.Writer.{Writer}
use Rattle.voe_tree.proofs.WrittenRuns.{text_tokens-narrow}
use Rattle.voe_tree.proofs.WrittenTree.{element_bytes, element_counts, element_narrow, node_bytes, node_counts, node_narrow, node_exceeds, tokens_in-element, tokens_in-text}
use Rattle.voe_tree.proofs.element.Element.+write.Goals.{in-Element+in_ok-write-in-Element, in-Text+in_ok-text-in-Text}
use Rattle.voe_tree.proofs.element.Element.+write.Goals as goal

pub loop-node-preserved : goal.loop-node-preserved
loop-node-preserved t c =
    elim c.match-node.branch [
      | in-Element+in_ok-write-in-Element w ↦
          let ks = tokens_of w.in-Element.inner w.as_str.result.now in
          let is : tokens_in c.node-item.result c.args.self.now.space ≡ ks =
          ap (λ n. tokens_in n c.args.self.now.space) w.in-Element.is ∙ tokens_in-element w.in-Element.inner c.args.self.now.space ∙ ap (tokens_of w.in-Element.inner) (sym w.as_str.ensures) in
          record {
            bytes = node_bytes c.as_slice-node-items.result.now c.loop-node.node-index c.node-item.result c.args.self.now.space ks c.loop-node-test.true c.node-item.is is _
                c.loop-node.writer.bytes.items c.match-node.writer.bytes.items c.loop-node.invariant.bytes (ap (λ (x : Writer). x.bytes.items) w.writer-is ∙ w.in_ok-write-in-Element.ensures.bytes);
            tokens = node_counts c.as_slice-node-items.result.now c.loop-node.node-index c.node-item.result c.args.self.now.space ks c.loop-node-test.true c.node-item.is is _
                c.loop-node.writer.tokens c.match-node.writer.tokens c.loop-node.invariant.tokens (ap (λ (x : Writer). x.tokens) w.writer-is ∙ w.in_ok-write-in-Element.ensures.tokens);
            narrow = node_narrow c.as_slice-node-items.result.now c.loop-node.node-index c.node-item.result c.args.self.now.space ks c.loop-node-test.true c.node-item.is is _
                c.loop-node.invariant.narrow w.in_ok-write-in-Element.ensures.narrow;
          }
      | in-Text+in_ok-text-in-Text w ↦
          let ks = text_tokens w.as_bytes.result.now in
          let is : tokens_in c.node-item.result c.args.self.now.space ≡ ks =
          ap (λ n. tokens_in n c.args.self.now.space) w.in-Text.is ∙ tokens_in-text w.in-Text.text c.args.self.now.space
          ∙ ap text_tokens (sym (w.as_bytes.ensures.value ∙ w.as_str-in-Text.ensures)) in
          record {
            bytes = node_bytes c.as_slice-node-items.result.now c.loop-node.node-index c.node-item.result c.args.self.now.space ks c.loop-node-test.true c.node-item.is is _
                c.loop-node.writer.bytes.items c.match-node.writer.bytes.items c.loop-node.invariant.bytes (ap (λ (x : Writer). x.bytes.items) w.writer-is ∙ w.in_ok-text-in-Text.ensures.bytes);
            tokens = node_counts c.as_slice-node-items.result.now c.loop-node.node-index c.node-item.result c.args.self.now.space ks c.loop-node-test.true c.node-item.is is _
                c.loop-node.writer.tokens c.match-node.writer.tokens c.loop-node.invariant.tokens (ap (λ (x : Writer). x.tokens) w.writer-is ∙ w.in_ok-text-in-Text.ensures.tokens);
            narrow = node_narrow c.as_slice-node-items.result.now c.loop-node.node-index c.node-item.result c.args.self.now.space ks c.loop-node-test.true c.node-item.is is _
                c.loop-node.invariant.narrow (text_tokens-narrow w.as_bytes.result.now);
          }
    ]

pub returns-in_ok-end_tag-clause-bytes : goal.returns-in_ok-end_tag-clause-bytes
returns-in_ok-end_tag-clause-bytes t c =
    let some : (length c.args.self.now.children == 0) ≡ false = grind arith in
    element_bytes c.args.self.now c.args.default.now c.as_slice-node-items.result.now c.loop-node.node-index c.as_slice-node-items.ensures some (omega arith)
    c.args.writer.now.bytes.items c.write_tag.new.writer.bytes.items c.loop-node.writer.bytes.items c.end_tag.new.self.bytes.items
    c.in_ok-write_tag.ensures.bytes c.loop-node.invariant.bytes (search rules)

pub returns-in_ok-end_tag-clause-tokens : goal.returns-in_ok-end_tag-clause-tokens
returns-in_ok-end_tag-clause-tokens t c =
    let some : (length c.args.self.now.children == 0) ≡ false = grind arith in
    element_counts c.args.self.now c.args.default.now c.as_slice-node-items.result.now c.loop-node.node-index c.as_slice-node-items.ensures some (omega arith)
    c.args.writer.now.tokens c.write_tag.new.writer.tokens c.loop-node.writer.tokens c.end_tag.new.self.tokens
    c.in_ok-write_tag.ensures.tokens c.loop-node.invariant.tokens (search rules)

pub returns-in_ok-end_tag-clause-narrow : goal.returns-in_ok-end_tag-clause-narrow
returns-in_ok-end_tag-clause-narrow t c =
    let some : (length c.args.self.now.children == 0) ≡ false = grind arith in
    element_narrow c.args.self.now c.args.default.now c.as_slice-node-items.result.now c.loop-node.node-index c.as_slice-node-items.ensures some (omega arith)
    c.in_ok-write_tag.ensures.narrow c.loop-node.invariant.narrow

pub returns-in_err-write-in-Element-clause-large : goal.returns-in_err-write-in-Element-clause-large
returns-in_err-write-in-Element-clause-large t c =
    let ks = tokens_of c.in-Element.inner c.as_str.result.now in
    let is : tokens_in c.node-item.result c.args.self.now.space ≡ ks =
    ap (λ n. tokens_in n c.args.self.now.space) c.in-Element.is ∙ tokens_in-element c.in-Element.inner c.args.self.now.space ∙ ap (tokens_of c.in-Element.inner) (sym c.as_str.ensures) in
    node_exceeds c.from_residual-in_err-write-in-Element.result c.in_err-write-in-Element.field-0.0 c.args.self.now c.args.default.now c.as_slice-node-items.result.now c.loop-node.node-index
    c.node-item.result ks c.loop-node-test.true c.node-item.is is c.as_slice-node-items.ensures
    c.args.writer.now.bytes.items c.write_tag.new.writer.bytes.items c.loop-node.writer.bytes.items c.args.writer.now.tokens c.write_tag.new.writer.tokens c.loop-node.writer.tokens
    c.in_ok-write_tag.ensures.bytes c.in_ok-write_tag.ensures.tokens c.loop-node.invariant.bytes c.loop-node.invariant.tokens
    c.from_residual-in_err-write-in-Element.ensures.1 c.in_err-write-in-Element.ensures.large
