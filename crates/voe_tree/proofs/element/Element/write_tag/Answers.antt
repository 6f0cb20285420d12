use Rattle.std.proofs.Common.{refl, arith}
use Rattle.voe_tree.proofs.WrittenStart.{too_many, few_enough}
use Rattle.voe_tree.proofs.element.Element.write_tag.Goals as goal

pub returns-then-declared_len-len-gt-MAX_ATTRIBUTES-clause-wide : goal.returns-then-declared_len-len-gt-MAX_ATTRIBUTES-clause-wide
returns-then-declared_len-len-gt-MAX_ATTRIBUTES-clause-wide c =
    too_many c.args.default.now c.args.self.now.space c.as_str.result.now c.args.self.now.attributes c.as_slice-attributes.result.now c.in_ok-spaces.spaces.items
    c.declared_len.result c.len.result _ c.declared_len.ensures.value c.as_str.ensures (omega arith) c.in_ok-spaces.ensures c.as_slice-attributes.ensures refl (omega arith)

pub returns-clause-narrow : goal.returns-clause-narrow
returns-clause-narrow c =
    few_enough c.args.default.now c.args.self.now.space c.as_str.result.now c.args.self.now.attributes c.as_slice-attributes.result.now c.in_ok-spaces.spaces.items
    c.declared_len.result c.len.result _ c.declared_len.ensures.value c.as_str.ensures (omega arith) c.in_ok-spaces.ensures c.as_slice-attributes.ensures refl (omega arith)
