use Rattle.std.proofs.Common.{◌≡◌, None, sym, ap, subst}
use Rattle.std.specs.Prelude.{IfNone, IfSome, Option}
use Rattle.xml_lexer.specs.View.{all_spelled}
use Rattle.voe_tree.specs.Fault.{Shows}
use Rattle.voe_tree.specs.Rules.{Rule}
use Rattle.voe_tree.specs.Reader.{bindings_at}
use Rattle.voe_tree.specs.View.{stack_of}
use Rattle.voe_tree.specs.declared.element.Element.{Element}
use Rattle.voe_tree.proofs.TakeLaws.{breaks-start}
use Rattle.voe_tree.proofs.nesting.Nesting.start_fault.Goals as goal

pub tag_fault-requires : goal.tag_fault-requires
tag_fault-requires c = ap (λ (e : Element). e.attributes) c.requires.names

pub returns-clause-none : goal.returns-clause-none
returns-clause-none c =
    let s = c.args.self.now in
    let tag = c.args.tag.now in
    let law = breaks-start s.pending (stack_of s) tag.name.now (all_spelled tag.attributes.items) tag.is_empty _ c.requires.tidy (c.requires.declares (bindings_at (stack_of s))) in
    subst (λ (r : Option Rule). IfNone c.tag_fault.result (r ≡ None)) (sym law) c.tag_fault.ensures.none

pub returns-clause-fault : goal.returns-clause-fault
returns-clause-fault c =
    let s = c.args.self.now in
    let tag = c.args.tag.now in
    let law = breaks-start s.pending (stack_of s) tag.name.now (all_spelled tag.attributes.items) tag.is_empty _ c.requires.tidy (c.requires.declares (bindings_at (stack_of s))) in
    subst (λ (r : Option Rule). IfSome c.tag_fault.result (λ fault. Shows c.args.at r fault)) (sym law) c.tag_fault.ensures.fault
