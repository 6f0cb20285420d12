use Rattle.std.proofs.Common.{◌++◌, ◌∙◌, sym, ap, refl}
use Rattle.xml_lexer.specs.View.{all_spelled}
use Rattle.voe_tree.specs.Pairs.{has_pair}
use Rattle.voe_tree.specs.Rules.{same_named}
use Rattle.voe_tree.specs.Reader.{bindings_at}
use Rattle.voe_tree.specs.View.{bindings_of, stack_of}
use Rattle.voe_tree.proofs.TakeLaws.{start-deep, start-spelled, start-named, start-unbound, start-attribute, start-late, start-good}
use Rattle.voe_tree.proofs.nesting.Nesting.tag_fault.Goals as goal

pub returns-then-is_too_deep-clause-fault : goal.returns-then-is_too_deep-clause-fault
returns-then-is_too_deep-clause-fault c =
    let s = stack_of c.args.self.now in
    let b = bindings_of c.args.own.now ++ bindings_at s in
    let n = c.args.tag.now.name.now in
    let given = all_spelled c.args.tag.now.attributes.items in
    (start-deep b s n given (sym c.is_too_deep.ensures ∙ c.if-is_too_deep.true), refl)

pub returns-then-is_spelled_twice-clause-fault : goal.returns-then-is_spelled_twice-clause-fault
returns-then-is_spelled_twice-clause-fault c =
    let s = stack_of c.args.self.now in
    let b = bindings_of c.args.own.now ++ bindings_at s in
    let n = c.args.tag.now.name.now in
    let given = all_spelled c.args.tag.now.attributes.items in
    (start-spelled b s n given (sym c.is_too_deep.ensures ∙ c.if-is_too_deep.false) (sym c.is_spelled_twice.ensures ∙ c.if-is_spelled_twice.true), refl)

pub returns-then-is_named_twice-clause-fault : goal.returns-then-is_named_twice-clause-fault
returns-then-is_named_twice-clause-fault c =
    let s = stack_of c.args.self.now in
    let b = bindings_of c.args.own.now ++ bindings_at s in
    let n = c.args.tag.now.name.now in
    let given = all_spelled c.args.tag.now.attributes.items in (
      start-named b s n given (sym c.is_too_deep.ensures ∙ c.if-is_too_deep.false) (sym c.is_spelled_twice.ensures ∙ c.if-is_spelled_twice.false)
          (ap (has_pair same_named) (sym c.requires) ∙ sym c.is_named_twice.ensures ∙ c.if-is_named_twice.true),
      refl,
    )

pub returns-then-is_unbound-clause-fault : goal.returns-then-is_unbound-clause-fault
returns-then-is_unbound-clause-fault c =
    let s = stack_of c.args.self.now in
    let b = bindings_of c.args.own.now ++ bindings_at s in
    let n = c.args.tag.now.name.now in
    let given = all_spelled c.args.tag.now.attributes.items in (
      start-unbound b s n given (sym c.is_too_deep.ensures ∙ c.if-is_too_deep.false) (sym c.is_spelled_twice.ensures ∙ c.if-is_spelled_twice.false)
          (ap (has_pair same_named) (sym c.requires) ∙ sym c.is_named_twice.ensures ∙ c.if-is_named_twice.false)
          (sym c.is_unbound.ensures ∙ c.if-is_unbound.true),
      refl,
    )

pub returns-then-has_unbound-clause-fault : goal.returns-then-has_unbound-clause-fault
returns-then-has_unbound-clause-fault c =
    let s = stack_of c.args.self.now in
    let b = bindings_of c.args.own.now ++ bindings_at s in
    let n = c.args.tag.now.name.now in
    let given = all_spelled c.args.tag.now.attributes.items in (
      start-attribute b s n given (sym c.is_too_deep.ensures ∙ c.if-is_too_deep.false) (sym c.is_spelled_twice.ensures ∙ c.if-is_spelled_twice.false)
          (ap (has_pair same_named) (sym c.requires) ∙ sym c.is_named_twice.ensures ∙ c.if-is_named_twice.false)
          (sym c.is_unbound.ensures ∙ c.if-is_unbound.false) (sym c.has_unbound.ensures ∙ c.if-has_unbound.true),
      refl,
    )

pub returns-then-is_behind_root-clause-fault : goal.returns-then-is_behind_root-clause-fault
returns-then-is_behind_root-clause-fault c =
    let s = stack_of c.args.self.now in
    let b = bindings_of c.args.own.now ++ bindings_at s in
    let n = c.args.tag.now.name.now in
    let given = all_spelled c.args.tag.now.attributes.items in (
      start-late b s n given (sym c.is_too_deep.ensures ∙ c.if-is_too_deep.false) (sym c.is_spelled_twice.ensures ∙ c.if-is_spelled_twice.false)
          (ap (has_pair same_named) (sym c.requires) ∙ sym c.is_named_twice.ensures ∙ c.if-is_named_twice.false)
          (sym c.is_unbound.ensures ∙ c.if-is_unbound.false) (sym c.has_unbound.ensures ∙ c.if-has_unbound.false)
          (sym c.is_behind_root.ensures ∙ c.if-is_behind_root.true),
      refl,
    )

pub returns-clause-none : goal.returns-clause-none
returns-clause-none c =
    let s = stack_of c.args.self.now in
    let b = bindings_of c.args.own.now ++ bindings_at s in
    let n = c.args.tag.now.name.now in
    let given = all_spelled c.args.tag.now.attributes.items in
    start-good b s n given (sym c.is_too_deep.ensures ∙ c.if-is_too_deep.false) (sym c.is_spelled_twice.ensures ∙ c.if-is_spelled_twice.false)
    (ap (has_pair same_named) (sym c.requires) ∙ sym c.is_named_twice.ensures ∙ c.if-is_named_twice.false)
    (sym c.is_unbound.ensures ∙ c.if-is_unbound.false) (sym c.has_unbound.ensures ∙ c.if-has_unbound.false)
    (sym c.is_behind_root.ensures ∙ c.if-is_behind_root.false)
