use Rattle.std.proofs.Common.{◌≡◌, ℕ, Some, None, sym, ap, ◌∙◌}
use Rattle.voe_tree.specs.declared.fault.TreeFault.{TreeFault}
use Rattle.voe_tree.specs.declared.fault.TreeFault.TheVariants.{NoMemory}
use Rattle.voe_validity.specs.Judging.{number_of_fault}
use Rattle.voevent_online.proofs.submit_packet.refusal_of_tree.Goals as goal

not_numbered : (fault : TreeFault) (number : ℕ) → fault ≡ NoMemory → number_of_fault fault ≡ Some number → ⊥
not_numbered fault number lacks numbered = let no : None ≡ Some number = sym (ap number_of_fault lacks) ∙ numbered in cc

pub unreachable-requires : goal.unreachable-requires
unreachable-requires c =
    let h = c.requires.no_tree.1 in
    not_numbered h.0 c.requires.no_tree.0 (c.spelled_is_not_refused.ensures c.args.bytes.now c.in-Ok.field-0.root h.0 c.in-Ok.ensures h.1) h.2
