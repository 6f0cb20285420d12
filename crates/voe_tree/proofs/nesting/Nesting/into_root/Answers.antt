use Rattle.std.proofs.Common.{◌∙◌, sym, reverse}
use Rattle.voe_tree.proofs.TakeLaws.{finds_root, finds_other, finds_none}
use Rattle.voe_tree.proofs.nesting.Nesting.into_root.Goals as goal

pub returns-in-Some-as_element : goal.returns-in-Some-as_element
returns-in-Some-as_element c =
    let s = c.args.self in
    let both = finds_root s.pending s.current (reverse s.parents.items) c.requires (sym c.is_outside.ensures ∙ c.if-not-is_outside.false) c.pop.new.self c.in-Some.node c.in-Some-as_element.root
    c.in-Some.ensures c.in-Some-as_element.ensures in
    record { found = both.0; kept = both.1; fault = tt }

pub returns-in-Some : goal.returns-in-Some
returns-in-Some c =
    let s = c.args.self in
    absurd (finds_other s.pending s.current (reverse s.parents.items) c.requires (sym c.is_outside.ensures ∙ c.if-not-is_outside.false) c.pop.new.self c.in-Some.node
    c.in-Some.ensures c.in-None-as_element.ensures)

pub returns-clause-fault : goal.returns-clause-fault
returns-clause-fault c =
    let s = c.args.self in
    finds_none s.pending s.current (reverse s.parents.items) c.requires (sym c.is_outside.ensures ∙ c.if-not-is_outside.false) c.in-None.ensures.0
