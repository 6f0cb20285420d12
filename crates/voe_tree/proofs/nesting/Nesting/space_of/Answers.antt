use Rattle.std.proofs.Common.{sym, ◌∙◌, Some, None}
use Rattle.voe_tree.specs.Reader.{bindings_at}
use Rattle.voe_tree.specs.View.{bindings_of, stack_of}
use Rattle.voe_tree.proofs.Lookups.{space-own, space-here}
use Rattle.voe_tree.proofs.nesting.Nesting.space_of.Goals as goal

pub returns-in-Some : goal.returns-in-Some
returns-in-Some c =
    c.as_str.ensures ∙ space-own c.args.prefix.now (bindings_of c.args.own.now) (bindings_at (stack_of c.args.self.now)) c.in-Some.found.now
    (sym c.eq.ensures ∙ c.if-eq.false) (sym c.in-Some.ensures)

pub returns-in-Some-bound_here : goal.returns-in-Some-bound_here
returns-in-Some-bound_here c =
    c.as_str-in-Some-bound_here.ensures ∙ space-here c.args.prefix.now (bindings_of c.args.own.now) (bindings_at (stack_of c.args.self.now)) (Some c.in-Some-bound_here.found.now)
    (sym c.eq.ensures ∙ c.if-eq.false) (sym c.in-None.ensures) (sym c.in-Some-bound_here.ensures)

pub returns-in-None-bound_here : goal.returns-in-None-bound_here
returns-in-None-bound_here c =
    space-here c.args.prefix.now (bindings_of c.args.own.now) (bindings_at (stack_of c.args.self.now)) None
    (sym c.eq.ensures ∙ c.if-eq.false) (sym c.in-None.ensures) (sym c.in-None-bound_here.ensures)
