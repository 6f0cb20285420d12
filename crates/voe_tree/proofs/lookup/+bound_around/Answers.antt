use Rattle.std.proofs.Common.{sym, ◌∙◌, ap}
use Rattle.voe_tree.specs.Names.{lookup}
use Rattle.voe_tree.specs.View.{bindings_of}
use Rattle.voe_tree.proofs.Lookups.{around-found, around-further}
use Rattle.voe_tree.proofs.lookup.+bound_around.Goals as goal

pub returns-in-Some-bound : goal.returns-in-Some-bound
returns-in-Some-bound t c =
    around-found c.args.prefix.now c.args.levels.now c.in-Some.front.now c.in-Some.last.now c.in-Some-bound.found.now c.in-Some.ensures.cases.0
    (ap (λ l. lookup c.args.prefix.now (bindings_of l)) (sym c.deref.ensures.value) ∙ sym c.in-Some-bound.ensures)

pub returns-in-None-bound : goal.returns-in-None-bound
returns-in-None-bound t c =
    c.bound_around.ensures ∙ around-further c.args.prefix.now c.args.levels.now c.in-Some.front.now c.in-Some.last.now c.in-Some.ensures.cases.0
    (ap (λ l. lookup c.args.prefix.now (bindings_of l)) (sym c.deref.ensures.value) ∙ sym c.in-None-bound.ensures)
