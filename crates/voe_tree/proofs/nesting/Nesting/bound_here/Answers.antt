use Rattle.std.proofs.Common.{reverse, sym, ◌∙◌, ap}
use Rattle.voe_tree.specs.Names.{lookup}
use Rattle.voe_tree.specs.Rules.{or_else}
use Rattle.voe_tree.specs.View.{bindings_of, bindings_around}
use Rattle.voe_tree.proofs.Lookups.{lookup-here}
use Rattle.voe_tree.proofs.nesting.Nesting.bound_here.Goals as goal

pub returns-in-Some : goal.returns-in-Some
returns-in-Some c =
    let s = c.args.self.now in
    ap (λ o. or_else o (lookup c.args.prefix.now (bindings_around (reverse s.parents.items))))
    (c.in-Some.ensures ∙ ap (λ l. lookup c.args.prefix.now (bindings_of l)) c.deref.ensures.value)
    ∙ sym (lookup-here c.args.prefix.now s.current s.parents.items)

pub returns-in-None : goal.returns-in-None
returns-in-None c =
    let s = c.args.self.now in
    c.bound_around.ensures ∙ ap (λ l. lookup c.args.prefix.now (bindings_around (reverse l))) c.deref-in-None.ensures.value
    ∙ ap (λ o. or_else o (lookup c.args.prefix.now (bindings_around (reverse s.parents.items))))
    (c.in-None.ensures ∙ ap (λ l. lookup c.args.prefix.now (bindings_of l)) c.deref.ensures.value)
    ∙ sym (lookup-here c.args.prefix.now s.current s.parents.items)
