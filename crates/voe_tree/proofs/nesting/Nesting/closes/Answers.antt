use Rattle.std.proofs.Common.{◌∙◌, sym, reverse}
use Rattle.voe_tree.proofs.TakeLaws.{closes_innermost}
use Rattle.voe_tree.proofs.nesting.Nesting.closes.Goals as goal

pub returns : goal.returns
returns c =
    let s = c.args.self.now in
    c.eq.ensures ∙ closes_innermost s.current (reverse s.parents.items) c.args.name.now (sym c.is_outside.ensures ∙ c.if-is_outside.false)
