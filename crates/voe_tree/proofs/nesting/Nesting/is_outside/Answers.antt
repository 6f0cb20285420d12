use Rattle.std.proofs.Common.{◌==◌, ◌∙◌, ap}
use Rattle.voe_tree.proofs.Stacks.{bottom-of_parents}
use Rattle.voe_tree.proofs.nesting.Nesting.is_outside.Goals as goal

pub returns : goal.returns
returns c =
    let parents = c.args.self.now.parents in
    c.is_empty.ensures ∙ ap (λ n. n == 0) parents.ok.0 ∙ bottom-of_parents c.args.self.now.current parents.items
