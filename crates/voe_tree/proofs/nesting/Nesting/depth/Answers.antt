use Rattle.std.proofs.Common.{◌∙◌}
use Rattle.voe_tree.proofs.Stacks.{opened-of_parents}
use Rattle.voe_tree.proofs.nesting.Nesting.depth.Goals as goal

pub returns : goal.returns
returns c = c.len.ensures ∙ c.args.self.now.parents.ok.0 ∙ opened-of_parents c.args.self.now.current c.args.self.now.parents.items
