use Rattle.std.proofs.Common.{reverse}
use Rattle.voe_tree.proofs.Stacks.{stack_from-place}
use Rattle.voe_tree.proofs.nesting.Nesting.place.Goals as goal

pub returns-in-Ok-clause-stack : goal.returns-in-Ok-clause-stack
returns-in-Ok-clause-stack c =
    let s = c.args.self.now in
    rw c.in-Ok.ensures.ok (stack_from-place s.current (reverse s.parents.items) c.args.node)
