use Rattle.std.proofs.Common.{reverse}
use Rattle.voe_tree.proofs.TakeLaws.{root_found}
use Rattle.voe_tree.proofs.nesting.Nesting.has_root.Goals as goal

pub returns : goal.returns
returns c = let s = c.args.self.now in root_found s.current (reverse s.parents.items) c.is_empty.result c.requires c.is_empty.ensures
