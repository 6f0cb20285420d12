use Rattle.std.proofs.Common.{◌≡◌, false, true, inr}
use Rattle.voevent_cli.proofs.matching.match_tree.Goals as goal

never : false ≡ true → ⊥
never e = cc

pub returns : goal.returns
returns c = inr ((λ passes. never (c.if-passes.ensures.1 passes)), c.in_ok-outcome-2.ensures)
