use Rattle.std.proofs.Common.{subst}
use Rattle.path_filter.specs.Sets.{SetPasses}
use Rattle.path_filter.proofs.laws.bytes_pass_as_their_tree.Goals as goal

pub returns : goal.returns
returns c = λ set bytes root spells. ((λ (other, also, passes). subst (SetPasses set) (c.trees_are_unique.ensures bytes other root also spells) passes), (λ passes. (root, spells, passes)))
