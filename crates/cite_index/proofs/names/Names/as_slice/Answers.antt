use Rattle.std.proofs.Common.{ℕ, List, subst}
use Rattle.cite_index.specs.Names.{AreDistinct}
use Rattle.cite_index.proofs.Naming.{numbers_distinct}
use Rattle.cite_index.proofs.names.Names.as_slice.Goals as goal

pub returns-clause-distinct : goal.returns-clause-distinct
returns-clause-distinct c = subst (λ (l : List (List ℕ)). AreDistinct l) c.self.view_is (numbers_distinct c.self.inside.numbers.entries c.self.inside.names.items c.self.invariant)
