use Rattle.std.proofs.Common.{◌≡◌, true, List, All, take}
use Rattle.cite_index.specs.declared.triple.Triple.{Triple}
use Rattle.cite_index.specs.Kept.{AreStandings, knows}
use Rattle.cite_index.proofs.standings.Standings.know_all.Given as goal

abbrev pub invariant-loop-t : goal.invariant-loop-t
invariant-loop-t l = ((before : List Triple) → AreStandings before l.initial.self → AreStandings before l.self) × All (λ t. knows l.self t.cited ≡ true) (take l.t-index l.cites)
