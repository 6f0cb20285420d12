use Rattle.std.proofs.Common.{◌≡◌, take}
use Rattle.cite_index.specs.Threads.{firsts}
use Rattle.cite_index.proofs.thread.number_all.Given as goal

abbrev pub invariant-loop-identifier : goal.invariant-loop-identifier
invariant-loop-identifier l = l.names ≡ firsts (take l.identifier-index l.identifiers)
