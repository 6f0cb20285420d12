use Rattle.std.proofs.Common.{◌≡◌, take}
use Rattle.cite_index.specs.Threads.{picked}
use Rattle.cite_index.proofs.thread.picked.Given as goal

abbrev pub invariant-loop-at : goal.invariant-loop-at
invariant-loop-at l = l.found.items ≡ picked (take l.at l.names) (take l.at l.marks)
