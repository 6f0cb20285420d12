use Rattle.std.proofs.Common.{◌≡◌, take}
use Rattle.cite_index.specs.Threads.{AreEdges, IsFront}
use Rattle.cite_index.proofs.thread.numbered.Given as goal

abbrev pub invariant-loop-t : goal.invariant-loop-t
invariant-loop-t l = IsFront l.initial.names l.names × AreEdges l.names (take l.t-index l.cites) l.edges.items
