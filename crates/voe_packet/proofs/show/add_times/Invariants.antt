use Rattle.std.proofs.Common.{◌≡◌, ◌++◌, drop, map}
use Rattle.std.specs.Prelude.{codes}
use Rattle.std.specs.List.{concat}
use Rattle.voe_packet.specs.Shown.{line}
use Rattle.voe_packet.proofs.show.add_times.Given as goal

abbrev pub invariant-loop-time : goal.invariant-loop-time
invariant-loop-time l = l.shown ++ concat (map (line (codes "time")) (drop l.time-index l.time-items)) ≡ l.initial.shown ++ concat (map (line (codes "time")) l.times)
