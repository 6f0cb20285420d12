use Rattle.std.proofs.Common.{◌≡◌, ◌++◌, drop, map}
use Rattle.std.specs.List.{concat}
use Rattle.voe_packet.specs.Shown.{citation_line}
use Rattle.voe_packet.proofs.show.add_citations.Given as goal

abbrev pub invariant-loop-citation : goal.invariant-loop-citation
invariant-loop-citation l = l.shown ++ concat (map citation_line (drop l.citation-index l.citation-items)) ≡ l.initial.shown ++ concat (map citation_line l.citations)
