use Rattle.std.proofs.Common.{◌≡◌, take}
use Rattle.std.specs.List.{list_all}
use Rattle.xml_lexer.specs.Scan.{is_clear}
use Rattle.xml_lexer.proofs.front.are_clear.Given as goal

abbrev pub invariant-loop-b : goal.invariant-loop-b
invariant-loop-b l = l.all ≡ list_all is_clear (take l.b-index l.bytes)
