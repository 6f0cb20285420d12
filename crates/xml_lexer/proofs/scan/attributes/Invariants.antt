use Rattle.std.proofs.Common.{◌≡◌, ◌-◌}
use denote.Shadow.{shadow}
use denote.Text.{Utf8}
use Rattle.xml_lexer.specs.View.{all_spelled}
use Rattle.xml_lexer.specs.Scan.{attributes_at, with_front}
use Rattle.xml_lexer.specs.Spelling.{max_attributes}
use Rattle.xml_lexer.proofs.scan.attributes.Given as goal

abbrev pub invariant-loop : goal.invariant-loop
invariant-loop l =
    (with_front (all_spelled l.attributes.items) (attributes_at (64 - l.counter) l.rest) ≡ attributes_at max_attributes l.text) × shadow (Utf8 l.rest)
