use denote.Shadow.{shadow}
use denote.Text.{Utf8}
use Rattle.std.proofs.Common.{◌≡◌, ◌++◌, length, false}
use Rattle.voe_tree.specs.Names.{value_text}
use Rattle.voe_tree.proofs.values.read_value.Given as goal

abbrev pub decreases-loop-text : goal.decreases-loop-text
decreases-loop-text l = length l.rest

abbrev pub invariant-loop-text : goal.invariant-loop-text
invariant-loop-text l = record {
  utf8 : shadow (Utf8 l.rest);
  reads : l.text ++ value_text false l.rest ≡ value_text false l.value;
}
