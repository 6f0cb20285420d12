use denote.Shadow.{shadow}
use denote.Text.{Utf8}
use Rattle.std.proofs.Common.{◌≡◌, ◌++◌, length}
use Rattle.voe_tree.specs.Build.{with_line_feeds}
use Rattle.voe_tree.proofs.values.append_run.Given as goal

abbrev pub decreases-loop-plain : goal.decreases-loop-plain
decreases-loop-plain l = length l.rest

abbrev pub invariant-loop-plain : goal.invariant-loop-plain
invariant-loop-plain l = record {
  utf8 : shadow (Utf8 l.rest);
  reads : l.text ++ with_line_feeds l.rest ≡ l.initial.text ++ with_line_feeds l.run;
}
