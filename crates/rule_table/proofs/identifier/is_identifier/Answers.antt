use Rattle.std.proofs.Common.{◌≡◌, Bool, true, false, refl, ap, ◌∙◌}
use Rattle.std.specs.Prelude.{not, is_none, is_some}
use Rattle.rule_table.proofs.identifier.is_identifier.Goals as goal

turned : (r b : Bool) → b ≡ not r → r ≡ not b
turned true b h = rw h refl
turned false b h = rw h refl

pub returns : goal.returns
returns c = turned c.is_none.result (is_some c.ivorn_fault.result) c.is_none.ensures ∙ ap is_none c.ivorn_fault.ensures
