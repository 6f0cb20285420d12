-- The trial disks are those of a new rack, and the real one was put back.
use Rattle.std.specs.Prelude.{IsSome}
use Rattle.std.proofs.Common.{refl, subst, sym, ◌∙◌}
use Rattle.trials_commands.proofs.journals.rack_over.Goals as goal

pub returns : goal.returns
returns c joined = record {
  trials = λ k below. subst IsSome (sym (joined.put_back_real.ensures.trials k ∙ joined.lend_real.ensures.trials k ∙ (joined.in_ok-rack.ensures.trials k below).1)) refl;
  real = subst IsSome (sym joined.put_back_real.ensures.back) refl;
}
