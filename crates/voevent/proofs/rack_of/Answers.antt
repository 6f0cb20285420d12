-- The trial disks of a new rack stand in it.
use Rattle.std.specs.Prelude.{IsSome}
use Rattle.std.proofs.Common.{refl, subst, sym}
use Rattle.voevent.proofs.rack_of.Goals as goal

pub returns : goal.returns
returns c = record {
  trials = λ k below. subst IsSome (sym ((c.in_ok-rack.ensures.trials k below).1)) refl;
  real = c.in_ok-rack.ensures.real;
}
