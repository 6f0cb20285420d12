-- What a writer of std has as a sink.
use Rattle.std.specs.Prelude.{ℕ}
use Rattle.voe_outside_real.specs.declared.writing.Writing.{Writing}

-- how often a write has failed
abbrev pub writing_faults : {W : Type 0} → Writing W → ℕ
writing_faults s = s.faults
