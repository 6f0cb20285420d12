-- What a reader of std has as a source.
use Rattle.std.specs.Prelude.{ℕ}
use Rattle.voe_outside_real.specs.declared.reading.Reading.{Reading}

-- how often a read has failed
abbrev pub reading_faults : {R : Type 0} → Reading R → ℕ
reading_faults s = s.faults
