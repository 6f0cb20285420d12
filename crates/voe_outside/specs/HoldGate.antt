-- What a gate that holds has.
use Rattle.std.specs.Prelude.{ℕ}
use Rattle.voe_outside.specs.declared.memory.gate.HoldGate.{HoldGate}

-- how often a held connection looks at most
abbrev pub looks_of : HoldGate → ℕ
looks_of g = g.looks
