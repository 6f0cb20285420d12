-- What a side gives back.
use Rattle.std.specs.Prelude.{◌≡◌}
use Rattle.vtp_server.specs.declared.side.Next.{Next}

-- this is the memory, and this the next move
pub record Gives {S A E : Type 0} (gave : S × Next A E) (memory : S) (next : Next A E) : Type 0 where
  pub memory_is : memory ≡ gave.0
  pub next_is : next ≡ gave.1
