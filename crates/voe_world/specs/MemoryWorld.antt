-- What contracts see of a world in memory, and which listeners it hands out.
use Rattle.std.specs.Prelude.{◌≡◌, ℕ, Option, Some, None, true}
use Rattle.voe_disk.specs.declared.memory.MemoryDisk.{MemoryDisk}
use Rattle.voe_outside.specs.MemoryClock.{last_of}
use Rattle.voe_outside.specs.MemoryEnds.{listener_waiting, listener_fails, listener_calls, listener_returns}
use Rattle.voe_outside.specs.declared.memory.ends.MemoryDialer.{MemoryDialer}
use Rattle.voe_outside.specs.declared.memory.ends.MemoryListener.{MemoryListener}
use Rattle.voe_outside.specs.declared.memory.sink.MemorySink.{MemorySink}
use Rattle.voe_outside.specs.declared.memory.source.MemorySource.{MemorySource}
use Rattle.voe_world.specs.Parts.{Parts}
use Rattle.voe_world.specs.declared.memory.MemoryWorld.{MemoryWorld}

-- both, where each is there
abbrev pub both_of : {L : Type 0} → Option L → Option L → Option (L × L)
both_of (Some one) (Some other) = Some (one, other)
both_of (Some one) None = None
both_of None other = None

-- its parts are its fields; its listeners are told where both stand there
abbrev pub parts_of : {Sp Ga : Type 0} → MemoryWorld Sp Ga → Parts MemorySource MemorySink MemoryDisk MemoryDialer MemoryListener Sp
parts_of w = record {
  source = w.source;
  sink = w.sink;
  disk = w.disk;
  moment = last_of w.clock;
  dialer = w.dialer;
  tells = true;
  listeners = both_of w.authors w.subscribers;
  accepted = w.accepted;
  spawner = w.spawner;
  faults = w.failed;
}

-- at the one the links of the other wait, in their order, and its calls fail as those of the other would; none was taken
-- back yet
pub record WaitsAs (old new : MemoryListener) : Type 0 where
  pub waiting : listener_waiting new ≡ listener_waiting old
  pub fails : listener_fails new ≡ listener_fails old
  pub calls : listener_calls new ≡ listener_calls old
  pub none_back : listener_returns new ≡ record { last = None; number = 0 }
