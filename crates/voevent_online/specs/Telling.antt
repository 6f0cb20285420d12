-- What the sink got of a line, and how the command ends with it.
use Rattle.std.specs.Prelude.{◌≡◌, ◌⊎◌, ℕ, ◌<◌, List, length, take}
use Rattle.std.specs.Io.KnownBytes.{append_known}
use Rattle.voe_outside.specs.Causes.{counted}
use Rattle.voe_outside.specs.declared.stream.Sink.{Ghosts as SinkGhosts}
use Rattle.voevent_online.specs.declared.status.Status.{Status}
use Rattle.voevent_online.specs.declared.status.Status.TheVariants.{WriteFault, NoMemory}

-- the line stands behind what the sink held
pub record IsTold {K : Type 0} (sink : SinkGhosts K) (line : List ℕ) (old new : K) : Type 0 where
  pub written : sink.held new ≡ append_known (sink.held old) line
  pub faults : sink.fault_count new ≡ sink.fault_count old

-- a write failed and was counted; less than the line stands there, from its start
pub record IsCutShort {K : Type 0} (sink : SinkGhosts K) (line : List ℕ) (old new : K) : Type 0 where
  pub count : ℕ
  pub less : count < length line
  pub written : sink.held new ≡ append_known (sink.held old) (take count line)
  pub faults : sink.fault_count new ≡ counted (sink.fault_count old)

-- nothing was written, and no write failed
pub record IsUnwritten {K : Type 0} (sink : SinkGhosts K) (old new : K) : Type 0 where
  pub written : sink.held new ≡ sink.held old
  pub faults : sink.fault_count new ≡ sink.fault_count old

-- The line is written and the status is the one that was wanted; or a write failed, which is 5; or there was no memory.
abbrev pub Tells : {K : Type 0} → SinkGhosts K → Status → List ℕ → Status → K → K → Type 0
Tells sink wanted line status old new =
    ((status ≡ wanted) × IsTold sink line old new)
    ⊎ (((status ≡ WriteFault) × IsCutShort sink line old new)
    ⊎ ((status ≡ NoMemory) × IsUnwritten sink old new))
