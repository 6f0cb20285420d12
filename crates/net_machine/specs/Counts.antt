-- Counts of 64 bits.
use Rattle.std.specs.Prelude.{◌≡◌, ℕ, ◌+◌, ◌-◌, ◌^◌, ◌≤◌, min, List, [], ◌∷◌, length, Result, IfErr, Some, slice_get}
use Rattle.net_machine.specs.declared.fault.EndFault.{EndFault}
use Rattle.net_machine.specs.declared.fault.EndFault.TheVariants.{Disk}
use Rattle.net_machine.specs.declared.fault.StepFault.{StepFault}
use Rattle.net_machine.specs.declared.fault.StepFault.TheVariants.{Disk as DiskOf}

-- a count has risen, or stands at its end
abbrev pub Rose : ℕ → ℕ → Type 0
Rose before now = min (before + 1) (2 ^ 64 - 1) ≤ now

-- a count of failures doesn't fall, and a failure of the disk is told only where it rose
pub record HasCause {T : Type 0} (before now : ℕ) (result : Result T EndFault) : Type 0 where
  pub later : before ≤ now
  pub fault : IfErr result (λ fault. fault ≡ Disk → Rose before now)

-- the count of this number stands in both, and has risen
abbrev pub RoseAt : ℕ → List ℕ → List ℕ → Type 0
RoseAt n before now = (old : ℕ) × (new : ℕ) × (slice_get before n ≡ Some old) × (slice_get now n ≡ Some new) × Rose old new

-- none of these counts falls
pub record NoneFell (before now : List ℕ) : Type 0 where
  pub same : length now ≡ length before
  pub each : (n old new : ℕ) → slice_get before n ≡ Some old → slice_get now n ≡ Some new → old ≤ new

-- no node's count of failures falls, and a failure of a node's disk is told only where its count rose
pub record Caused {T : Type 0} (before now : List ℕ) (result : Result T StepFault) : Type 0 where
  pub grown : NoneFell before now
  pub fault : IfErr result (λ fault. (n : ℕ) → fault ≡ DiskOf n → RoseAt n before now)

-- how many records the nodes have
abbrev pub total : List ℕ → ℕ
total [] = 0
total (count ∷ counts) = count + total counts
