-- Why a network could not be stepped.
use Rattle.std.specs.Prelude.{◌≡◌, ℕ, List, Result, IfErr}
use Rattle.net_machine.specs.Counts.{NoneFell, RoseAt}
use Rattle.net_machine.specs.declared.fault.StepFault.{StepFault}
use Rattle.net_machine.specs.declared.fault.StepFault.TheVariants.{Disk as DiskOf, NoMemory as NoMemoryOf}
use Rattle.voe_net.specs.declared.fault.NetFault.{NetFault}
use Rattle.voe_net.specs.declared.fault.NetFault.TheVariants.{AlreadyMade, Disk, NoMemory}

-- the same fault as the network names it
abbrev pub net_fault_of : StepFault → NetFault
net_fault_of (DiskOf n) = Disk n
net_fault_of NoMemoryOf = NoMemory

-- the node's count of faults rose, or there was no memory
abbrev pub IsStepCause : List ℕ → List ℕ → NetFault → Type 0
IsStepCause before now (AlreadyMade n) = ⊥
IsStepCause before now (Disk n) = RoseAt n before now
IsStepCause before now NoMemory = Unit {0}

-- no node's count of faults falls, and why an event was refused
pub record IsCaused {T : Type 0} (before now : List ℕ) (result : Result T NetFault) : Type 0 where
  pub grown : NoneFell before now
  pub fault : IfErr result (IsStepCause before now)
