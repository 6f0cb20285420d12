-- Why a network was not run.
use Rattle.std.specs.Prelude.{◌≡◌, ℕ, List}
use Rattle.net_machine.specs.Counts.{RoseAt}
use Rattle.voe_disk.specs.declared.disk.Disk.{Ghosts}
use Rattle.voe_net.specs.Starting.{HasFailed}
use Rattle.voe_net.specs.declared.fault.NetFault.{NetFault}
use Rattle.voe_net.specs.declared.fault.NetFault.TheVariants as net
use Rattle.voevent_cli.specs.declared.prepare.Hindrance.{Hindrance}
use Rattle.voevent_cli.specs.declared.prepare.Hindrance.TheVariants.{ReadFault, DiskFault, NoMemory}

-- one of the disks has failed, or there was no memory
abbrev pub IsHinderedRun : {T : Type 0} → Ghosts T → List T → List T → Hindrance → Type 0
IsHinderedRun disk old new ReadFault = ⊥
IsHinderedRun disk old new DiskFault = (n : ℕ) × HasFailed disk old new n
IsHinderedRun disk old new NoMemory = Unit {0}

-- the count of faults of one of the nodes has risen, or there was no memory
abbrev pub IsHinderedStep : List ℕ → List ℕ → Hindrance → Type 0
IsHinderedStep before now ReadFault = ⊥
IsHinderedStep before now DiskFault = (n : ℕ) × RoseAt n before now
IsHinderedStep before now NoMemory = Unit {0}

-- what the network's fault is for the program
abbrev pub Hinders : NetFault → Hindrance → Type 0
Hinders fault ReadFault = ⊥
Hinders fault DiskFault = (n : ℕ) × (fault ≡ net.Disk n)
Hinders fault NoMemory = Unit {0}
