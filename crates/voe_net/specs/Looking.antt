-- What is seen where disks are looked at.
use Rattle.std.specs.Prelude.{◌≡◌, ◌≤◌, ℕ, List}
use Rattle.voe_disk.specs.declared.disk.Disk.{Ghosts}
use Rattle.voe_net.specs.Each.{Each}
use Rattle.voe_net.specs.Starting.{HasFailed, IsFirstMade}
use Rattle.voe_net.specs.declared.fault.NetFault.{NetFault}
use Rattle.voe_net.specs.declared.fault.NetFault.TheVariants.{AlreadyMade, Disk, NoMemory}

-- the disk is as it was, but for how often it has failed
pub record IsLooked {D : Type 0} (disk : Ghosts D) (old new : D) : Type 0 where
  pub reads : disk.reads new ≡ disk.reads old
  pub arming : disk.arming new ≡ disk.arming old
  pub images : (fill : ℕ) → disk.crash_image new fill ≡ disk.crash_image old fill
  pub later : disk.faults old ≤ disk.faults new

-- so is each of these disks
abbrev pub AreLooked : {D : Type 0} → Ghosts D → List D → List D → Type 0
AreLooked disk old new = Each (λ n was now. IsLooked disk was now) old new

-- none of them has failed
abbrev pub NoneFailed : {D : Type 0} → Ghosts D → List D → List D → Type 0
NoneFailed disk old new = Each (λ n was now. disk.faults now ≡ disk.faults was) old new

-- why not all of them are blank, as far as it was seen
abbrev pub SeesFault : {D : Type 0} → Ghosts D → List D → List D → NetFault → Type 0
SeesFault disk old new (AlreadyMade n) = IsFirstMade disk old n
SeesFault disk old new (Disk n) = HasFailed disk old new n
SeesFault disk old new NoMemory = ⊥
