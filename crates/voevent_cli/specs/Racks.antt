-- A rack of disks at one moment.
use Rattle.std.specs.Prelude.{◌≡◌, ℕ, ◌<◌, ◌≤◌, List, Option, IsSome, Some, length, slice_get}
use Rattle.voe_disk.specs.Disk.{Rose}
use Rattle.voe_disk.specs.declared.disk.Disk.{Ghosts}

-- the disks that stand in the rack: those for trials by their numbers, and the real one
pub record Disks (T D : Type 0) : Type 0 where
  pub trial : ℕ → Option T
  pub real : Option D

abbrev pub disks : {T D : Type 0} → (ℕ → Option T) → Option D → Disks T D
disks trial real = record { trial = trial; real = real }

-- none is lent out
pub record IsWhole {T D : Type 0} (rack : Disks T D) : Type 0 where
  pub trials : (k : ℕ) → k < 64 → IsSome (rack.trial k)
  pub real : IsSome rack.real

-- each disk is as it was
pub record AreSame {T D : Type 0} (before now : Disks T D) : Type 0 where
  pub trials : (k : ℕ) → now.trial k ≡ before.trial k
  pub real : now.real ≡ before.real

-- the real disk's count of faults has risen
abbrev pub RealRose : {T D : Type 0} → Ghosts D → Disks T D → Disks T D → Type 0
RealRose disk before now =
    (old : _) × (new : _) × (before.real ≡ Some old) × (now.real ≡ Some new) × Rose (disk.faults old) (disk.faults new)

-- the count of faults of a trial disk has risen
abbrev pub TrialRose : {T D : Type 0} → Ghosts T → Disks T D → Disks T D → Type 0
TrialRose disk before now =
    (k : ℕ) × (old : _) × (new : _) × (before.trial k ≡ Some old) × (now.trial k ≡ Some new) × Rose (disk.faults old) (disk.faults new)

-- the real disk is as this says, and the others are as they were
pub record OnReal {T D : Type 0} (Changes : D → D → Type 0) (before now : Disks T D) : Type 0 where
  pub old : D
  pub new : D
  pub was : before.real ≡ Some old
  pub is : now.real ≡ Some new
  pub changes : Changes old new
  pub trials : (k : ℕ) → now.trial k ≡ before.trial k

-- these are the first trial disks, in their order
abbrev pub AreFirst : {T D : Type 0} → Disks T D → List T → Type 0
AreFirst rack first = (k : ℕ) → k < length first → rack.trial k ≡ slice_get first k

-- the first trial disks, so many, are as this says, and the others are as they were
pub record OnTrials {T D : Type 0} (count : ℕ) (Changes : List T → List T → Type 0) (before now : Disks T D) : Type 0 where
  pub old : List T
  pub new : List T
  pub old_count : length old ≡ count
  pub new_count : length new ≡ count
  pub were : AreFirst before old
  pub are : AreFirst now new
  pub changes : Changes old new
  pub others : (k : ℕ) → count ≤ k → now.trial k ≡ before.trial k
  pub real : now.real ≡ before.real

-- the real disk tells what it reads
abbrev pub TellsReal : {T D : Type 0} → Ghosts D → Disks T D → Type 0
TellsReal disk rack = (real : _) → rack.real ≡ Some real → (file : List ℕ) × (disk.reads real ≡ Some file)

-- each trial disk tells what a crash leaves of it
abbrev pub TellsTrials : {T D : Type 0} → Ghosts T → Disks T D → Type 0
TellsTrials disk rack = (k : ℕ) (trial : _) → rack.trial k ≡ Some trial → (fill : ℕ) → IsSome (disk.crash_image trial fill)
