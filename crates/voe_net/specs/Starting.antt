-- How a network over disks begins.
use Rattle.std.specs.Prelude.{◌≡◌, ◌<◌, ◌≤◌, ℕ, List, None, Some, IfSome, IsSome, length, slice_get}
use Rattle.voe_disk.specs.Disk.{Rose}
use Rattle.voe_disk.specs.declared.disk.Disk.{Ghosts}
use Rattle.gate_journal.specs.Reading.{IsUnmade}
use Rattle.node_notes.specs.declared.config.Config.{Config}
use Rattle.voe_scenario.specs.declared.graph.Graph.{Graph}
use Rattle.voe_scenario.specs.Shapes.{config_of}
use Rattle.voe_net.specs.Each.{Each}
use Rattle.voe_net.specs.declared.fault.NetFault.{NetFault}
use Rattle.voe_net.specs.declared.fault.NetFault.TheVariants.{AlreadyMade, Disk, NoMemory}

-- no journal stands on the disk, as far as it tells what it reads
abbrev pub IsBlank : {D : Type 0} → Ghosts D → D → Type 0
IsBlank disk own = IfSome (disk.reads own) IsUnmade

-- no journal stands on any of these disks
abbrev pub AllBlank : {D : Type 0} → Ghosts D → List D → Type 0
AllBlank disk disks = (n : ℕ) (own : _) → slice_get disks n ≡ Some own → IsBlank disk own

-- none of these disks is armed
abbrev pub NoneArmed : {D : Type 0} → Ghosts D → List D → Type 0
NoneArmed disk disks = (n : ℕ) (own : _) → slice_get disks n ≡ Some own → (disk.arming own).calls ≡ None

-- each of these disks tells what a crash leaves
abbrev pub AllTellImages : {D : Type 0} → Ghosts D → List D → Type 0
AllTellImages disk disks = (n : ℕ) (own : _) → slice_get disks n ≡ Some own → (fill : ℕ) → IsSome (disk.crash_image own fill)

-- each disk reads as before
abbrev pub AllReadSame : {D : Type 0} → Ghosts D → List D → List D → Type 0
AllReadSame disk old new = (n : ℕ) (was now : _) → slice_get old n ≡ Some was → slice_get new n ≡ Some now → disk.reads now ≡ disk.reads was

-- this is the first of the disks on which a journal, or something else, stands
pub record IsFirstMade {D : Type 0} (disk : Ghosts D) (disks : List D) (n : ℕ) : Type 0 where
  pub own : D
  pub there : slice_get disks n ≡ Some own
  pub made : IsBlank disk own → ⊥
  pub before : (k : ℕ) (other : D) → k < n → slice_get disks k ≡ Some other → IsBlank disk other

-- the disk of this number has failed
pub record HasFailed {D : Type 0} (disk : Ghosts D) (old new : List D) (n : ℕ) : Type 0 where
  pub was : D
  pub now : D
  pub there : slice_get old n ≡ Some was
  pub back : slice_get new n ≡ Some now
  pub rose : Rose (disk.faults was) (disk.faults now)

-- Why the network was not made: the first disk that is made is named, and each disk reads as before; or the disk that is
-- named has failed; or there was no memory.
abbrev pub Explains : {D : Type 0} → Ghosts D → List D → List D → NetFault → Type 0
Explains disk old new (AlreadyMade n) = IsFirstMade disk old n × AllReadSame disk old new
Explains disk old new (Disk n) = HasFailed disk old new n
Explains disk old new NoMemory = Unit {0}

-- The disks came back in their order, none of them armed, and no count of faults has fallen.
pub record AreBack {D : Type 0} (disk : Ghosts D) (old new : List D) (fault : NetFault) : Type 0 where
  pub counts : Each (λ n was now. disk.faults was ≤ disk.faults now) old new
  pub unarmed : NoneArmed disk new
  pub cause : Explains disk old new fault

-- each node has the configuration that the scenario's graph gives it
pub record AreConfigsOf (graph : Graph) (configs : List Config) : Type 0 where
  pub same : length configs ≡ length graph.nodes
  pub each : (n : ℕ) (config : Config) → slice_get configs n ≡ Some config → config ≡ config_of graph n
