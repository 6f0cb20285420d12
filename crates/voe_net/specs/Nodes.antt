-- A node as the network sees it.
use Rattle.std.specs.Prelude.{◌≡◌, ◌≤◌, ℕ, Bool, true, false, cond, List, [], Option, Some, None, IsSome, map, slice_get}
use Rattle.voe_disk.specs.declared.disk.Disk.{Ghosts}
use Rattle.voe_disk.specs.declared.fail.DiskFail.{DiskFail}
use Rattle.voe_disk.specs.Disk.{Rose}
use Rattle.voe_values.specs.declared.kind.NodeKind.{NodeKind}
use Rattle.voe_values.specs.declared.kind.NodeKind.TheVariants.{Author, Broker, Subscriber}
use Rattle.node_notes.specs.declared.config.Config.{Config}
use Rattle.node_notes.specs.declared.config.LinkConfig.{LinkConfig}
use Rattle.node_book.specs.Ends.{EndView}
use Rattle.net_machine.specs.Ends as net
use Rattle.net_machine.specs.declared.fault.EndFault.{EndFault}
use Rattle.net_machine.specs.declared.fault.EndFault.TheVariants.{Disk}

-- what an end shows whose disk has failed: a configuration without a name, which no node has
abbrev pub nothing : net.EndView
nothing = record { config = record { kind = Subscriber; name = []; links = [] }; notes = []; sessions = [] }

abbrev pub show_up : {D : Type 0} → EndView D → Option DiskFail → net.EndView
show_up end None = record { config = end.config; notes = end.notes; sessions = end.sessions }
show_up end (Some fail) = nothing

-- the end as the network sees it
abbrev pub show : {D : Type 0} → Option (EndView D) → net.EndView
show None = nothing
show (Some end) = show_up end end.down

abbrev pub steps_of : {D : Type 0} → Option (EndView D) → ℕ
steps_of None = 0
steps_of (Some end) = end.steps

-- how often its disk has failed
abbrev pub faults_of : {D : Type 0} → Ghosts D → Option (EndView D) → ℕ
faults_of disk None = 0
faults_of disk (Some end) = disk.faults end.disk

-- the disk that it has
abbrev pub disk_in : {D : Type 0} → Option (EndView D) → Option D
disk_in None = None
disk_in (Some end) = Some end.disk

-- its disk tells what a crash leaves
abbrev pub TellsCrash : {D : Type 0} → Ghosts D → Option (EndView D) → Type 0
TellsCrash disk None = ⊥
TellsCrash disk (Some end) = (fill : ℕ) → IsSome (disk.crash_image end.disk fill)

-- the names of the links or lines
abbrev pub names_of : List LinkConfig → List (List ℕ)
names_of links = map (λ link. link.name) links

-- no two links or lines have one name
abbrev pub AreDistinct : List (List ℕ) → Type 0
AreDistinct names = (m n : ℕ) (name : List ℕ) → slice_get names m ≡ Some name → slice_get names n ≡ Some name → m ≡ n

-- the last sessions at the beginning: each link of a broker is in its first
abbrev pub first_sessions : NodeKind → List LinkConfig → List ℕ
first_sessions Author links = []
first_sessions Broker links = map (λ link. 1) links
first_sessions Subscriber links = []

-- a node at its beginning
abbrev pub first_view : Config → net.EndView
first_view config = record { config = config; notes = []; sessions = first_sessions config.kind config.links }

-- a node was made on the disk
pub record IsBegun {D : Type 0} (disk : Ghosts D) (config : Config) (old : D) (end : Option (EndView D)) : Type 0 where
  pub shown : show end ≡ first_view config
  pub same_count : faults_of disk end ≡ disk.faults old
  pub told : ((fill : ℕ) → IsSome (disk.crash_image old fill)) → TellsCrash disk end

-- Why it was not made: the disk's count of faults rose, or there was no memory. The disk is not armed.
pub record IsNotBegun {D : Type 0} (disk : Ghosts D) (old new : D) (fault : EndFault) : Type 0 where
  pub later : disk.faults old ≤ disk.faults new
  pub rose : fault ≡ Disk → Rose (disk.faults old) (disk.faults new)
  pub unarmed : (disk.arming new).calls ≡ None

abbrev pub is_same : NodeKind → NodeKind → Bool
is_same Author Author = true
is_same Broker Broker = true
is_same Subscriber Subscriber = true
is_same _ _ = false

-- the end, where it is of this kind and its disk has not failed
abbrev pub if_kind_up : {D : Type 0} → NodeKind → EndView D → Option DiskFail → Option (EndView D)
if_kind_up kind end (Some fail) = None
if_kind_up kind end None = cond (is_same kind end.config.kind) (Some end) None

abbrev pub if_kind : {D : Type 0} → NodeKind → Option (EndView D) → Option (EndView D)
if_kind kind None = None
if_kind kind (Some end) = if_kind_up kind end end.down
