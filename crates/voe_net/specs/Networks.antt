-- The network as contracts see it.
use Rattle.std.specs.Prelude.{◌≡◌, ◌↔◌, ◌≤◌, ℕ, Bool, true, false, List, [], Option, Some, length, slice_get}
use Rattle.voe_disk.specs.declared.disk.Disk.{Ghosts}
use Rattle.voe_values.specs.declared.kind.NodeKind.{NodeKind}
use Rattle.net_model.specs.declared.scenario.Graph.{Graph}
use Rattle.net_model.specs.declared.state.State.{State}
use Rattle.net_model.specs.Nodes.{is_up, notes_at}
use Rattle.gate_journal.specs.Journal.{EachFile}
use Rattle.node_notes.specs.Forms.{is_config}
use Rattle.node_notes.specs.declared.config.Config.{Config}
use Rattle.node_book.specs.Ends.{EndView}
use Rattle.node_book.specs.Keeps.{Keeps}
use Rattle.net_machine.specs.AtEnds.{AllTell, counts_of}
use Rattle.net_machine.specs.Machine.{MachineView}
use Rattle.net_machine.specs.Parts.{IsOwn, Slot, configs_of, moment_of, slots_of, state_of}
use Rattle.net_machine.specs.declared.seat.Seat.{Seat}
use Rattle.voe_net.specs.Each.{Each}
use Rattle.voe_net.specs.Nodes.{TellsCrash, disk_in, faults_of, show, steps_of}

-- The graph, the packets that its authors may write, the configurations of its nodes and the state; of each node how many
-- steps its end has made and how often its disk has failed; the nodes themselves; and whether an event was refused.
pub record NetworkView (D : Type 0) : Type 0 where
  pub graph : Graph
  pub packets : List (List ℕ)
  pub configs : List Config
  pub state : State
  pub steps : List ℕ
  pub faults : List ℕ
  pub seats : List (Seat (Option (EndView D)))
  pub failed : Bool

-- what a machine over such nodes is as a network
abbrev pub network_of : {D : Type 0} → Ghosts D → MachineView (Option (EndView D)) → NetworkView D
network_of disk machine = record {
  graph = machine.graph;
  packets = machine.packets;
  configs = configs_of (slots_of show machine.parts.seats);
  state = state_of (moment_of show machine.parts);
  steps = counts_of steps_of machine.parts.seats;
  faults = counts_of (faults_of disk) machine.parts.seats;
  seats = machine.parts.seats;
  failed = machine.failed;
}

-- each node's disk tells what a crash leaves
abbrev pub TellsCrashes : {D : Type 0} → Ghosts D → NetworkView D → Type 0
TellsCrashes disk network = AllTell (TellsCrash disk) network.seats

-- the nodes are those of the graph, and each has a configuration that keeps to its form
pub record AreOwn (graph : Graph) (slots : List Slot) : Type 0 where
  pub nodes : length slots ≡ length graph.nodes
  pub own : (n : ℕ) (slot : Slot) → slice_get slots n ≡ Some slot → IsOwn graph n slot.view.config
  pub forms : (n : ℕ) (slot : Slot) → slice_get slots n ≡ Some slot → is_config slot.view.config ≡ true

-- There is room for the disks to be given back, and unless an event was refused the nodes are the graph's.
pub record IsNetwork {D : Type 0} (machine : MachineView (Option (EndView D))) (room : List D) (capacity : ℕ) : Type 0 where
  pub empty : room ≡ []
  pub enough : length machine.parts.seats ≤ capacity
  pub own : machine.failed ≡ false → AreOwn machine.graph (slots_of show machine.parts.seats)

-- the node is of this kind, and up
abbrev pub IsUpAs : {D : Type 0} → NodeKind → NetworkView D → ℕ → Type 0
IsUpAs kind network n = (slice_get network.graph.nodes n ≡ Some kind) × (is_up (slice_get network.state.nodes n) ≡ true)

-- the end is the node's: it is up, with the node's configuration, records, steps and disk
pub record IsEndOf {D : Type 0} (disk : Ghosts D) (network : NetworkView D) (n : ℕ) (end : EndView D) : Type 0 where
  pub config : slice_get network.configs n ≡ Some end.config
  pub notes : notes_at network.state n ≡ end.notes
  pub steps : slice_get network.steps n ≡ Some end.steps
  pub faults : slice_get network.faults n ≡ Some (disk.faults end.disk)
  pub seat : slice_get network.seats n ≡ Some (record { up = true; end = Some end })

-- what each disk reads, and whatever a crash leaves of it, keeps its node's configuration and records
abbrev pub AllKeep : {D : Type 0} → Ghosts D → List Config → State → List D → Type 0
AllKeep disk configs state disks = (n : ℕ) (own : _) (config : Config) → slice_get disks n ≡ Some own → slice_get configs n ≡ Some config
    → EachFile disk own (λ file. Keeps file config (notes_at state n))

-- these are the nodes' own disks, each at its node's place
abbrev pub AreTheirDisks : {D : Type 0} → List (Seat (Option (EndView D))) → List D → Type 0
AreTheirDisks seats disks = Each (λ n seat own. disk_in seat.end ≡ Some own) seats disks
