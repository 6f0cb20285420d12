-- How nodes are made on blank disks.
use Rattle.std.specs.Prelude.{◌≡◌, ◌<◌, ◌≤◌, ◌++◌, ◌∷◌, ℕ, false, true, List, Option, None, length, reverse}
use Rattle.voe_disk.specs.Disk.{Rose}
use Rattle.voe_disk.specs.declared.disk.Disk.{Ghosts}
use Rattle.node_notes.specs.Forms.{is_config}
use Rattle.node_book.specs.Ends.{EndView}
use Rattle.path_filter.specs.Links.{AreReadable}
use Rattle.net_model.specs.Runs.{beginning}
use Rattle.net_machine.specs.Machine.{MachineView}
use Rattle.net_machine.specs.Parts.{moment_of, state_of}
use Rattle.net_machine.specs.declared.seat.Seat.{Seat}
use Rattle.voe_scenario.specs.declared.graph.Graph.{Graph}
use Rattle.voe_scenario.specs.Shapes.{config_of, shape}
use Rattle.voe_net.specs.Each.{Each}
use Rattle.voe_net.specs.Nodes.{IsBegun, show}
use Rattle.voe_net.specs.declared.fault.NetFault.{NetFault}
use Rattle.voe_net.specs.declared.fault.NetFault.TheVariants.{AlreadyMade, Disk, NoMemory}

-- each node of the graph has a configuration that keeps to its form, and filters that read
pub record IsConfigurable (graph : Graph) : Type 0 where
  pub forms : (node : ℕ) → node < length graph.nodes → is_config (config_of graph node) ≡ true
  pub filters : (node : ℕ) → AreReadable (config_of graph node).links

-- why the node of this number was not made
abbrev pub IsCauseAt : {D : Type 0} → Ghosts D → ℕ → D → D → NetFault → Type 0
IsCauseAt disk node old new (AlreadyMade n) = ⊥
IsCauseAt disk node old new (Disk n) = (n ≡ node) × Rose (disk.faults old) (disk.faults new)
IsCauseAt disk node old new NoMemory = Unit {0}

-- The node of this number was not made; its disk came back.
pub record IsRefused {D : Type 0} (disk : Ghosts D) (node : ℕ) (old new : D) (fault : NetFault) : Type 0 where
  pub later : disk.faults old ≤ disk.faults new
  pub unarmed : (disk.arming new).calls ≡ None
  pub cause : IsCauseAt disk node old new fault

-- a node was made on each of these disks, and is up
abbrev pub AreBegun : {D : Type 0} → Ghosts D → Graph → List D → List (Seat (Option (EndView D))) → Type 0
AreBegun disk graph disks seats = Each (λ n own seat. (seat.up ≡ true) × IsBegun disk (config_of graph n) own seat.end) disks seats

-- Nodes were made on the first of these disks, and on the next one none. The others lie untouched, in reverse order.
pub record HasStopped {D : Type 0} (disk : Ghosts D) (graph : Graph) (disks left : List D) (seats : List (Seat (Option (EndView D)))) (fault : NetFault) : Type 0 where
  pub first : List D
  pub was : D
  pub now : D
  pub rest : List D
  pub all : disks ≡ first ++ was ∷ rest
  pub left_is : reverse left ≡ now ∷ rest
  pub begun : AreBegun disk graph first seats
  pub refused : IsRefused disk (length first) was now fault

-- The network stands at its beginning, a node on each of these disks.
pub record HasStarted {D : Type 0} (disk : Ghosts D) (graph : Graph) (packets : List (List ℕ)) (disks : List D) (machine : MachineView (Option (EndView D))) : Type 0 where
  pub graph_is : machine.graph ≡ shape graph
  pub packets_are : machine.packets ≡ packets
  pub works : machine.failed ≡ false
  pub state : state_of (moment_of show machine.parts) ≡ beginning (shape graph)
  pub begun : AreBegun disk graph disks machine.parts.seats
