-- What `net` does with its input and the trial disks.
use Rattle.std.specs.Prelude.{◌≡◌, ◌⊎◌, ℕ, ◌<◌, List, length, Some, Ok, Err, slice_get}
use Rattle.gate_journal.specs.Journal.{EachFile}
use Rattle.net_machine.specs.Report.{report_of}
use Rattle.net_model.specs.Nodes.{notes_at}
use Rattle.net_model.specs.Rules.{Rules, rules_at}
use Rattle.net_model.specs.Runs.{after}
use Rattle.net_model.specs.declared.state.State.{State}
use Rattle.node_book.specs.Keeps.{Keeps}
use Rattle.voe_disk.specs.declared.disk.Disk.{Ghosts}
use Rattle.voe_net.specs.Right.{IsRight}
use Rattle.voe_net.specs.Starting.{AllBlank, AllReadSame, AllTellImages, IsFirstMade}
use Rattle.voe_scenario.specs.Lines.{Refusal as BadLine}
use Rattle.voe_scenario.specs.Scenarios.{IsScenarioOf}
use Rattle.voe_scenario.specs.Shapes.{config_of, shape}
use Rattle.voe_scenario.specs.declared.scenario.Scenario.{Scenario}
use Rattle.voevent_cli.specs.Outcomes.{done, refused}
use Rattle.voevent_cli.specs.Racks.{Disks, AreSame, OnTrials}
use Rattle.voevent_cli.specs.declared.outcome.Outcome.{Outcome}
use Rattle.voevent_cli.specs.declared.outcome.Status.TheVariants.{Done}
use Rattle.voevent_cli.specs.declared.refusal.Refusal.TheVariants.{Scenario as RefusedLine, MadeAt}

-- how many nodes a scenario has, each of which has a trial disk
abbrev pub node_count : Scenario → ℕ
node_count scenario = length scenario.graph.nodes

-- the rules are those of each node, by its configuration, as far as the scenario's packets go
abbrev pub AreRightFor : Scenario → Rules → Type 0
AreRightFor scenario rules =
    (n : ℕ) → n < node_count scenario → IsRight (config_of scenario.graph n) scenario.packets (rules_at rules n)

-- the network after all events
abbrev pub final_state : Rules → Scenario → State
final_state rules scenario = after rules (shape scenario.graph) scenario.packets scenario.events

-- each node's disk, and whatever a crash leaves of it, keeps the node's configuration and its records in this state
abbrev pub KeepNodes : {T : Type 0} → Ghosts T → Scenario → State → List T → Type 0
KeepNodes disk scenario state new =
    (n : ℕ) (own : _) → slice_get new n ≡ Some own → EachFile disk own (λ file. Keeps file (config_of scenario.graph n) (notes_at state n))

-- By these rules the report is that of the state after all events, which the disks keep.
pub record IsRunBy {T : Type 0} (disk : Ghosts T) (scenario : Scenario) (rules : Rules) (outcome : Outcome) (new : List T) : Type 0 where
  pub reports : outcome ≡ done (report_of (shape scenario.graph) (final_state rules scenario))
  pub keep : KeepNodes disk scenario (final_state rules scenario) new

-- The events were run over disks on which no journal stood. Where these tell what a crash leaves of them, this is the run
-- by all rules that are right; and there are such rules.
pub record IsRun {T : Type 0} (disk : Ghosts T) (scenario : Scenario) (outcome : Outcome) (old new : List T) : Type 0 where
  pub blank : AllBlank disk old
  pub status : outcome.status ≡ Done
  pub exact : AllTellImages disk old → (rules : Rules) → AreRightFor scenario rules → IsRunBy disk scenario rules outcome new
  pub right : ((rules : Rules) → AreRightFor scenario rules → ⊥) → ⊥

-- on one of the disks something stands, the first such is named, and each reads as it did
pub record IsRefusedRun {T : Type 0} (disk : Ghosts T) (outcome : Outcome) (old new : List T) : Type 0 where
  pub node : ℕ
  pub first : IsFirstMade disk old node
  pub shown : outcome ≡ refused (MadeAt node)
  pub same : AllReadSame disk old new

-- the network was run, or a disk is refused
abbrev pub Runs : {T : Type 0} → Ghosts T → Scenario → Outcome → List T → List T → Type 0
Runs disk scenario outcome old new = IsRun disk scenario outcome old new ⊎ IsRefusedRun disk outcome old new

-- a line of the input is refused and no disk was called, or its scenario went to the first trial disks, one for each node
abbrev pub Nets : {T D : Type 0} → Ghosts T → List ℕ → Disks T D → Disks T D → Outcome → Type 0
Nets disk input before now outcome =
    ((line : BadLine) × IsScenarioOf input (Err line) × (outcome ≡ refused (RefusedLine line.number line.line)) × AreSame before now)
    ⊎ ((scenario : Scenario) × IsScenarioOf input (Ok scenario) × OnTrials (node_count scenario) (Runs disk scenario outcome) before now)
