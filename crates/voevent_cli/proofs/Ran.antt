-- A network that was run is the run of its scenario.
use Rattle.std.proofs.Common.{◌≡◌, ℕ, ◌<◌, false, List, length, slice_get, map, Result, Ok, Err, Some, None, inl, inr, refl, sym, ◌∙◌, ap, subst, arith, zero, suc, [], ◌∷◌}
use Rattle.std.proofs.lemmas.List.{length-map}
use Rattle.std.specs.Prelude.{IfErr, IfOk, OnOk}
use Rattle.std.specs.List.{All}
use Rattle.net_machine.specs.Counts.{Rose, RoseAt}
use Rattle.net_machine.specs.Ends.{AllPackets, IsPacket}
use Rattle.net_machine.specs.Parts.{AreRight}
use Rattle.net_machine.specs.Report.{report_of}
use Rattle.net_model.specs.declared.scenario.Event.{Event}
use Rattle.net_model.specs.declared.scenario.Graph.{Graph}
use Rattle.net_model.specs.declared.state.State.{State}
use Rattle.net_model.specs.Nodes.{notes_at}
use Rattle.net_model.specs.Rules.{Rules, rules_at}
use Rattle.net_model.specs.Runs.{beginning, run}
use Rattle.gate_journal.specs.Journal.{EachFile}
use Rattle.node_book.specs.Keeps.{Keeps}
use Rattle.node_notes.specs.declared.config.Config.{Config}
use Rattle.voe_disk.specs.declared.disk.Disk.{Ghosts}
use Rattle.voe_net.specs.Networks.{AllKeep, NetworkView, TellsCrashes}
use Rattle.voe_net.specs.Right.{IsRight}
use Rattle.voe_net.specs.Starting.{AllBlank, AllTellImages, AreConfigsOf, Explains, HasFailed}
use Rattle.voe_net.specs.declared.fault.NetFault.{NetFault}
use Rattle.voe_net.specs.declared.fault.NetFault.TheVariants as net
use Rattle.voe_scenario.specs.Shapes.{config_of, shape}
use Rattle.voe_scenario.specs.Sound.{IsShort}
use Rattle.voe_scenario.specs.declared.scenario.Scenario.{Scenario}
use Rattle.voevent_cli.specs.Hindered.{Hinders, IsHinderedRun, IsHinderedStep}
use Rattle.voevent_cli.specs.Nets.{AreRightFor, KeepNodes, Runs, final_state, node_count}
use Rattle.voevent_cli.specs.Outcomes.{done, refused}
use Rattle.voevent_cli.specs.declared.outcome.Outcome.{Outcome}
use Rattle.voevent_cli.specs.declared.prepare.Hindrance.{Hindrance}
use Rattle.voevent_cli.specs.declared.prepare.Hindrance.TheVariants.{ReadFault, DiskFault, NoMemory}
use Rattle.voevent_cli.specs.declared.refusal.Refusal.TheVariants.{MadeAt}
use Rattle.voevent_cli.proofs.Places.{each_in, get_there, get_within}

-- what was told of a network that begins
pub record Begins {T : Type 0} (disk : Ghosts T) (scenario : Scenario) (old : List T) (first : NetworkView T) : Type 0 where
  pub graph : first.graph ≡ shape scenario.graph
  pub packets : first.packets ≡ scenario.packets
  pub configs : AreConfigsOf scenario.graph first.configs
  pub state : first.state ≡ beginning (shape scenario.graph)
  pub blank : AllBlank disk old
  pub told : AllTellImages disk old → TellsCrashes disk first
  pub counts : first.faults ≡ map disk.faults old

-- the rules that are right for the scenario are so for its network
right_for : {T : Type 0} (disk : Ghosts T) (scenario : Scenario) (old : List T) (first : NetworkView T) (rules : Rules) → Begins disk scenario old first
    → AreRightFor scenario rules → AreRight IsRight first.configs first.packets rules
right_for disk scenario old first rules begins right n config is =
    let below = get_within first.configs n config is in
    let counts = begins.configs.same in
    subst (λ (p : List (List ℕ)). IsRight config p (rules_at rules n)) (sym begins.packets)
    (subst (λ (c : Config). IsRight c scenario.packets (rules_at rules n)) (sym (begins.configs.each n config is)) (right n (omega arith)))

-- the state of the run is the scenario's final one
final : {T : Type 0} (disk : Ghosts T) (scenario : Scenario) (old : List T) (first : NetworkView T) (rules : Rules) (state : State) → Begins disk scenario old first
    → state ≡ run rules first.graph first.packets scenario.events first.state → state ≡ final_state rules scenario
final disk scenario old first rules state begins is =
    is ∙ ap (λ (g : Graph). run rules g first.packets scenario.events first.state) begins.graph
    ∙ ap (λ (p : List (List ℕ)). run rules (shape scenario.graph) p scenario.events first.state) begins.packets
    ∙ ap (λ (s : State). run rules (shape scenario.graph) scenario.packets scenario.events s) begins.state

-- the disks that are given back keep the nodes
kept : {T : Type 0} (disk : Ghosts T) (scenario : Scenario) (configs : List Config) (state after_all : State) (new : List T) → AreConfigsOf scenario.graph configs
    → length new ≡ node_count scenario → state ≡ after_all → AllKeep disk configs state new → KeepNodes disk scenario after_all new
kept disk scenario configs state after_all new are count is keep n own there =
    let below = get_within new n own there in
    let counts = are.same in
    let found = get_there configs n (omega arith) in
    subst (λ (s : State). EachFile disk own (λ file. Keeps file (config_of scenario.graph n) (notes_at s n))) is
    (subst (λ (c : Config). EachFile disk own (λ file. Keeps file c (notes_at state n))) (are.each n found.0 found.1) (keep n own found.0 there found.1))

-- what was done of the events
pub record Steps {T : Type 0} (disk : Ghosts T) (events : List Event) (first last : NetworkView T) (result : Result Outcome Hindrance) : Type 0 where
  pub works : OnOk result (last.failed ≡ false)
  pub graph : last.graph ≡ first.graph
  pub configs : OnOk result (last.configs ≡ first.configs)
  pub reports : IfOk result (λ outcome. outcome ≡ done (report_of last.graph last.state))
  pub exact : OnOk result (TellsCrashes disk first → (rules : Rules) → AreRight IsRight first.configs first.packets rules
      → last.state ≡ run rules first.graph first.packets events first.state)

-- a network that begins and was stepped through all events was run
pub ran : {T : Type 0} (disk : Ghosts T) (scenario : Scenario) (old new : List T) (first last : NetworkView T) (result : Result Outcome Hindrance)
    → (((rules : Rules) → AreRightFor scenario rules → ⊥) → ⊥) → Begins disk scenario old first → Steps disk scenario.events first last result → length new ≡ node_count scenario
    → (last.failed ≡ false → AllKeep disk last.configs last.state new) → IfOk result (λ outcome. Runs disk scenario outcome old new)
ran disk scenario old new first last (Err hindrance) right begins steps count keep = tt
ran disk scenario old new first last (Ok outcome) right begins steps count keep =
    inl (record {
      blank = begins.blank;
      status = ap (λ (o : Outcome). o.status) steps.reports;
      exact = λ tells rules are.
          let is = final disk scenario old first rules last.state begins (steps.exact (begins.told tells) rules (right_for disk scenario old first rules begins are)) in
          record {
            reports = steps.reports ∙ ap (λ (g : Graph). done (report_of g last.state)) (steps.graph ∙ begins.graph) ∙ ap (λ (s : State). done (report_of (shape scenario.graph) s)) is;
            keep = kept disk scenario first.configs last.state (final_state rules scenario) new begins.configs count is
                (subst (λ (c : List Config). AllKeep disk c last.state new) steps.configs (keep steps.works));
          };
      right = right;
    })

-- ---- why nothing was run

-- what is counted at this place
counted : {T : Type 0} (count : T → ℕ) (xs : List T) (n c : ℕ) → slice_get (map count xs) n ≡ Some c → (x : T) × (slice_get xs n ≡ Some x) × (count x ≡ c)
counted count [] n c is = absurd (let wrong : None ≡ Some c = is in cc)
counted count (x ∷ xs) zero c is = let same : count x ≡ c = cc in (x, refl, same)
counted count (x ∷ xs) (suc n) c is = counted count xs n c is

-- a count that rose is a disk's
failed_at : {T : Type 0} (disk : Ghosts T) (old new : List T) (n : ℕ) → RoseAt n (map disk.faults old) (map disk.faults new) → HasFailed disk old new n
failed_at disk old new n (before, after, there, back, rose) =
    let was = counted disk.faults old n before there in
    let now = counted disk.faults new n after back in
    record {
      was = was.0;
      now = now.0;
      there = was.1;
      back = now.1;
      rose = subst (λ (c : ℕ). Rose c (disk.faults now.0)) (sym was.2) (subst (λ (c : ℕ). Rose before c) (sym now.2) rose);
    }

hindered_run : {T : Type 0} (disk : Ghosts T) (old new : List T) (before now : List ℕ) (hindrance : Hindrance) → before ≡ map disk.faults old → map disk.faults new ≡ now
    → IsHinderedStep before now hindrance → IsHinderedRun disk old new hindrance
hindered_run disk old new before now ReadFault was is step = step
hindered_run disk old new before now DiskFault was is (n, rose) =
    (n, failed_at disk old new n (subst (λ (l : List ℕ). RoseAt n (map disk.faults old) l) (sym is) (subst (λ (l : List ℕ). RoseAt n l now) was rose)))
hindered_run disk old new before now NoMemory was is step = tt

pub hindered_where : {T : Type 0} (disk : Ghosts T) (old new : List T) (before now : List ℕ) (result : Result Outcome Hindrance) → before ≡ map disk.faults old
    → map disk.faults new ≡ now → IfErr result (λ hindrance. IsHinderedStep before now hindrance) → IfErr result (λ hindrance. IsHinderedRun disk old new hindrance)
hindered_where disk old new before now (Ok outcome) was is step = tt
hindered_where disk old new before now (Err hindrance) was is step = hindered_run disk old new before now hindrance was is step

-- why the network was not made
hindered_start : {T : Type 0} (disk : Ghosts T) (old new : List T) (fault : NetFault) (hindrance : Hindrance) → Explains disk old new fault → Hinders fault hindrance → IsHinderedRun disk old new hindrance
hindered_start disk old new fault ReadFault explains hinders = hinders
hindered_start disk old new fault DiskFault explains (n, is) = (n, subst (Explains disk old new) is explains)
hindered_start disk old new fault NoMemory explains hinders = tt

pub not_begun : {T : Type 0} (disk : Ghosts T) (old new : List T) (fault : NetFault) (result : Result Outcome Hindrance) → Explains disk old new fault
    → IfErr result (λ hindrance. Hinders fault hindrance) → IfErr result (λ hindrance. IsHinderedRun disk old new hindrance)
not_begun disk old new fault (Ok outcome) explains hinders = tt
not_begun disk old new fault (Err hindrance) explains hinders = hindered_start disk old new fault hindrance explains hinders

-- the first disk on which something stands was named
pub refused_where : {T : Type 0} (disk : Ghosts T) (scenario : Scenario) (old new : List T) (fault : NetFault) (result : Result Outcome Hindrance) → Explains disk old new fault
    → IfOk result (λ outcome. (node : ℕ) × (fault ≡ net.AlreadyMade node) × (outcome ≡ refused (MadeAt node))) → IfOk result (λ outcome. Runs disk scenario outcome old new)
refused_where disk scenario old new fault (Err hindrance) explains shown = tt
refused_where disk scenario old new fault (Ok outcome) explains (node, is, shown) =
    let made = subst (Explains disk old new) is explains in
    inr (record { node = node; first = made.0; shown = shown; same = made.1 })

-- ---- packets

packet_of_short : (packet : List ℕ) → IsShort packet → IsPacket packet
packet_of_short packet short = (omega (arith, short.0), omega (arith, short.1))

pub all_packets : (packets : List (List ℕ)) → All IsShort packets → AllPackets packets
all_packets packets short packet is = packet_of_short packet (each_in IsShort packets packet short is)
