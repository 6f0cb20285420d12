-- The network's laws, for the run of a scenario.
use Rattle.std.proofs.Common.{List, [], ◌∷◌, ◌++◌, ◌≡◌, ◌≤◌, ◌*◌, length, ℕ, Some, None, Ok}
use Rattle.std.specs.declared.option.Option.{Option}
use Rattle.net_model.specs.declared.scenario.Event.{Event}
use Rattle.net_model.specs.declared.scenario.Event.TheVariants.{Drain}
use Rattle.net_model.specs.declared.scenario.Graph.{Graph}
use Rattle.net_model.specs.declared.state.State.{State}
use Rattle.net_model.specs.Draining.{HadRoom, IsAllAnswered, IsAllUp, IsAtRest, IsDelivered, IsProper, NamesWritten, sendings}
use Rattle.net_model.specs.Laws.{NoDouble, AllWritten, IsSourced, IsCovered, IsSettled, IsFulfilled, AtEveryMoment}
use Rattle.net_model.specs.Rules.{Rules}
use Rattle.net_model.specs.Runs.{after}
use Rattle.voe_scenario.specs.Scenarios.{IsScenarioOf}
use Rattle.voe_scenario.specs.Sound.{IsSound}
use Rattle.voe_scenario.specs.declared.scenario.Scenario.{Scenario}
use Rattle.voe_scenario.specs.Shapes.{shape}
use Rattle.voevent_cli.specs.Answers.{IsSafeRun}
use Rattle.voevent_cli.specs.Nets.{AreRightFor}
use Rattle.voevent_cli.specs.Safety.{IsSafeText, drained}
use Rattle.voevent_cli.specs.declared.command.Command.{Command}
use Rattle.voevent_cli.specs.declared.command.Command.TheVariants.{Net, Check, Show, Match, Init}

-- what the network's laws say of a property at every moment of every run
abbrev pub Always : (Rules → Graph → State → Type 0) → Type 0
Always Holds = (rules : Rules) (graph : Graph) (packets : List (List ℕ)) (events : List Event) → AtEveryMoment rules graph packets events (Holds rules graph)

-- what they say of the drain behind any events, over a proper graph
abbrev pub Drained : (Rules → Graph → List (List ℕ) → List Event → Type 0) → Type 0
Drained Holds = (rules : Rules) (graph : Graph) (packets : List (List ℕ)) (before : List Event) → IsProper graph → Holds rules graph packets before

-- and where every step had room
abbrev pub DrainedWithRoom : (Rules → Graph → State → Type 0) → Type 0
DrainedWithRoom Holds = (rules : Rules) (graph : Graph) (packets : List (List ℕ)) (before : List Event)
    → IsProper graph → HadRoom rules graph packets (before ++ Drain ∷ []) → Holds rules graph (drained rules graph packets before)

pub record RunLaws : Type 0 where
  pub single : Always (λ rules graph state. NoDouble state)
  pub written : Always (λ rules graph state. AllWritten graph state)
  pub sourced : Always (λ rules graph state. IsSourced rules graph state)
  pub covered : Always (λ rules graph state. IsCovered rules graph state)
  pub fulfilled : Always (λ rules graph state. IsSettled graph state → IsFulfilled rules graph state)
  pub few : (rules : Rules) (graph : Graph) (packets : List (List ℕ)) (before : List Event) (names : List (List ℕ)) → IsProper graph
      → NamesWritten (after rules graph packets before) names → sendings (drained rules graph packets before).wires ≤ length graph.edges * length names
  pub rest : Drained (λ rules graph packets before. IsAtRest graph (drained rules graph packets before))
  pub up : Drained (λ rules graph packets before. IsAllUp (drained rules graph packets before))
  pub settled : DrainedWithRoom (λ rules graph state. IsSettled graph state)
  pub answered : DrainedWithRoom (λ rules graph state. IsAllAnswered graph state)
  pub delivered : DrainedWithRoom (λ rules graph state. IsDelivered rules graph state)
  pub sound : (text : List ℕ) (scenario : Scenario) → IsScenarioOf text (Ok scenario) → IsSound scenario
  pub room : (text : List ℕ) (scenario : Scenario) (rules : Rules) (events : List Event) → IsScenarioOf text (Ok scenario) → AreRightFor scenario rules
      → HadRoom rules (shape scenario.graph) scenario.packets events

pub safe_text : (text : List ℕ) → RunLaws → IsSafeText text
safe_text text laws = λ s is rules.
    let graph = shape s.graph in
    let proper : IsProper graph = (laws.sound text s is).so_far.proper in
    record {
      moments = λ before rest joined. record {
        single = laws.single rules graph s.packets s.events before rest joined;
        written = laws.written rules graph s.packets s.events before rest joined;
        sourced = laws.sourced rules graph s.packets s.events before rest joined;
        covered = laws.covered rules graph s.packets s.events before rest joined;
        fulfilled = laws.fulfilled rules graph s.packets s.events before rest joined;
      };
      drains = λ before rest joined. record {
        few = λ names named. laws.few rules graph s.packets before names proper named;
        rest = laws.rest rules graph s.packets before proper;
        up = laws.up rules graph s.packets before proper;
        settled = laws.settled rules graph s.packets before proper;
        answered = laws.answered rules graph s.packets before proper;
        delivered = laws.delivered rules graph s.packets before proper;
      };
      room = λ right events. laws.room text s rules events is right;
    }

-- the same of what was taken, by the command
pub safe_run : (command : Option Command) (taken : List ℕ) → RunLaws → IsSafeRun command taken
safe_run None taken laws = tt
safe_run (Some Net) taken laws = safe_text taken laws
safe_run (Some Check) taken laws = tt
safe_run (Some Show) taken laws = tt
safe_run (Some Match) taken laws = tt
safe_run (Some Init) taken laws = tt
