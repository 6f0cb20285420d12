-- What holds of a network at every moment of a scenario's run, and after each of its drains.
use Rattle.std.specs.Prelude.{◌≡◌, ◌≤◌, ◌*◌, ◌++◌, ◌∷◌, [], List, length, ℕ, Ok}
use Rattle.net_model.specs.declared.scenario.Event.{Event}
use Rattle.net_model.specs.declared.scenario.Event.TheVariants.{Drain}
use Rattle.net_model.specs.declared.scenario.Graph.{Graph}
use Rattle.net_model.specs.declared.state.State.{State}
use Rattle.net_model.specs.Draining.{HadRoom, IsAllAnswered, IsAllUp, IsAtRest, IsDelivered, NamesWritten, sendings}
use Rattle.net_model.specs.Laws.{NoDouble, AllWritten, IsSourced, IsCovered, IsSettled, IsFulfilled, AtEveryMoment}
use Rattle.net_model.specs.Rules.{Rules}
use Rattle.net_model.specs.Runs.{after}
use Rattle.voe_scenario.specs.Shapes.{shape}
use Rattle.voe_scenario.specs.Scenarios.{IsScenarioOf}
use Rattle.voe_scenario.specs.declared.scenario.Scenario.{Scenario}
use Rattle.voevent_cli.specs.Nets.{AreRightFor}

pub record IsSafe (rules : Rules) (graph : Graph) (state : State) : Type 0 where
  -- no node holds an identifier twice
  pub single : NoDouble state
  -- an author wrote each packet that is in flight, accepted or entered
  pub written : AllWritten graph state
  -- and over links whose filters pass it it came to where it is
  pub sourced : IsSourced rules graph state
  -- each link is offered what its filters pass, and what was acknowledged is held at the other end
  pub covered : IsCovered rules graph state
  -- where no broker owes a delivery, each subscriber that an acknowledged packet reaches has entered it exactly once
  pub fulfilled : IsSettled graph state → IsFulfilled rules graph state

-- the network after these events and a drain
abbrev pub drained : Rules → Graph → List (List ℕ) → List Event → State
drained rules graph packets before = after rules graph packets (before ++ Drain ∷ [])

-- what a drain behind these events leaves
pub record IsDrained (rules : Rules) (graph : Graph) (packets : List (List ℕ)) (before : List Event) : Type 0 where
  -- over all edges it sent no more packets than edges times identifiers that were written before
  pub few : (names : List (List ℕ)) → NamesWritten (after rules graph packets before) names
      → sendings (drained rules graph packets before).wires ≤ length graph.edges * length names
  -- each of them was answered, and every node is up
  pub rest : IsAtRest graph (drained rules graph packets before)
  pub up : IsAllUp (drained rules graph packets before)
  -- Where every step had room, no broker owes a delivery, and no line has a packet unanswered.
  pub settled : HadRoom rules graph packets (before ++ Drain ∷ []) → IsSettled graph (drained rules graph packets before)
  pub answered : HadRoom rules graph packets (before ++ Drain ∷ []) → IsAllAnswered graph (drained rules graph packets before)
  -- Then, of the identifiers that were written with one packet alone, a subscriber holds exactly those whose packet was
  -- acknowledged and reaches it, each once.
  pub delivered : HadRoom rules graph packets (before ++ Drain ∷ []) → IsDelivered rules graph (drained rules graph packets before)

-- each drain among the events leaves that
abbrev pub AfterEachDrain : Rules → Graph → List (List ℕ) → List Event → Type 0
AfterEachDrain rules graph packets events =
    (before rest : List Event) → events ≡ (before ++ Drain ∷ []) ++ rest → IsDrained rules graph packets before

-- the network of a scenario is safe after each prefix of its events, and drained after each drain
pub record IsSafeBy (rules : Rules) (scenario : Scenario) : Type 0 where
  pub moments : AtEveryMoment rules (shape scenario.graph) scenario.packets scenario.events (IsSafe rules (shape scenario.graph))
  pub drains : AfterEachDrain rules (shape scenario.graph) scenario.packets scenario.events
  -- by rules that are right for the scenario every step has room, whatever events happen
  pub room : AreRightFor scenario rules → (events : List Event) → HadRoom rules (shape scenario.graph) scenario.packets events

-- so it is, whatever judges packets and filters
abbrev pub IsSafeThroughout : Scenario → Type 0
IsSafeThroughout scenario = (rules : Rules) → IsSafeBy rules scenario

-- so is the network of the scenario that a text is, if it is one
abbrev pub IsSafeText : List ℕ → Type 0
IsSafeText text = (scenario : Scenario) → IsScenarioOf text (Ok scenario) → IsSafeThroughout scenario
