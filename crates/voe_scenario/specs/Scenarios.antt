-- The scenario that a text is, or the first line that is refused.
use Rattle.std.specs.Prelude.{◌≡◌, ℕ, List, [], ◌∷◌, ◌++◌, Option, Some, None, Result, Ok, Err, map, slice_get, slice_set}
use Rattle.std.specs.List.{All}
use Rattle.voe_packet.specs.Drafts.{packet_text}
use Rattle.path_filter.specs.Sets.{AreRead}
use Rattle.voe_scenario.specs.declared.graph.Edge.{Edge}
use Rattle.voe_scenario.specs.declared.scenario.Scenario.{Scenario}
use Rattle.voe_scenario.specs.Grammar.{Said, says_node, says_line, says_link, says_filter, says_packet, says_event, said_of}
use Rattle.voe_scenario.specs.Lines.{Refusal, TextRead}
use Rattle.voe_scenario.specs.Refusals.{RefusesLine}
use Rattle.voe_scenario.specs.Shapes.{config_of, shape}

-- ---- what a line adds

-- one more edge, without filters
abbrev pub with_edge : Scenario → ℕ → ℕ → Scenario
with_edge before upper lower =
    record before { graph = record before.graph { edges = before.graph.edges ++ record { upper = upper; lower = lower; filters = []; texts = [] } ∷ [] } }

-- one more filter of an edge, by its text
abbrev pub with_text : List Edge → ℕ → List ℕ → Option Edge → List Edge
with_text edges at text None = edges
with_text edges at text (Some edge) = slice_set edges at (record edge { texts = edge.texts ++ text ∷ [] })

-- a packet is the bytes that its draft is written as
abbrev pub with_said : Scenario → Said → Scenario
with_said before (says_node kind) = record before { graph = record before.graph { nodes = before.graph.nodes ++ kind ∷ [] } }
with_said before (says_line upper lower) = with_edge before upper lower
with_said before (says_link upper lower) = with_edge before upper lower
with_said before (says_filter edge text) =
    record before { graph = record before.graph { edges = with_text before.graph.edges edge text (slice_get before.graph.edges edge) } }
with_said before (says_packet draft) = record before { packets = before.packets ++ packet_text draft ∷ [] }
with_said before (says_event event) = record before { events = before.events ++ event ∷ [] }

abbrev pub with_any : Scenario → Option Said → Scenario
with_any before None = before
with_any before (Some said) = with_said before said

-- the scenario behind a line that isn't refused
abbrev pub with_said_line : Scenario → List ℕ → Scenario
with_said_line before line = with_any before (said_of line)

-- no node and no event, and a window of one packet
abbrev pub nothing_yet : Scenario
nothing_yet = record { graph = record { nodes = []; edges = []; window = 1 }; packets = []; events = [] }

-- ---- what a text is

-- an edge whose filters' texts stand unread
abbrev pub unread_edge : Edge → Edge
unread_edge edge = record edge { filters = [] }

-- a scenario whose filters' texts stand unread
abbrev pub unread : Scenario → Scenario
unread scenario = record scenario { graph = record scenario.graph { edges = map unread_edge scenario.graph.edges } }

-- an edge's filters are what their texts spell
abbrev pub IsEdgeRead : Edge → Type 0
IsEdgeRead edge = AreRead edge.filters edge.texts

-- the same scenario with its filters read, or the same refusal
abbrev pub IsFilled : Result Scenario Refusal → Result Scenario Refusal → Type 0
IsFilled (Ok said) (Ok scenario) = (unread scenario ≡ unread said) × All IsEdgeRead scenario.graph.edges
IsFilled (Err first) (Err refusal) = refusal ≡ first
IsFilled (Ok said) (Err refusal) = ⊥
IsFilled (Err first) (Ok scenario) = ⊥

-- the scenario that a text is, or its first refused line
abbrev pub IsScenarioOf : List ℕ → Result Scenario Refusal → Type 0
IsScenarioOf text outcome = (said : Result Scenario Refusal) × TextRead RefusesLine with_said_line nothing_yet text said × IsFilled said outcome

-- ---- what two scenarios of one text have in common

-- all but how their filters lie in memory
pub record IsAlike (a b : Scenario) : Type 0 where
  pub shape : shape a.graph ≡ shape b.graph
  pub config : (node : ℕ) → config_of a.graph node ≡ config_of b.graph node
  pub packets : a.packets ≡ b.packets
  pub events : a.events ≡ b.events

-- the same scenario but for how its filters lie in memory, or the same refusal
abbrev pub AreAlike : Result Scenario Refusal → Result Scenario Refusal → Type 0
AreAlike (Ok a) (Ok b) = IsAlike a b
AreAlike (Err a) (Err b) = a ≡ b
AreAlike (Ok a) (Err b) = ⊥
AreAlike (Err a) (Ok b) = ⊥
