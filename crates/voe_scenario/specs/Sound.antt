-- What holds of each scenario that a text is.
use Rattle.std.specs.Prelude.{◌≡◌, ℕ, ◌≤◌, ◌<◌, ◌⊎◌, IsTrue, true, List, [], length}
use Rattle.std.specs.List.{All}
use Rattle.voe_values.specs.declared.kind.NodeKind.TheVariants.{Author, Broker}
use Rattle.net_model.specs.declared.scenario.Graph as plain
use Rattle.net_model.specs.declared.scenario.Event.{Event}
use Rattle.net_model.specs.declared.scenario.Event.TheVariants.{Write, Send, Down, Up, Cut, Connect, Crash, Reopen, Stop, Drain}
use Rattle.net_model.specs.declared.scenario.Inner.{Inner}
use Rattle.net_model.specs.declared.scenario.Inner.TheVariants.{Write as InWrite, Down as InDown, Up as InUp}
use Rattle.net_model.specs.Draining.{IsProper}
use Rattle.net_model.specs.Laws.{IsA}
use Rattle.net_model.specs.Nodes.{links_of}
use Rattle.node_notes.specs.Forms.{is_config}
use Rattle.path_filter.specs.Links.{AreReadable}
use Rattle.voe_packet.specs.Drafts.{fits_packet, has_identifiers, has_xml_texts, packet_text}
use Rattle.voe_packet.specs.declared.draft.Draft.{Draft}
use Rattle.voe_scenario.specs.declared.graph.Edge.{Edge}
use Rattle.voe_scenario.specs.declared.graph.Graph.{Graph}
use Rattle.voe_scenario.specs.declared.scenario.Scenario.{Scenario}
use Rattle.voe_scenario.specs.Filters.{AreFilters}
use Rattle.voe_scenario.specs.Scenarios.{IsEdgeRead}
use Rattle.voe_scenario.specs.Shapes.{config_of, shape}

-- an author of the one number and a packet of the other
abbrev pub CanWrite : plain.Graph → List (List ℕ) → ℕ → ℕ → Type 0
CanWrite graph packets author packet = (IsA graph author Author) × (packet < length packets)

abbrev pub IsInnerNamed : plain.Graph → List (List ℕ) → Inner → Type 0
IsInnerNamed graph packets (InWrite author packet) = CanWrite graph packets author packet
IsInnerNamed graph packets (InDown edge) = edge < length graph.edges
IsInnerNamed graph packets (InUp edge) = edge < length graph.edges

-- an event whose numbers name nodes, edges and packets that are there, and an author where it writes
abbrev pub IsNamed : plain.Graph → List (List ℕ) → Event → Type 0
IsNamed graph packets (Write author packet) = CanWrite graph packets author packet
IsNamed graph packets (Send edge) = edge < length graph.edges
IsNamed graph packets (Down edge) = edge < length graph.edges
IsNamed graph packets (Up edge) = edge < length graph.edges
IsNamed graph packets (Cut edge) = edge < length graph.edges
IsNamed graph packets (Connect edge) = edge < length graph.edges
IsNamed graph packets (Crash node) = node < length graph.nodes
IsNamed graph packets (Reopen node) = node < length graph.nodes
IsNamed graph packets (Stop calls fill inner) = (calls ≤ 4) × (fill ≤ 255) × IsInnerNamed graph packets inner
IsNamed graph packets Drain = Unit {0}

-- a packet of 1 to 16,383 bytes
abbrev pub IsShort : List ℕ → Type 0
IsShort packet = (0 < length packet) × (length packet < 16384)

-- the bytes that a draft is written as, which may be written and read back
pub record IsDrafted (packet : List ℕ) : Type 0 where
  pub draft : Draft
  pub identifiers : IsTrue (has_identifiers draft)
  pub texts : IsTrue (has_xml_texts draft)
  pub fits : IsTrue (fits_packet draft)
  pub written : packet ≡ packet_text draft

-- only an edge out of a broker has filters
abbrev pub MayHaveTexts : Graph → Edge → Type 0
MayHaveTexts graph edge = (edge.texts ≡ []) ⊎ IsA (shape graph) edge.upper Broker

-- what lines make is within the limits, each edge between nodes of its kinds, and each event names what is there
pub record IsSoundSoFar (scenario : Scenario) : Type 0 where
  pub nodes : length scenario.graph.nodes ≤ 64
  pub edges : length scenario.graph.edges ≤ 256
  pub links : (n : ℕ) → links_of (shape scenario.graph) n ≤ 64
  pub packets : length scenario.packets ≤ 1024
  pub events : length scenario.events ≤ 1000000
  pub window : scenario.graph.window ≡ 1
  pub proper : IsProper (shape scenario.graph)
  pub filters : All (λ edge. AreFilters edge.texts) scenario.graph.edges
  pub bare : All (MayHaveTexts scenario.graph) scenario.graph.edges
  pub named : All (IsNamed (shape scenario.graph) scenario.packets) scenario.events
  pub short : All IsShort scenario.packets
  pub drafted : All IsDrafted scenario.packets

-- the same of a text's scenario, whose filters are read, and each node of which may be configured
pub record IsSound (scenario : Scenario) : Type 0 where
  pub so_far : IsSoundSoFar scenario
  pub read : All IsEdgeRead scenario.graph.edges
  pub config : (node : ℕ) → node < length scenario.graph.nodes → is_config (config_of scenario.graph node) ≡ true
  pub readable : (node : ℕ) → AreReadable (config_of scenario.graph node).links
