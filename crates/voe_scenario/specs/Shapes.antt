-- What a scenario's graph is to the network, and how each of its nodes is configured.
use Rattle.std.specs.Prelude.{ℕ, cond, List, [], ◌∷◌, ◌++◌, codes, length, map, filter, get_or, ◌==◌}
use Rattle.std.specs.Fmt.{decimal}
use Rattle.std.specs.List.{list_any}
use Rattle.voe_values.specs.declared.kind.NodeKind.TheVariants.{Subscriber}
use Rattle.net_model.specs.declared.scenario.Edge as plain
use Rattle.net_model.specs.declared.scenario.Graph as plain_graph
use Rattle.node_notes.specs.declared.config.Config.{Config}
use Rattle.node_notes.specs.declared.config.LinkConfig.{LinkConfig}
use Rattle.voe_scenario.specs.declared.graph.Edge.{Edge}
use Rattle.voe_scenario.specs.declared.graph.Graph.{Graph}

-- an edge by its ends alone
abbrev pub ends_of : Edge → plain.Edge
ends_of edge = record { upper = edge.upper; lower = edge.lower }

-- the graph without filters
abbrev pub shape : Graph → plain_graph.Graph
shape graph = record { nodes = graph.nodes; edges = map ends_of graph.edges; window = graph.window }

-- the name of the node of this number
abbrev pub node_name : ℕ → List ℕ
node_name node = codes "ivo://node/" ++ decimal node

-- the edge's number behind its lower node's name, where an earlier edge leads there too
abbrev pub link_name : List ℕ → ℕ → List ℕ
link_name earlier lower = cond (list_any (λ other. other == lower) earlier) (node_name lower ++ (codes "." ++ decimal (length earlier))) (node_name lower)

-- the node's lines or links, of which the earlier ones lead to these nodes
abbrev pub links_behind : List ℕ → List Edge → List LinkConfig
links_behind earlier [] = []
links_behind earlier (edge ∷ edges) = record { name = link_name earlier edge.lower; filters = edge.texts } ∷ links_behind (earlier ++ edge.lower ∷ []) edges

-- those of the edges that lead out of this node
abbrev pub edges_from : ℕ → List Edge → List Edge
edges_from node edges = filter (λ edge. edge.upper == node) edges

-- how the node of this number is configured
abbrev pub config_of : Graph → ℕ → Config
config_of graph node = record {
  kind = get_or graph.nodes node Subscriber;
  name = node_name node;
  links = links_behind [] (edges_from node graph.edges);
}
