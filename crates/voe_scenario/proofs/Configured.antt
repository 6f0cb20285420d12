-- Each node of a sound scenario may be configured.
use Rattle.std.proofs.Common.{◌≡◌, ℕ, suc, ◌+◌, ◌^◌, ◌==◌, ◌<◌, Bool, true, false, cond, List, [], ◌∷◌, ◌++◌, Some, slice_get, length, map, refl, ap, arith, get_or, codes, length-append, inl, inr}
use Rattle.std.proofs.lemmas.Bool.{le-leb}
use Rattle.std.proofs.lemmas.List.Elements.{All-filter, All-head, All-tail}
use Rattle.std.proofs.lemmas.List.Sums.{list_all-from_AllPass}
use Rattle.std.proofs.lemmas.Option.{slice_get-get_or, slice_get-map, slice_get_within}
use Rattle.std.specs.Fmt.{decimal}
use Rattle.std.specs.List.{All, filter, list_all, list_any}
use Rattle.node_notes.specs.Forms.{is_config, is_filter, is_link, is_name}
use Rattle.node_notes.specs.declared.config.LinkConfig.{LinkConfig}
use Rattle.path_filter.specs.Links.{AreOf, AreReadable}
use Rattle.voe_scenario.specs.declared.graph.Edge.{Edge}
use Rattle.voe_scenario.specs.declared.graph.Graph.{Graph}
use Rattle.voe_scenario.specs.declared.scenario.Scenario.{Scenario}
use Rattle.voe_scenario.specs.Filters.{AreFilters}
use Rattle.voe_scenario.specs.Scenarios.{IsEdgeRead}
use Rattle.voe_scenario.specs.Shapes.{config_of, edges_from, ends_of, link_name, links_behind, node_name}
use Rattle.voe_scenario.specs.Sound.{IsSound, IsSoundSoFar}
use Rattle.voe_scenario.proofs.NodeNames.{node_named, numbered_named}

-- ---- names and filters of links

link_named : (earlier : List ℕ) (lower : ℕ) → length earlier < 2 ^ 64 → lower < 2 ^ 64 → is_name (link_name earlier lower) ≡ true
link_named earlier lower few small =
    let choose : (b : Bool) → is_name (cond b (node_name lower ++ (codes "." ++ decimal (length earlier))) (node_name lower)) ≡ true
    = λ b. elim b as (λ b. is_name (cond b (node_name lower ++ (codes "." ++ decimal (length earlier))) (node_name lower)) ≡ true) [
      | true ↦ numbered_named lower (length earlier) small few
      | false ↦ node_named lower small
    ] in
    choose (list_any (λ other. other == lower) earlier)

-- what holds of an edge whose link may be configured
record IsFit (edge : Edge) : Type 0 where
  lower : edge.lower < 2 ^ 64
  filters : AreFilters edge.texts

link_form : (link : LinkConfig) → is_name link.name ≡ true → AreFilters link.filters → is_link link ≡ true
link_form link named filters =
    rw (named, le-leb (length link.filters) 16 filters.few, list_all-from_AllPass is_filter link.filters filters.form) refl

links_form : (earlier : List ℕ) (edges : List Edge) → length earlier + length edges < 2 ^ 64 → All IsFit edges → list_all is_link (links_behind earlier edges) ≡ true
links_form earlier [] few fit = refl
links_form earlier (edge ∷ edges) few fit =
    let own = All-head IsFit edge edges fit in
    let named = link_named earlier edge.lower (omega arith) own.lower in
    let first = link_form (record { name = link_name earlier edge.lower; filters = edge.texts }) named own.filters in
    let more = length-append earlier (edge.lower ∷ []) in
    let others = links_form (earlier ++ edge.lower ∷ []) edges (omega arith) (All-tail IsFit edge edges fit) in
    rw (first, others) refl

links_many : (earlier : List ℕ) (edges : List Edge) → length (links_behind earlier edges) ≡ length edges
links_many earlier [] = refl
links_many earlier (edge ∷ edges) = ap suc (links_many (earlier ++ edge.lower ∷ []) edges)

-- as many edges lead out of a node in the plain graph
out_many : (node : ℕ) (edges : List Edge) → length (filter (λ e. e.upper == node) edges) ≡ length (filter (λ e. e.upper == node) (map ends_of edges))
out_many node [] = refl
out_many node (edge ∷ edges) =
    let choose : (b : Bool) → length (cond b (edge ∷ filter (λ e. e.upper == node) edges) (filter (λ e. e.upper == node) edges))
    ≡ length (cond b (ends_of edge ∷ filter (λ e. e.upper == node) (map ends_of edges)) (filter (λ e. e.upper == node) (map ends_of edges)))
    = λ b. elim b as (λ b. length (cond b (edge ∷ filter (λ e. e.upper == node) edges) (filter (λ e. e.upper == node) edges))
    ≡ length (cond b (ends_of edge ∷ filter (λ e. e.upper == node) (map ends_of edges)) (filter (λ e. e.upper == node) (map ends_of edges)))) [
      | true ↦ ap suc (out_many node edges)
      | false ↦ out_many node edges
    ] in
    choose (edge.upper == node)

-- ---- sound scenarios

lower_small : (scenario : Scenario) → IsSoundSoFar scenario → (e : ℕ) (edge : Edge) → slice_get scenario.graph.edges e ≡ Some edge → edge.lower < 2 ^ 64
lower_small scenario sound e edge is =
    let nodes = scenario.graph.nodes in
    let found : slice_get (map ends_of scenario.graph.edges) e ≡ Some (ends_of edge) = rw (slice_get-map ends_of scenario.graph.edges e, is) refl in
    let within : edge.lower < length nodes = elim (sound.proper.ends e (ends_of edge) found) [
      | inl line ↦ slice_get_within nodes edge.lower _ line.1
      | inr link ↦ elim (link.1) [
        | inl broker ↦ slice_get_within nodes edge.lower _ broker
        | inr subscriber ↦ slice_get_within nodes edge.lower _ subscriber
      ]
    ] in
    let few = sound.nodes in omega arith

all_fit : (scenario : Scenario) → IsSoundSoFar scenario → All IsFit scenario.graph.edges
all_fit scenario sound = λ k d within. record {
  lower = lower_small scenario sound k (get_or scenario.graph.edges k d) (slice_get-get_or scenario.graph.edges k d within);
  filters = sound.filters k d within;
}

node_config : (scenario : Scenario) → IsSoundSoFar scenario → (node : ℕ) → node < length scenario.graph.nodes → is_config (config_of scenario.graph node) ≡ true
unfolding is_config
node_config scenario sound node within =
    let few = sound.nodes in
    let named = node_named node (omega arith) in
    let out = edges_from node scenario.graph.edges in
    let many = links_many [] out in
    let same = out_many node scenario.graph.edges in
    let most = sound.links node in
    let form = links_form [] out (omega arith) (All-filter (λ edge. edge.upper == node) IsFit scenario.graph.edges (all_fit scenario sound)) in
    rw (named, le-leb (length (links_behind [] out)) 64 (omega arith), form) refl

-- ---- filters that are read

are_of : (earlier : List ℕ) (edges : List Edge) → All IsEdgeRead edges → AreOf (map (λ e. e.filters) edges) (links_behind earlier edges)
are_of earlier [] read = tt
are_of earlier (edge ∷ edges) read =
    (All-head IsEdgeRead edge edges read, are_of (earlier ++ edge.lower ∷ []) edges (All-tail IsEdgeRead edge edges read))

readable : (graph : Graph) → All IsEdgeRead graph.edges → (node : ℕ) → AreReadable (config_of graph node).links
readable graph read node =
    (map (λ e. e.filters) (edges_from node graph.edges), are_of [] (edges_from node graph.edges) (All-filter (λ edge. edge.upper == node) IsEdgeRead graph.edges read))

pub sound_when_read : (scenario : Scenario) → IsSoundSoFar scenario → All IsEdgeRead scenario.graph.edges → IsSound scenario
sound_when_read scenario sound read = record {
  so_far = sound;
  read = read;
  config = node_config scenario sound;
  readable = readable scenario.graph read;
}
