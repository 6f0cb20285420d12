-- A scenario whose filters are read.
use Rattle.std.proofs.Common.{◌≡◌, ℕ, zero, suc, ◌+◌, ◌≤◌, List, [], ◌∷◌, Some, Ok, Err, length, map, take, slice_get, slice_set, refl, sym, ◌∙◌, ap, subst, add-one}
use Rattle.std.proofs.lemmas.List.{length-map}
use Rattle.std.proofs.lemmas.List.Elements.{All-cons, All-head, All-map, All-nil, All-tail}
use Rattle.std.specs.List.{All}
use Rattle.net_model.specs.Draining.{IsProper}
use Rattle.net_model.specs.Nodes.{links_of}
use Rattle.voe_scenario.specs.declared.graph.Edge.{Edge}
use Rattle.voe_scenario.specs.declared.graph.Graph.{Graph}
use Rattle.voe_scenario.specs.declared.scenario.Scenario.{Scenario}
use Rattle.voe_scenario.specs.declared.fault.ScenarioFault.{ScenarioFault}
use Rattle.voe_scenario.specs.declared.fault.ScenarioFault.TheVariants.{Refused, NoMemory}
use Rattle.voe_scenario.specs.Faults.{IsTextFault}
use Rattle.voe_scenario.specs.Filters.{AreFilters}
use Rattle.voe_scenario.specs.Lines.{TextRead}
use Rattle.voe_scenario.specs.Refusals.{RefusesLine}
use Rattle.voe_scenario.specs.Scenarios.{IsEdgeRead, IsScenarioOf, nothing_yet, unread_edge, with_said_line}
use Rattle.voe_scenario.specs.Shapes.{ends_of, shape}
use Rattle.voe_scenario.specs.Sound.{IsNamed, IsSound, IsSoundSoFar, MayHaveTexts}
use Rattle.voe_scenario.proofs.Configured.{sound_when_read}
use Rattle.voe_scenario.proofs.Kept.{map_set_same}
use Rattle.voe_scenario.proofs.Same.{ends_unread}

-- what refuses the lines of a scenario refuses its text
pub scenario_fault : (text : List ℕ) (fault : ScenarioFault) → IsTextFault (TextRead RefusesLine with_said_line nothing_yet text) fault → IsTextFault (IsScenarioOf text) fault
scenario_fault text (Refused number line) told = (Err (record { number = number; line = line }), told, refl)
scenario_fault text NoMemory told = tt

-- a scenario with other edges
abbrev pub with_edges : Scenario → List Edge → Scenario
with_edges scenario edges = record scenario { graph = record scenario.graph { edges = edges } }

unmapped : (P : Edge → Type 0) → ((e : Edge) → P (unread_edge e) → P e) → (edges : List Edge) → All P (map unread_edge edges) → All P edges
unmapped P back [] all = All-nil P
unmapped P back (e ∷ edges) all =
    All-cons P e edges (back e (All-head P (unread_edge e) (map unread_edge edges) all)) (unmapped P back edges (All-tail P (unread_edge e) (map unread_edge edges) all))

-- what holds of each edge, whatever its filters, holds of each edge that differs in its filters alone
moved : (P : Edge → Type 0) → ((e : Edge) → P (unread_edge e) → P e) → ((e : Edge) → P e → P (unread_edge e)) → (before after : List Edge)
    → map unread_edge after ≡ map unread_edge before → All P before → All P after
moved P back forth before after same all = unmapped P back after (subst (All P) (sym same) (All-map P unread_edge before (λ k d within. forth _ (all k d within))))

-- the plain graph is the same
shape_moved : (graph : Graph) (edges : List Edge) → map unread_edge edges ≡ map unread_edge graph.edges → shape graph ≡ shape (record graph { edges = edges })
shape_moved graph edges same =
    let ends : map ends_of graph.edges ≡ map ends_of edges = sym (ends_unread graph.edges) ∙ ap (map ends_of) (sym same) ∙ ends_unread edges in
    ap (λ es. record { nodes = graph.nodes; edges = es; window = graph.window }) ends

sound_moved : (before : Scenario) (edges : List Edge) → map unread_edge edges ≡ map unread_edge before.graph.edges → IsSoundSoFar before → IsSoundSoFar (with_edges before edges)
sound_moved before edges same sound =
    let shaped = shape_moved before.graph edges same in
    let many : length edges ≡ length before.graph.edges = sym (length-map edges unread_edge) ∙ ap length same ∙ length-map before.graph.edges unread_edge in
    record {
      nodes = sound.nodes;
      edges = rw many sound.edges;
      links = λ n. subst (λ g. links_of g n ≤ 64) shaped (sound.links n);
      packets = sound.packets;
      events = sound.events;
      window = sound.window;
      proper = subst IsProper shaped sound.proper;
      filters = moved (λ e. AreFilters e.texts) (λ e is. is) (λ e is. is) before.graph.edges edges same sound.filters;
      bare = moved (MayHaveTexts before.graph) (λ e is. is) (λ e is. is) before.graph.edges edges same sound.bare;
      named = subst (λ g. All (IsNamed g before.packets) before.events) shaped sound.named;
      short = sound.short;
      drafted = sound.drafted;
    }

pub sound_filled : (before : Scenario) (edges : List Edge) → map unread_edge edges ≡ map unread_edge before.graph.edges → All IsEdgeRead edges
    → IsSoundSoFar before → IsSound (with_edges before edges)
sound_filled before edges same read sound = sound_when_read (with_edges before edges) (sound_moved before edges same sound) read

pub scenario_filled : (text : List ℕ) (before : Scenario) (edges : List Edge) → map unread_edge edges ≡ map unread_edge before.graph.edges → All IsEdgeRead edges
    → TextRead RefusesLine with_said_line nothing_yet text (Ok before) → IsScenarioOf text (Ok (with_edges before edges))
scenario_filled text before edges same read lines = (Ok before, lines, (ap (λ es. with_edges before es) same, read))

-- ---- the edges one after another

edge_read : (edges : List Edge) (at : ℕ) (old new : Edge) → slice_get edges at ≡ Some old → All IsEdgeRead (take at edges) → IsEdgeRead new
    → All IsEdgeRead (take (suc at) (slice_set edges at new))
edge_read [] at old new is before read = cc
edge_read (e ∷ edges) zero old new is before read = All-cons IsEdgeRead new [] read (All-nil IsEdgeRead)
edge_read (e ∷ edges) (suc at) old new is before read =
    All-cons IsEdgeRead e (take (suc at) (slice_set edges at new)) (All-head IsEdgeRead e (take at edges) before)
    (edge_read edges at old new is (All-tail IsEdgeRead e (take at edges) before) read)

pub one_more_read : (edges : List Edge) (at : ℕ) (old new : Edge) → slice_get edges at ≡ Some old → All IsEdgeRead (take at edges) → IsEdgeRead new
    → All IsEdgeRead (take (at + 1) (slice_set edges at new))
one_more_read edges at old new is before read = rw (add-one at) (edge_read edges at old new is before read)

pub one_more_same : (edges : List Edge) (at : ℕ) (old new : Edge) → slice_get edges at ≡ Some old → unread_edge new ≡ unread_edge old
    → map unread_edge (slice_set edges at new) ≡ map unread_edge edges
one_more_same edges at old new is same = map_set_same unread_edge edges at old new is same
