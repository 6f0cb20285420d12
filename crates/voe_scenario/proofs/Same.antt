-- What two scenarios that differ in their filters alone have in common.
use Rattle.std.proofs.Common.{◌≡◌, ℕ, ◌==◌, Bool, true, false, cond, List, [], ◌∷◌, ◌++◌, Option, Result, Ok, Err, map, refl, sym, ◌∙◌, ap}
use Rattle.std.specs.List.{filter}
use Rattle.voe_scenario.specs.declared.graph.Edge.{Edge}
use Rattle.voe_scenario.specs.declared.scenario.Scenario.{Scenario}
use Rattle.voe_scenario.specs.Grammar.{said_of}
use Rattle.voe_scenario.specs.Lines.{Refusal}
use Rattle.voe_scenario.specs.Refusals.{RefusesLine, filter_brought, scenario_rules}
use Rattle.voe_scenario.specs.Scenarios.{AreAlike, IsAlike, IsFilled, IsScenarioOf, nothing_yet, unread, unread_edge, with_said_line}
use Rattle.voe_scenario.specs.Shapes.{config_of, ends_of, link_name, links_behind, shape}
use Rattle.voe_scenario.proofs.Once.{least_once, text_once}

-- the ends of unread edges are the same
pub ends_unread : (edges : List Edge) → map ends_of (map unread_edge edges) ≡ map ends_of edges
ends_unread [] = refl
ends_unread (edge ∷ edges) = ap (λ es. ends_of edge ∷ es) (ends_unread edges)

shape_unread : (scenario : Scenario) → shape (unread scenario).graph ≡ shape scenario.graph
shape_unread scenario = ap (λ es. record { nodes = scenario.graph.nodes; edges = es; window = scenario.graph.window }) (ends_unread scenario.graph.edges)

-- and so are their links
links_unread : (earlier : List ℕ) (node : ℕ) (edges : List Edge)
    → links_behind earlier (filter (λ edge. edge.upper == node) (map unread_edge edges)) ≡ links_behind earlier (filter (λ edge. edge.upper == node) edges)
links_unread earlier node [] = refl
links_unread earlier node (edge ∷ edges) =
    let choose : (b : Bool) →
    links_behind earlier (cond b (unread_edge edge ∷ filter (λ e. e.upper == node) (map unread_edge edges)) (filter (λ e. e.upper == node) (map unread_edge edges)))
    ≡ links_behind earlier (cond b (edge ∷ filter (λ e. e.upper == node) edges) (filter (λ e. e.upper == node) edges))
    = λ b. elim b as (λ b.
    links_behind earlier (cond b (unread_edge edge ∷ filter (λ e. e.upper == node) (map unread_edge edges)) (filter (λ e. e.upper == node) (map unread_edge edges)))
    ≡ links_behind earlier (cond b (edge ∷ filter (λ e. e.upper == node) edges) (filter (λ e. e.upper == node) edges))) [
      | true ↦ ap (λ ls. record { name = link_name earlier edge.lower; filters = edge.texts } ∷ ls) (links_unread (earlier ++ edge.lower ∷ []) node edges)
      | false ↦ links_unread earlier node edges
    ] in
    choose (edge.upper == node)

config_unread : (scenario : Scenario) (node : ℕ) → config_of (unread scenario).graph node ≡ config_of scenario.graph node
config_unread scenario node =
    ap (λ ls. record (config_of scenario.graph node) { links = ls }) (links_unread [] node scenario.graph.edges)

alike : (a b : Scenario) → unread a ≡ unread b → IsAlike a b
alike a b same = record {
  shape = sym (shape_unread a) ∙ ap (λ s. shape s.graph) same ∙ shape_unread b;
  config = λ node. sym (config_unread a node) ∙ ap (λ s. config_of s.graph node) same ∙ config_unread b node;
  packets = ap (λ s. s.packets) same;
  events = ap (λ s. s.events) same;
}

filled_once : (said told : Result Scenario Refusal) → said ≡ told → (a b : Result Scenario Refusal) → IsFilled said a → IsFilled told b → AreAlike a b
filled_once (Ok s) (Ok t) same (Ok a) (Ok b) first second =
    let unreads : unread s ≡ unread t = ap unread_result same in
    alike a b (first.0 ∙ unreads ∙ sym second.0)
  where
    unread_result : Result Scenario Refusal → Scenario
    unread_result (Ok x) = unread x
    unread_result (Err r) = unread nothing_yet
filled_once (Err r) (Err q) same (Err a) (Err b) first second = cc
filled_once (Ok s) (Err q) same a b first second = cc
filled_once (Err r) (Ok t) same a b first second = cc
filled_once (Ok s) (Ok t) same (Err a) b first second = absurd first
filled_once (Ok s) (Ok t) same (Ok a) (Err b) first second = absurd second
filled_once (Err r) (Err q) same (Ok a) b first second = absurd first
filled_once (Err r) (Err q) same (Err a) (Ok b) first second = absurd second

line_once : (before : Scenario) (line : List ℕ) (p q : Option ℕ) → RefusesLine before line p → RefusesLine before line q → p ≡ q
line_once before line p q = least_once (scenario_rules before line (said_of line)) (filter_brought (said_of line)) p q

pub scenario_once : (text : List ℕ) (a b : Result Scenario Refusal) → IsScenarioOf text a → IsScenarioOf text b → AreAlike a b
scenario_once text a b first second =
    filled_once first.0 second.0 (text_once RefusesLine with_said_line line_once nothing_yet text first.0 second.0 first.1 second.1) a b first.2 second.2
