-- A node's links, one after another.
use Rattle.std.proofs.Common.{◌≡◌, ℕ, ◌+◌, ◌==◌, ◌<◌, true, false, List, [], ◌∷◌, ◌++◌, Result, Ok, Err, OnOk, length, get_or, drop, refl, sym, ◌∙◌, ap, append_assoc, arith}
use Rattle.std.proofs.lemmas.Bool.Decides.{nat_tests}
use Rattle.std.proofs.lemmas.List.{drop_more}
use Rattle.node_notes.specs.declared.config.LinkConfig.{LinkConfig}
use Rattle.voe_scenario.specs.declared.graph.Edge.{Edge}
use Rattle.voe_scenario.specs.Shapes.{edges_from, link_name, links_behind}

-- what stands behind an edge gives what it gives with the edge before it
abbrev pub LeadsOn : ℕ → Edge → List LinkConfig → List ℕ → List LinkConfig → List ℕ → Type 0
LeadsOn node edge before earlier after behind =
    (rest : List Edge) → after ++ links_behind behind (edges_from node rest) ≡ before ++ links_behind earlier (edges_from node (edge ∷ rest))

same_number : (m n : ℕ) → m ≡ n → (m == n) ≡ true
same_number m n is = grind (arith, nat_tests)

other_number : (m n : ℕ) → (m ≡ n → ⊥) → (m == n) ≡ false
other_number m n isnt = grind (arith, nat_tests)

-- an edge out of the node
taken : (node : ℕ) (edge : Edge) (before after : List LinkConfig) (earlier behind : List ℕ) → (edge.upper == node) ≡ true
    → after ≡ before ++ record { name = link_name earlier edge.lower; filters = edge.texts } ∷ [] → behind ≡ earlier ++ edge.lower ∷ []
    → LeadsOn node edge before earlier after behind
taken node edge before after earlier behind own added moved =
    λ rest. rw (own, added, moved) (append_assoc before (record { name = link_name earlier edge.lower; filters = edge.texts } ∷ []) (links_behind (earlier ++ edge.lower ∷ []) (edges_from node rest)))

pub taken_where : {A E : Type 0} (answer : Result A E) (node : ℕ) (edge : Edge) (before after : List LinkConfig) (earlier behind : List ℕ) → edge.upper ≡ node
    → OnOk answer (after ≡ before ++ record { name = link_name earlier edge.lower; filters = edge.texts } ∷ []) → OnOk answer (behind ≡ earlier ++ edge.lower ∷ [])
    → OnOk answer (LeadsOn node edge before earlier after behind)
taken_where (Ok done) node edge before after earlier behind own added moved = taken node edge before after earlier behind (same_number edge.upper node own) added moved
taken_where (Err fault) node edge before after earlier behind own added moved = tt

-- an edge out of another node
pub passed : (node : ℕ) (edge : Edge) (links : List LinkConfig) (earlier : List ℕ) → (edge.upper ≡ node → ⊥) → LeadsOn node edge links earlier links earlier
passed node edge links earlier other = λ rest. rw (other_number edge.upper node other) refl

-- a turn of the loop
pub turned : (node : ℕ) (edges : List Edge) (at : ℕ) (edge : Edge) (before after : List LinkConfig) (earlier behind : List ℕ) (all : List LinkConfig)
    → at < length edges → edge ≡ get_or edges at edge → LeadsOn node edge before earlier after behind
    → before ++ links_behind earlier (edges_from node (drop at edges)) ≡ all
    → after ++ links_behind behind (edges_from node (drop (at + 1) edges)) ≡ all
turned node edges at edge before after earlier behind all within is leads so_far =
    let here : drop at edges ≡ edge ∷ drop (at + 1) edges = drop_more edges at edge within ∙ ap (λ e. e ∷ drop (at + 1) edges) (sym is) in
    leads (drop (at + 1) edges) ∙ sym (ap (λ es. before ++ links_behind earlier (edges_from node es)) here) ∙ so_far
