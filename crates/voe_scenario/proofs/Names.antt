-- What the numbers of a line name.
use Rattle.std.proofs.Common.{◌≡◌, ℕ, ◌<◌, Bool, true, false, ◌&&◌, ◌||◌, ◌⊎◌, inl, inr, List, Option, Some, None, slice_get, length, refl, ap}
use Rattle.std.proofs.lemmas.Bool.{false≢true}
use Rattle.std.proofs.lemmas.Option.{slice_get_within}
use Rattle.voe_values.specs.declared.kind.NodeKind.{NodeKind}
use Rattle.voe_values.specs.declared.kind.NodeKind.TheVariants.{Author, Broker, Subscriber}
use Rattle.net_model.specs.declared.scenario.Edge.{Edge}
use Rattle.voe_scenario.specs.declared.graph.Edge as filtered
use Rattle.voe_scenario.specs.Refusals.{leaves_broker}
use Rattle.voe_scenario.specs.Graphs.{same_kind, kind_is, is_kind, joins_line, joins_link}

-- an edge leads from an author to a broker, or from a broker to a broker or a subscriber
abbrev pub IsJoined : List NodeKind → Edge → Type 0
IsJoined nodes edge =
    ((slice_get nodes edge.upper ≡ Some Author) × (slice_get nodes edge.lower ≡ Some Broker))
    ⊎ ((slice_get nodes edge.upper ≡ Some Broker)
    × ((slice_get nodes edge.lower ≡ Some Broker) ⊎ (slice_get nodes edge.lower ≡ Some Subscriber)))

-- both of two tests hold
pub both : (a b : Bool) → (a && b) ≡ true → (a ≡ true) × (b ≡ true)
both true true is = (refl, refl)
both true false is = absurd (false≢true is)
both false b is = absurd (false≢true is)

-- one of two tests holds
pub either : (a b : Bool) → (a || b) ≡ true → (a ≡ true) ⊎ (b ≡ true)
either true b is = inl refl
either false true is = inr refl
either false false is = absurd (false≢true is)

same_kind-true : (found kind : NodeKind) → same_kind found kind ≡ true → found ≡ kind
same_kind-true Author Author is = refl
same_kind-true Broker Broker is = refl
same_kind-true Subscriber Subscriber is = refl
same_kind-true Author Broker is = absurd (false≢true is)
same_kind-true Author Subscriber is = absurd (false≢true is)
same_kind-true Broker Author is = absurd (false≢true is)
same_kind-true Broker Subscriber is = absurd (false≢true is)
same_kind-true Subscriber Author is = absurd (false≢true is)
same_kind-true Subscriber Broker is = absurd (false≢true is)

kind_is-true : (found : Option NodeKind) (kind : NodeKind) → kind_is found kind ≡ true → found ≡ Some kind
kind_is-true None kind is = absurd (false≢true is)
kind_is-true (Some found) kind is = ap Some (same_kind-true found kind is)

pub is_kind-true : (nodes : List NodeKind) (at : ℕ) (kind : NodeKind) → is_kind nodes at kind ≡ true → slice_get nodes at ≡ Some kind
unfolding is_kind
is_kind-true nodes at kind is = kind_is-true (slice_get nodes at) kind is

-- a named node is one of the nodes
pub named_below : (nodes : List NodeKind) (at : ℕ) (kind : NodeKind) → is_kind nodes at kind ≡ true → at < length nodes
named_below nodes at kind is = slice_get_within nodes at kind (is_kind-true nodes at kind is)

pub joins_line-true : (nodes : List NodeKind) (edge : Edge) → joins_line nodes edge.upper edge.lower ≡ true → IsJoined nodes edge
joins_line-true nodes edge is =
    let ends = both (is_kind nodes edge.upper Author) (is_kind nodes edge.lower Broker) is in
    inl (is_kind-true nodes edge.upper Author ends.0, is_kind-true nodes edge.lower Broker ends.1)

pub joins_link-true : (nodes : List NodeKind) (edge : Edge) → joins_link nodes edge.upper edge.lower ≡ true → IsJoined nodes edge
joins_link-true nodes edge is =
    let ends = both (is_kind nodes edge.upper Broker) (is_kind nodes edge.lower Broker || is_kind nodes edge.lower Subscriber) is in
    let lower : (slice_get nodes edge.lower ≡ Some Broker) ⊎ (slice_get nodes edge.lower ≡ Some Subscriber) =
    elim (either (is_kind nodes edge.lower Broker) (is_kind nodes edge.lower Subscriber) ends.1) [
      | inl a ↦ inl (is_kind-true nodes edge.lower Broker a)
      | inr b ↦ inr (is_kind-true nodes edge.lower Subscriber b)
    ] in
    inr (is_kind-true nodes edge.upper Broker ends.0, lower)

-- the two ends of a line or a link are nodes
pub line_below : (nodes : List NodeKind) (upper lower : ℕ) → joins_line nodes upper lower ≡ true → (upper < length nodes) × (lower < length nodes)
line_below nodes upper lower is =
    let ends = both (is_kind nodes upper Author) (is_kind nodes lower Broker) is in
    (named_below nodes upper Author ends.0, named_below nodes lower Broker ends.1)

pub link_below : (nodes : List NodeKind) (upper lower : ℕ) → joins_link nodes upper lower ≡ true → (upper < length nodes) × (lower < length nodes)
link_below nodes upper lower is =
    let ends = both (is_kind nodes upper Broker) (is_kind nodes lower Broker || is_kind nodes lower Subscriber) is in
    let low : lower < length nodes =
    elim (either (is_kind nodes lower Broker) (is_kind nodes lower Subscriber) ends.1) [
      | inl a ↦ named_below nodes lower Broker a
      | inr b ↦ named_below nodes lower Subscriber b
    ] in
    (named_below nodes upper Broker ends.0, low)

-- an edge that leads from a broker is one of the edges
found_within : (nodes : List NodeKind) (edges : List filtered.Edge) (at : ℕ) (found : Option filtered.Edge) → slice_get edges at ≡ found → leaves_broker nodes found ≡ true → at < length edges
found_within nodes edges at None is leaves = absurd (false≢true leaves)
found_within nodes edges at (Some edge) is leaves = slice_get_within edges at edge is

pub leaves_within : (nodes : List NodeKind) (edges : List filtered.Edge) (at : ℕ) → leaves_broker nodes (slice_get edges at) ≡ true → at < length edges
leaves_within nodes edges at leaves = found_within nodes edges at (slice_get edges at) refl leaves
