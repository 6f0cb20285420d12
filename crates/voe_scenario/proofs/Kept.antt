-- A line that breaks no rule keeps a scenario sound.
use Rattle.std.proofs.Common.{◌≡◌, ℕ, ◌+◌, ◌*◌, ◌-◌, ◌==◌, ◌&&◌, zero, suc, ◌<◌, ◌≤◌, true, false, IsTrue, ◌⊎◌, inl, inr, List, [], ◌∷◌, ◌++◌, Option, Some, None, Result, Ok, Err, OnOk, slice_get, slice_set, length, map, nat_lt, nat_le, refl, sym, ap, arith, length-append, length-set, subst}
use Rattle.std.proofs.lemmas.Bool.{cases_Bool, leb-true}
use Rattle.std.proofs.lemmas.Bool.Decides.{nat_tests}
use Rattle.std.proofs.lemmas.List.{length-map, map-append}
use Rattle.std.proofs.lemmas.List.Elements.{All-push, All-set, All-weaker, filter-append}
use Rattle.std.proofs.lemmas.Option.{get_or_from_slice_get, slice_get_within}
use Rattle.std.specs.List.{All, filter, list_all}
use Rattle.voe_values.specs.declared.kind.NodeKind.{NodeKind}
use Rattle.voe_values.specs.declared.kind.NodeKind.TheVariants.{Author, Broker, Subscriber}
use Rattle.voe_values.specs.Identifier.{IsIdentifier}
use Rattle.net_model.specs.declared.scenario.Edge as plain_edge
use Rattle.net_model.specs.declared.scenario.Graph as plain
use Rattle.net_model.specs.declared.scenario.Event.{Event}
use Rattle.net_model.specs.declared.scenario.Event.TheVariants.{Write, Send, Down, Up, Cut, Connect, Crash, Reopen, Stop, Drain}
use Rattle.net_model.specs.declared.scenario.Inner.{Inner}
use Rattle.net_model.specs.declared.scenario.Inner.TheVariants.{Write as InWrite, Down as InDown, Up as InUp}
use Rattle.net_model.specs.Draining.{IsProper}
use Rattle.net_model.specs.Laws.{IsA}
use Rattle.net_model.specs.Nodes.{links_of}
use Rattle.voe_packet.specs.Drafts.{fits_packet, packet_text, params_size}
use Rattle.voe_packet.specs.declared.draft.Draft.{Draft}
use Rattle.voe_scenario.specs.declared.graph.Edge.{Edge}
use Rattle.voe_scenario.specs.declared.graph.Graph.{Graph}
use Rattle.voe_scenario.specs.declared.scenario.Scenario.{Scenario}
use Rattle.voe_scenario.specs.Filters.{AreFilters, IsFilter}
use Rattle.voe_scenario.specs.Grammar.{Said, says_node, says_line, says_link, says_filter, says_packet, says_event}
use Rattle.voe_scenario.specs.Graphs.{is_kind}
use Rattle.voe_scenario.specs.Refusals.{can_write, count_texts, has_room_for_edge, is_event_named, is_inner_named, leaves_broker}
use Rattle.voe_scenario.specs.Scenarios.{nothing_yet, with_edge, with_said, with_text}
use Rattle.voe_scenario.specs.Shapes.{ends_of, shape}
use Rattle.voe_scenario.specs.Sound.{IsDrafted, IsInnerNamed, IsNamed, IsShort, IsSoundSoFar, MayHaveTexts}
use Rattle.voe_scenario.specs.Taking.{IsFitting, BringsPacket}
use Rattle.voe_scenario.specs.Words.{is_printable}
use Rattle.voe_scenario.proofs.ConfigKept.{filters_pushed, no_filters}
use Rattle.voe_scenario.proofs.Names.{IsJoined, both, is_kind-true, joins_line-true, joins_link-true}
use Rattle.voe_scenario.proofs.Spoken.{IsSpokenDraft, IsSpokenEvent, spoken}

equal : (m n : ℕ) → (m == n) ≡ true → m ≡ n
equal m n is = grind (arith, nat_tests)

below : (m n : ℕ) → nat_lt m n ≡ true → m < n
below m n is = grind (arith, nat_tests)

pushed : {A : Type 0} (xs : List A) (x : A) (n : ℕ) → nat_lt (length xs) n ≡ true → length (xs ++ x ∷ []) ≤ n
pushed xs x n is = let room = below (length xs) n is in omega (arith, length-append xs (x ∷ []))

no_event : (n : ℕ) → nat_lt 0 n ≡ false → n ≡ 0
no_event n is = grind (arith, nat_tests)

-- without elements anything holds of each
all_of_none : {A : Type 0} (P : A → Type 0) (xs : List A) → length xs ≡ 0 → All P xs
all_of_none P xs none = λ k d within. absurd (omega arith)

-- ---- nodes and edges

-- a node stays where it is when another follows
kind_pushed : (nodes : List NodeKind) (kind found : NodeKind) (at : ℕ) → slice_get nodes at ≡ Some found → slice_get (nodes ++ kind ∷ []) at ≡ Some found
kind_pushed [] kind found at is = cc
kind_pushed (node ∷ nodes) kind found zero is = is
kind_pushed (node ∷ nodes) kind found (suc at) is = kind_pushed nodes kind found at is

joined_pushed : (nodes : List NodeKind) (kind : NodeKind) (edge : plain_edge.Edge) → IsJoined nodes edge → IsJoined (nodes ++ kind ∷ []) edge
joined_pushed nodes kind edge (inl ends) =
    inl (kind_pushed nodes kind Author edge.upper ends.0, kind_pushed nodes kind Broker edge.lower ends.1)
joined_pushed nodes kind edge (inr ends) =
    let lower : (slice_get (nodes ++ kind ∷ []) edge.lower ≡ Some Broker) ⊎ (slice_get (nodes ++ kind ∷ []) edge.lower ≡ Some Subscriber) =
    elim (ends.1) [
      | inl a ↦ inl (kind_pushed nodes kind Broker edge.lower a)
      | inr b ↦ inr (kind_pushed nodes kind Subscriber edge.lower b)
    ] in
    inr (kind_pushed nodes kind Broker edge.upper ends.0, lower)

-- an element is one of those before, or the last
pushed_get : {A : Type 0} (xs : List A) (x : A) (at : ℕ) (y : A) → slice_get (xs ++ x ∷ []) at ≡ Some y → (slice_get xs at ≡ Some y) ⊎ (y ≡ x)
pushed_get [] x zero y is = inr (cc)
pushed_get [] x (suc at) y is = cc
pushed_get (z ∷ xs) x zero y is = inl is
pushed_get (z ∷ xs) x (suc at) y is = pushed_get xs x at y is

-- the plain graph with one edge more
abbrev one_more : plain.Graph → plain_edge.Edge → plain.Graph
one_more graph edge = record graph { edges = graph.edges ++ edge ∷ [] }

proper_edge : (graph : plain.Graph) (edge : plain_edge.Edge) → IsProper graph → IsJoined graph.nodes edge → IsProper (one_more graph edge)
proper_edge graph edge proper joined = record {
  ends = λ e found is. elim (pushed_get graph.edges edge e found is) [
    | inl before ↦ proper.ends e found before
    | inr same ↦ rw same joined
  ];
  window = proper.window;
}

proper_node : (graph : plain.Graph) (kind : NodeKind) → IsProper graph → IsProper (record graph { nodes = graph.nodes ++ kind ∷ [] })
proper_node graph kind proper = record {
  ends = λ e found is. joined_pushed graph.nodes kind found (proper.ends e found is);
  window = proper.window;
}

-- one more at the edge's upper node, and as many as before at any other
links_kept : (graph : plain.Graph) (edge : plain_edge.Edge) (n : ℕ) → links_of graph n ≤ 64 → links_of graph edge.upper < 64
    → links_of (one_more graph edge) n ≤ 64
links_kept graph edge n few room =
    let own : edge.upper ≡ n → links_of graph n < 64 = λ same. rw (← same) room in
    let one : length (filter (λ other. other.upper == n) (edge ∷ [])) ≤ 64 - links_of graph n =
    elim (cases_Bool (edge.upper == n)) [
      | inl is ↦ let free = own (equal edge.upper n is) in rw is (omega arith)
      | inr isnt ↦ rw isnt (omega arith)
    ] in
    rw (filter-append (λ other. other.upper == n) graph.edges (edge ∷ []))
    (omega (arith, length-append (filter (λ other. other.upper == n) graph.edges) (filter (λ other. other.upper == n) (edge ∷ []))))

abbrev new_edge : ℕ → ℕ → Edge
new_edge upper lower = record { upper = upper; lower = lower; filters = []; texts = [] }

shape_pushed : (graph : Graph) (upper lower : ℕ)
    → shape (record graph { edges = graph.edges ++ new_edge upper lower ∷ [] }) ≡ one_more (shape graph) (record { upper = upper; lower = lower })
shape_pushed graph upper lower =
    ap (λ es. record { nodes = graph.nodes; edges = es; window = graph.window }) (map-append ends_of graph.edges (new_edge upper lower ∷ []))

edge_kept : (before : Scenario) (upper lower : ℕ) → IsSoundSoFar before → nat_lt 0 (length before.events) ≡ false
    → IsJoined before.graph.nodes (record { upper = upper; lower = lower }) → has_room_for_edge before.graph upper ≡ true
    → IsSoundSoFar (with_edge before upper lower)
edge_kept before upper lower sound placed joined within =
    let parts = both (nat_lt (length before.graph.edges) 256) (nat_lt (links_of (shape before.graph) upper) 64) within in
    let edge : plain_edge.Edge = record { upper = upper; lower = lower } in
    let is = sym (shape_pushed before.graph upper lower) in
    let after = with_edge before upper lower in
    record {
      nodes = sound.nodes;
      edges = pushed before.graph.edges (new_edge upper lower) 256 parts.0;
      links = λ n. subst (λ g. links_of g n ≤ 64) is (links_kept (shape before.graph) edge n (sound.links n) (below (links_of (shape before.graph) upper) 64 parts.1));
      packets = sound.packets;
      events = sound.events;
      window = sound.window;
      proper = subst IsProper is (proper_edge (shape before.graph) edge sound.proper joined);
      filters = All-push (λ e. AreFilters e.texts) before.graph.edges (new_edge upper lower) sound.filters no_filters;
      bare = All-push (MayHaveTexts after.graph) before.graph.edges (new_edge upper lower) sound.bare (inl refl);
      named = all_of_none (IsNamed (shape after.graph) after.packets) before.events (no_event (length before.events) placed);
      short = sound.short;
      drafted = sound.drafted;
    }

node_kept : (before : Scenario) (kind : NodeKind) → IsSoundSoFar before → nat_lt 0 (length before.events) ≡ false
    → nat_lt (length before.graph.nodes) 64 ≡ true → IsSoundSoFar (with_said before (says_node kind))
node_kept before kind sound placed within =
    let after = with_said before (says_node kind) in
    let bare : (e : Edge) → MayHaveTexts before.graph e → MayHaveTexts after.graph e = λ e may. elim may [
      | inl none ↦ inl none
      | inr broker ↦ inr (kind_pushed before.graph.nodes kind Broker e.upper broker)
    ] in
    record {
      nodes = pushed before.graph.nodes kind 64 within;
      edges = sound.edges;
      links = sound.links;
      packets = sound.packets;
      events = sound.events;
      window = sound.window;
      proper = proper_node (shape before.graph) kind sound.proper;
      filters = sound.filters;
      bare = All-weaker (MayHaveTexts before.graph) (MayHaveTexts after.graph) bare before.graph.edges sound.bare;
      named = all_of_none (IsNamed (shape after.graph) after.packets) before.events (no_event (length before.events) placed);
      short = sound.short;
      drafted = sound.drafted;
    }

-- ---- filters

-- a list whose image doesn't change
pub map_set_same : {A B : Type 0} (f : A → B) (xs : List A) (at : ℕ) (x y : A) → slice_get xs at ≡ Some x → f y ≡ f x → map f (slice_set xs at y) ≡ map f xs
map_set_same f [] at x y is same = refl
map_set_same f (z ∷ xs) zero x y is same = let found : z ≡ x = cc in rw (same, found) refl
map_set_same f (z ∷ xs) (suc at) x y is same = ap (λ es. f z ∷ es) (map_set_same f xs at x y is same)

-- what holds of each holds of this one
of_found : {A : Type 0} (P : A → Type 0) (xs : List A) (at : ℕ) (x : A) → slice_get xs at ≡ Some x → All P xs → P x
of_found P xs at x is all = subst P (get_or_from_slice_get xs at x x is) (all at x (slice_get_within xs at x is))

text_kept : (before : Scenario) (at : ℕ) (text : List ℕ) (found : Option Edge) → slice_get before.graph.edges at ≡ found → IsSoundSoFar before
    → nat_lt 0 (length before.events) ≡ false → leaves_broker before.graph.nodes found ≡ true
    → (0 < length text) × (list_all is_printable text ≡ true) → (nat_le (length text) 1024 && nat_lt (count_texts found) 16) ≡ true → IsFilter text
    → IsSoundSoFar (record before { graph = record before.graph { edges = with_text before.graph.edges at text found } })
text_kept before at text None is sound placed leaves some within reads = sound
text_kept before at text (Some edge) is sound placed leaves some within reads =
    let parts = both (nat_le (length text) 1024) (nat_lt (length edge.texts) 16) within in
    let more : Edge = record edge { texts = edge.texts ++ text ∷ [] } in
    let room = below (length edge.texts) 16 parts.1 in
    let after : Scenario = record before { graph = record before.graph { edges = slice_set before.graph.edges at more } } in
    let same : map ends_of (slice_set before.graph.edges at more) ≡ map ends_of before.graph.edges = map_set_same ends_of before.graph.edges at edge more is refl in
    let shaped : shape before.graph ≡ shape after.graph = ap (λ es. record { nodes = before.graph.nodes; edges = es; window = before.graph.window }) (sym same) in
    let broker = is_kind-true before.graph.nodes edge.upper Broker leaves in
    record {
      nodes = sound.nodes;
      edges = rw length-set sound.edges;
      links = λ n. subst (λ g. links_of g n ≤ 64) shaped (sound.links n);
      packets = sound.packets;
      events = sound.events;
      window = sound.window;
      proper = subst IsProper shaped sound.proper;
      filters = All-set (λ e. AreFilters e.texts) before.graph.edges at more
          (filters_pushed edge.texts text (of_found (λ e. AreFilters e.texts) before.graph.edges at edge is sound.filters) (omega arith) some (leb-true (length text) 1024 parts.0) reads)
          sound.filters;
      bare = All-set (MayHaveTexts after.graph) before.graph.edges at more (inr broker) sound.bare;
      named = all_of_none (IsNamed (shape after.graph) after.packets) before.events (no_event (length before.events) placed);
      short = sound.short;
      drafted = sound.drafted;
    }

-- ---- packets and events

packet_kept : (before : Scenario) (draft : Draft) → IsSoundSoFar before → nat_lt 0 (length before.events) ≡ false
    → nat_lt (length before.packets) 1024 ≡ true → IsShort (packet_text draft) → IsDrafted (packet_text draft) → IsSoundSoFar (with_said before (says_packet draft))
packet_kept before draft sound placed within short drafted =
    let after = with_said before (says_packet draft) in
    record {
      nodes = sound.nodes;
      edges = sound.edges;
      links = sound.links;
      packets = pushed before.packets (packet_text draft) 1024 within;
      events = sound.events;
      window = sound.window;
      proper = sound.proper;
      filters = sound.filters;
      bare = sound.bare;
      named = all_of_none (IsNamed (shape after.graph) after.packets) before.events (no_event (length before.events) placed);
      short = All-push IsShort before.packets (packet_text draft) sound.short short;
      drafted = All-push IsDrafted before.packets (packet_text draft) sound.drafted drafted;
    }

event_kept : (before : Scenario) (event : Event) → IsSoundSoFar before → IsNamed (shape before.graph) before.packets event
    → nat_lt (length before.events) 1000000 ≡ true → IsSoundSoFar (with_said before (says_event event))
event_kept before event sound named within = record {
  nodes = sound.nodes;
  edges = sound.edges;
  links = sound.links;
  packets = sound.packets;
  events = pushed before.events event 1000000 within;
  window = sound.window;
  proper = sound.proper;
  filters = sound.filters;
  bare = sound.bare;
  named = All-push (IsNamed (shape before.graph) before.packets) before.events event sound.named named;
  short = sound.short;
  drafted = sound.drafted;
}

edge_named : (before : Scenario) (edge : ℕ) → nat_lt edge (length before.graph.edges) ≡ true → edge < length (shape before.graph).edges
edge_named before edge is = rw (length-map before.graph.edges ends_of) (below edge (length before.graph.edges) is)

write_named : (before : Scenario) (author packet : ℕ) → can_write before author packet ≡ true → (IsA (shape before.graph) author Author) × (packet < length before.packets)
write_named before author packet is =
    let parts = both (is_kind before.graph.nodes author Author) (nat_lt packet (length before.packets)) is in
    (is_kind-true before.graph.nodes author Author parts.0, below packet (length before.packets) parts.1)

inner_named : (before : Scenario) (inner : Inner) → is_inner_named before inner ≡ true → IsInnerNamed (shape before.graph) before.packets inner
inner_named before (InWrite author packet) is = write_named before author packet is
inner_named before (InDown edge) is = edge_named before edge is
inner_named before (InUp edge) is = edge_named before edge is

event_named : (before : Scenario) (event : Event) → is_event_named before event ≡ true → IsSpokenEvent event → IsNamed (shape before.graph) before.packets event
event_named before (Write author packet) is said = write_named before author packet is
event_named before (Send edge) is said = edge_named before edge is
event_named before (Down edge) is said = edge_named before edge is
event_named before (Up edge) is said = edge_named before edge is
event_named before (Cut edge) is said = edge_named before edge is
event_named before (Connect edge) is said = edge_named before edge is
event_named before (Crash node) is said = below node (length before.graph.nodes) is
event_named before (Reopen node) is said = below node (length before.graph.nodes) is
event_named before (Stop calls fill inner) is said = (said.0, said.1, inner_named before inner is)
event_named before Drain is said = tt

-- ---- a line

-- a draft of short texts fits, every packet has bytes, and what a draft is written as is bounded by its texts
pub record PacketsAreBounded : Type 0 where
  pub fits : (d : Draft) → length d.identifier + params_size d.params ≤ 4096 → length d.params ≤ 64 → d.citations ≡ [] → IsTrue (fits_packet d)
  pub some : (d : Draft) → 0 < length (packet_text d)
  pub bound : (d : Draft) → d.citations ≡ [] → length (packet_text d) ≤ 131 + 6 * length d.identifier + 25 * length d.params + 6 * params_size d.params

short_packet : PacketsAreBounded → (line : List ℕ) (draft : Draft) → IsSpokenDraft line draft → length line ≤ 2048 → length draft.params ≤ 64 → IsShort (packet_text draft)
short_packet bounded line draft said short few =
    let bound = bounded.bound draft said.uncited in
    let size = said.size in
    (bounded.some draft, omega arith)

drafted_packet : PacketsAreBounded → (line : List ℕ) (draft : Draft) → IsSpokenDraft line draft → IsIdentifier draft.identifier → length line ≤ 2048 → length draft.params ≤ 64
    → IsDrafted (packet_text draft)
drafted_packet bounded line draft said identified short few =
    let size = said.size in
    let none = said.uncited in
    record {
      draft = draft;
      identifiers = rw (identified, none) refl;
      texts = said.texts;
      fits = bounded.fits draft (omega arith) few none;
      written = refl;
    }

pub kept : PacketsAreBounded → (before : Scenario) (line : List ℕ) (said : Said) → IsSoundSoFar before → IsFitting before line said → IsSoundSoFar (with_said before said)
kept bounded before line (says_node kind) sound fitting = node_kept before kind sound fitting.stands.placed fitting.stands.within
kept bounded before line (says_line upper lower) sound fitting =
    edge_kept before upper lower sound fitting.stands.placed (joins_line-true before.graph.nodes (record { upper = upper; lower = lower }) fitting.stands.named) fitting.stands.within
kept bounded before line (says_link upper lower) sound fitting =
    edge_kept before upper lower sound fitting.stands.placed (joins_link-true before.graph.nodes (record { upper = upper; lower = lower }) fitting.stands.named) fitting.stands.within
kept bounded before line (says_filter edge text) sound fitting =
    text_kept before edge text (slice_get before.graph.edges edge) refl sound fitting.stands.placed fitting.stands.named
    (spoken line (says_filter edge text) fitting.says) fitting.stands.within fitting.reads
kept bounded before line (says_packet draft) sound fitting =
    let parts = both (nat_le (length draft.identifier) 512 && nat_le (length draft.params) 64) (nat_lt (length before.packets) 1024) fitting.stands.within in
    let few = both (nat_le (length draft.identifier) 512) (nat_le (length draft.params) 64) parts.0 in
    let said = spoken line (says_packet draft) fitting.says in
    let params = leb-true (length draft.params) 64 few.1 in
    packet_kept before draft sound fitting.stands.placed parts.1 (short_packet bounded line draft said fitting.stands.short params)
    (drafted_packet bounded line draft said fitting.stands.identified fitting.stands.short params)
kept bounded before line (says_event event) sound fitting =
    event_kept before event sound (event_named before event fitting.stands.named (spoken line (says_event event) fitting.says)) fitting.stands.within

-- what was added, where something was, keeps the scenario sound
pub kept_where : {A E : Type 0} (answer : Result A E) → PacketsAreBounded → (before after : Scenario) (line : List ℕ) (said : Said)
    → IsSoundSoFar before → IsFitting before line said → OnOk answer (after ≡ with_said before said) → OnOk answer (IsSoundSoFar after)
kept_where (Ok done) bounded before after line said sound fitting added = rw added (kept bounded before line said sound fitting)
kept_where (Err fault) bounded before after line said sound fitting added = tt

-- the packet that a line brings may be written
pub brings_packet : (before : Scenario) (line : List ℕ) (said : Said) → IsFitting before line said → BringsPacket said
brings_packet before line (says_node kind) fitting = tt
brings_packet before line (says_line upper lower) fitting = tt
brings_packet before line (says_link upper lower) fitting = tt
brings_packet before line (says_filter edge text) fitting = tt
brings_packet before line (says_packet draft) fitting =
    let said = spoken line (says_packet draft) fitting.says in
    record { identifier = fitting.stands.identified; texts = said.texts }
brings_packet before line (says_event event) fitting = tt

pub nothing_sound : IsSoundSoFar nothing_yet
nothing_sound = record {
  nodes = omega arith;
  edges = omega arith;
  links = λ n. omega arith;
  packets = omega arith;
  events = omega arith;
  window = refl;
  proper = record { ends = λ e edge is. absurd (cc); window = omega arith };
  filters = λ k d h. absurd (omega arith);
  bare = λ k d h. absurd (omega arith);
  named = λ k d h. absurd (omega arith);
  short = λ k d h. absurd (omega arith);
  drafted = λ k d h. absurd (omega arith);
}
