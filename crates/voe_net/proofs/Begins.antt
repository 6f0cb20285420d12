-- What holds where nodes were made on all disks.
use Rattle.std.proofs.Common.{◌≡◌, ℕ, zero, suc, ◌+◌, ◌<◌, Bool, true, false, List, [], ◌∷◌, ◌++◌, Some, length, get_or, refl, sym, ◌∙◌, ap, arith}
use Rattle.std.specs.Prelude.{Option, cond, filter, map, slice_get, ◌==◌}
use Rattle.std.proofs.lemmas.Option.{slice_get-get_or, slice_get_within}
use Rattle.voe_disk.specs.declared.disk.Disk.{Ghosts}
use Rattle.voe_values.specs.declared.kind.NodeKind.{NodeKind}
use Rattle.voe_values.specs.declared.kind.NodeKind.TheVariants.{Author, Broker, Subscriber}
use Rattle.net_model.specs.declared.scenario.Graph as net
use Rattle.net_model.specs.declared.state.Node.{Node}
use Rattle.net_model.specs.Nodes.{edges_of, links_of}
use Rattle.net_model.specs.Runs.{first_node, first_nodes}
use Rattle.node_notes.specs.declared.config.LinkConfig.{LinkConfig}
use Rattle.node_book.specs.Ends.{EndView}
use Rattle.net_machine.specs.AtEnds.{AllTell, counts_of}
use Rattle.net_machine.specs.Ends as net_ends
use Rattle.net_machine.specs.Parts.{IsOwn, Slot, configs_of, node_of, slot_of, slots_of}
use Rattle.net_machine.specs.declared.seat.Seat.{Seat}
use Rattle.voe_scenario.specs.declared.graph.Edge.{Edge}
use Rattle.voe_scenario.specs.declared.graph.Graph.{Graph}
use Rattle.voe_scenario.specs.Shapes.{config_of, edges_from, ends_of, links_behind, shape}
use Rattle.voe_net.specs.Begun.{AreBegun, IsConfigurable}
use Rattle.voe_net.specs.Networks.{AreOwn}
use Rattle.voe_net.specs.Nodes.{IsBegun, TellsCrash, faults_of, first_sessions, first_view, show}
use Rattle.voe_net.specs.Starting.{AllTellImages, AreConfigsOf}
use Rattle.voe_net.proofs.Eaches.{each-maps, each-weaken, get-there, lists-same, map-found, map-length, some-same}

links-length : (earlier : List ℕ) (edges : List Edge) → length (links_behind earlier edges) ≡ length edges
links-length earlier [] = refl
links-length earlier (edge ∷ edges) = omega (arith, links-length (earlier ++ edge.lower ∷ []) edges)

filter-map : {X Y : Type 0} (f : X → Y) (p : Y → Bool) (xs : List X) → length (filter p (map f xs)) ≡ length (filter (λ x. p (f x)) xs)
filter-map f p [] = refl
filter-map f p (x ∷ xs) = by-test (p (f x)) (filter-map f p xs)
  where
    by-test : (b : Bool) → length (filter p (map f xs)) ≡ length (filter (λ y. p (f y)) xs)
        → length (cond b (f x ∷ filter p (map f xs)) (filter p (map f xs))) ≡ length (cond b (x ∷ filter (λ y. p (f y)) xs) (filter (λ y. p (f y)) xs))
    by-test true rest = omega arith
    by-test false rest = rest

config-links : (graph : Graph) (n : ℕ) → length (config_of graph n).links ≡ links_of (shape graph) n
config-links graph n = links-length [] (edges_from n graph.edges) ∙ sym (filter-map ends_of (λ edge. edge.upper == n) graph.edges)

-- a node as it is made
abbrev pub made-slot : Graph → ℕ → Slot
made-slot graph n = record { up = true; view = first_view (config_of graph n) }

-- the node of this number is as it was made
module _ {D : Type 0} (disk : Ghosts D) (graph : Graph) (disks : List D) (seats : List (Seat (Option (EndView D)))) (begun : AreBegun disk graph disks seats) where
  pub begun-at : (n : ℕ) (seat : Seat (Option (EndView D))) → slice_get seats n ≡ Some seat → (own : D) × (slice_get disks n ≡ Some own) × (seat.up ≡ true) × IsBegun disk (config_of graph n) own seat.end
  begun-at n seat at =
      let own = get-there disks n (omega (arith, slice_get_within seats n seat at, begun.same)) in
      let one = begun.each n own.0 seat own.1 at in
      (own.0, own.1, one.0, one.1)

  pub slot-begun : (n : ℕ) (slot : Slot) → slice_get (slots_of show seats) n ≡ Some slot → (slot ≡ made-slot graph n) × (n < length disks)
  slot-begun n slot at =
      let seat = map-found (slot_of show) seats n slot at in
      let one = begun-at n seat.0 seat.1 in
      (seat.2 ∙ as-made seat.0.up (show seat.0.end) one.2 one.3.shown, slice_get_within disks n one.0 one.1)
    where
      as-made : (up : Bool) (view : net_ends.EndView) → up ≡ true → view ≡ first_view (config_of graph n)
          → ◌≡◌ {A = Slot} (record { up = up; view = view }) (made-slot graph n)
      as-made up view here shown = rw (here, shown) refl

  module _ (count : length disks ≡ length graph.nodes) where
    pub own-begun : (n : ℕ) (slot : Slot) → slice_get (slots_of show seats) n ≡ Some slot → IsOwn (shape graph) n slot.view.config
    own-begun n slot at =
        let is = slot-begun n slot at in
        rw is.0 (record { kind = slice_get-get_or graph.nodes n Subscriber (omega (arith, is.1, count)); links = config-links graph n })

    pub all-own : IsConfigurable graph → AreOwn (shape graph) (slots_of show seats)
    all-own configurable = record {
      nodes = map-length (slot_of show) seats ∙ begun.same ∙ count;
      own = own-begun;
      forms = λ n slot at. let is = slot-begun n slot at in rw is.0 (configurable.forms n (omega (arith, is.1, count)));
    }

    pub configs-begun : AreConfigsOf graph (configs_of (slots_of show seats))
    configs-begun = record {
      same = map-length (λ slot. slot.view.config) (slots_of show seats) ∙ map-length (slot_of show) seats ∙ begun.same ∙ count;
      each = λ n config at.
          let slot = map-found (λ one. one.view.config) (slots_of show seats) n config at in
          slot.2 ∙ ap (λ one. one.view.config) (slot-begun n slot.0 slot.1).0;
    }

  pub told-begun : AllTellImages disk disks → AllTell (TellsCrash disk) seats
  told-begun tells n seat at = let one = begun-at n seat at in one.3.told (tells n one.0 one.1)

  pub counts-begun : counts_of (faults_of disk) seats ≡ map disk.faults disks
  counts-begun = each-maps disk.faults (λ seat. faults_of disk seat.end) disks seats
      (each-weaken (λ n own seat. (seat.up ≡ true) × IsBegun disk (config_of graph n) own seat.end) (λ n own seat. faults_of disk seat.end ≡ disk.faults own) disks seats begun
      (λ n own seat one. one.1.same_count))

first-length : (graph : net.Graph) (k : ℕ) (kinds : List NodeKind) → length (first_nodes graph k kinds) ≡ length kinds
first-length graph k [] = refl
first-length graph k (kind ∷ kinds) = omega (arith, first-length graph (k + 1) kinds)

first-get : (graph : net.Graph) (k : ℕ) (kinds : List NodeKind) (n : ℕ) (kind : NodeKind) → slice_get kinds n ≡ Some kind
    → slice_get (first_nodes graph k kinds) n ≡ Some (first_node graph (k + n) kind)
first-get graph k [] n kind h = cc
first-get graph k (first ∷ kinds) zero kind h = let same : first ≡ kind = some-same first kind h in let none : k + 0 ≡ k = omega arith in rw (same, none) refl
first-get graph k (first ∷ kinds) (suc n) kind h =
    let next : (k + 1) + n ≡ k + suc n = omega arith in rw (← next) (first-get graph (k + 1) kinds n kind h)

ones : {X Y : Type 0} (xs : List X) (ys : List Y) → length xs ≡ length ys → map {B = ℕ} (λ x. 1) xs ≡ map {B = ℕ} (λ y. 1) ys
ones [] [] same = refl
ones [] (y ∷ ys) same = absurd (omega arith)
ones (x ∷ xs) [] same = absurd (omega arith)
ones (x ∷ xs) (y ∷ ys) same = ap (λ rest. 1 ∷ rest) (ones xs ys (omega arith))

first-node : (graph : net.Graph) (n : ℕ) (kind : NodeKind) (links : List LinkConfig) → length links ≡ links_of graph n
    → ◌≡◌ {A = Node} (record { up = true; notes = []; sessions = first_sessions kind links }) (first_node graph n kind)
first-node graph n Author links same = refl
first-node graph n Broker links same = rw (ones links (edges_of graph n) same) refl
first-node graph n Subscriber links same = refl

pub first-begun : {D : Type 0} (disk : Ghosts D) (graph : Graph) (disks : List D) (seats : List (Seat (Option (EndView D)))) → AreBegun disk graph disks seats
    → length disks ≡ length graph.nodes → map node_of (slots_of show seats) ≡ first_nodes (shape graph) 0 graph.nodes
first-begun disk graph disks seats begun count =
    lists-same (map node_of (slots_of show seats)) (first_nodes (shape graph) 0 graph.nodes)
    (map-length node_of (slots_of show seats) ∙ map-length (slot_of show) seats ∙ begun.same ∙ count ∙ sym (first-length (shape graph) 0 graph.nodes))
    (λ n x y left right.
    let slot = map-found node_of (slots_of show seats) n x left in
    let is = slot-begun disk graph disks seats begun n slot.0 slot.1 in
    let kind = slice_get-get_or graph.nodes n Subscriber (omega (arith, is.1, count)) in
    let first = first-get (shape graph) 0 graph.nodes n (get_or graph.nodes n Subscriber) kind in
    let at : 0 + n ≡ n = omega arith in
    slot.2 ∙ ap node_of is.0 ∙ first-node (shape graph) n (get_or graph.nodes n Subscriber) (config_of graph n).links (config-links graph n)
    ∙ ap (λ k. first_node (shape graph) k (get_or graph.nodes n Subscriber)) (sym at) ∙ some-same _ y (sym first ∙ right))
