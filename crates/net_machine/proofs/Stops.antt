-- What a stop does to the parts.
use Rattle.std.proofs.Common.{◌≡◌, ℕ, Bool, true, false, cond, List, [], ◌∷◌, Some, None, inl, inr, length, refl, sym, ◌∙◌, ap, subst, arith, eq-eqb}
use Rattle.std.specs.Prelude.{Option, map, slice_get, slice_set, ◌==◌, ◌||◌, nat_lt, option_map}
use Rattle.std.proofs.lemmas.Bool.{lt-ltb}
use Rattle.net_model.specs.declared.note.Note.{Note}
use Rattle.net_model.specs.declared.scenario.Edge.{Edge}
use Rattle.net_model.specs.declared.scenario.Graph.{Graph}
use Rattle.net_model.specs.declared.scenario.Inner.{Inner}
use Rattle.net_model.specs.declared.scenario.Inner.TheVariants as inners
use Rattle.net_model.specs.declared.state.Node.{Node}
use Rattle.net_model.specs.declared.state.State.{State}
use Rattle.net_model.specs.declared.state.Verdict.{Verdict}
use Rattle.net_model.specs.declared.state.Wire.{Wire}
use Rattle.net_model.specs.Rules.{Rules, NodeRules, rules_at}
use Rattle.net_model.specs.Nodes.{is_author, is_up, more_notes, notes_at, notes_of, number_of}
use Rattle.net_model.specs.Connections.{crash_node, cut_round, down_node, unconnected, with_node}
use Rattle.net_model.specs.Flights.{with_answer, without_answer, writes}
use Rattle.net_model.specs.Laws.{IsIn}
use Rattle.net_model.specs.Draining.{IsProper}
use Rattle.net_model.specs.Runs.{actor_of, has_answer, has_packet, inner_happens, is_kept, is_new, is_new_identifier, stopped}
use Rattle.net_model.proofs.Members.{IsIn-get, get-set_same, set-set}
use Rattle.net_machine.proofs.Acts.{writes-up}
use Rattle.net_machine.proofs.Arrivals.{arrive-does, hear-does}
use Rattle.net_machine.proofs.Crashes.{cut-reset, reset-set, whole-crashed}
use Rattle.net_machine.proofs.Moved.{configs-set, noted, right-at}
use Rattle.net_machine.proofs.Seats.{map-get, map-set, some-one}
use Rattle.net_machine.specs.declared.work.Work.{Work}
use Rattle.net_machine.specs.declared.work.Work.TheVariants as works
use Rattle.net_machine.specs.Ends.{EndView, crashed, noting}
use Rattle.net_machine.specs.Parts.{AreRight, IsWhole, Moment, Rightness, Slot, configs_of, node_of, state_of}
use Rattle.net_machine.specs.Stops.{IsCutShort}
use Rattle.net_machine.specs.Wires.{IsAnswerOff, IsTakenOff, reset_round, touches}
use Rattle.net_machine.specs.Works.{IsAbout, OnlyBrings, brought, cut_short, reply_of, work_added}

-- what a node's crash leaves, with the record of its step
crash-worked : (graph : Graph) (slots : List Slot) (wires : List Wire) (n : ℕ) (slot : Slot) (added : List Note) → slice_get slots n ≡ Some slot
    → crash_node graph (record { nodes = more_notes (map node_of slots) n added; wires = wires }) n
    ≡ record { nodes = map node_of (slice_set slots n (record { up = false; view = crashed (noting slot.view added) })); wires = cut_round n graph.edges wires }
crash-worked graph slots wires n slot added at =
    let worked_is = noted slots n slot added at in
    let there = map-get node_of (slice_set slots n (record slot { view = noting slot.view added })) n (record slot { view = noting slot.view added })
    (get-set_same slots n (record slot { view = noting slot.view added }) slot at) in
    ap (λ nodes. crash_node graph (record { nodes = nodes; wires = wires }) n) (sym worked_is)
    ∙ ap (λ (o : Option Node). record { nodes = with_node down_node (map node_of (slice_set slots n (record slot { view = noting slot.view added }))) n o; wires = cut_round n graph.edges wires }) there
    ∙ ap (λ nodes. record { nodes = nodes; wires = cut_round n graph.edges wires })
    (ap (λ nodes. slice_set nodes n (down_node (node_of (record slot { view = noting slot.view added })))) (map-set node_of slots n (record slot { view = noting slot.view added }))
    ∙ set-set (map node_of slots) n (node_of (record slot { view = noting slot.view added })) (down_node (node_of (record slot { view = noting slot.view added })))
    ∙ sym (map-set node_of slots n (record { up = false; view = crashed (noting slot.view added) })))

-- and without it
crash-idle : (graph : Graph) (slots : List Slot) (wires : List Wire) (n : ℕ) (slot : Slot) → slice_get slots n ≡ Some slot
    → crash_node graph (record { nodes = map node_of slots; wires = wires }) n
    ≡ record { nodes = map node_of (slice_set slots n (record { up = false; view = crashed slot.view })); wires = cut_round n graph.edges wires }
crash-idle graph slots wires n slot at =
    ap (λ (o : Option Node). record { nodes = with_node down_node (map node_of slots) n o; wires = cut_round n graph.edges wires }) (map-get node_of slots n slot at)
    ∙ ap (λ nodes. record { nodes = nodes; wires = cut_round n graph.edges wires }) (sym (map-set node_of slots n (record { up = false; view = crashed slot.view })))

-- what was done on a wire of the node goes
cut-set : (n : ℕ) (edges : List Edge) (wires : List Wire) (e : ℕ) (edge : Edge) (wire : Wire) → slice_get edges e ≡ Some edge → touches n edge ≡ true
    → cut_round n edges (slice_set wires e wire) ≡ cut_round n edges wires
cut-set n edges wires e edge wire is test =
    sym (cut-reset n edges (slice_set wires e wire)) ∙ reset-set unconnected n edges wires e edge wire is test ∙ cut-reset n edges wires

touches-upper : (edge : Edge) → touches edge.upper edge ≡ true
touches-upper edge = rw (eq-eqb edge.upper edge.upper refl) refl

touches-lower : (edge : Edge) → touches edge.lower edge ≡ true
touches-lower edge = rw (eq-eqb edge.lower edge.lower refl) (elim (edge.upper == edge.lower) as (λ b. (b || true) ≡ true) [ true ↦ refl | false ↦ refl ])

-- the state after a stop, its record kept or not
pub stopped-is : (rules : Rules) (graph : Graph) (packets : List (List ℕ)) (m : Moment) (inner : Inner) (n : ℕ) (slot : Slot) (work : Work) (nodes : List Node) (wires : List Wire) (kept : Bool)
    → slice_get m.slots n ≡ Some slot
    → inner_happens rules graph packets (state_of m) inner ≡ record { nodes = more_notes (map node_of m.slots) n (work_added (rules_at rules n) slot.view work); wires = wires }
    → cut_round n graph.edges wires ≡ cut_round n graph.edges m.wires
    → stopped rules graph packets (state_of m) kept inner (Some n)
    ≡ record { nodes = map node_of (slice_set m.slots n (record { up = false; view = cut_short kept (rules_at rules n) slot.view work })); wires = cut_round n graph.edges m.wires }
stopped-is rules graph packets m inner n slot work nodes wires true at done cut =
    ap (λ (state : State). crash_node graph state n) done
    ∙ crash-worked graph m.slots wires n slot (work_added (rules_at rules n) slot.view work) at
    ∙ ap (λ (ws : List Wire). record { nodes = map node_of (slice_set m.slots n (record { up = false; view = cut_short true (rules_at rules n) slot.view work })); wires = ws }) cut
stopped-is rules graph packets m inner n slot work nodes wires false at done cut = crash-idle graph m.slots m.wires n slot at

-- all that a stop does, where its event fits
pub cut-short : (is_right : Rightness) (graph : Graph) (packets : List (List ℕ)) (calls fill : ℕ) (inner : Inner) (Tell : Type 0) (m : Moment) (n : ℕ) (slot : Slot) (work : Work)
    (slots : List Slot) (taken wires : List Wire) (places : List ℕ)
    → IsWhole graph packets m → slice_get m.slots n ≡ Some slot
    → IsAbout work packets → ((packet : List ℕ) → brought work ≡ Some packet → IsIn packet packets)
    → ((rules : NodeRules) → Tell → is_right slot.view.config packets rules
    → slots ≡ slice_set m.slots n (record { up = false; view = cut_short (is_kept calls fill) rules slot.view work }))
    → ((rules : NodeRules) → is_right slot.view.config packets rules
    → (kept : Bool) × (slots ≡ slice_set m.slots n (record { up = false; view = cut_short kept rules slot.view work })))
    → (view : EndView) × (slots ≡ slice_set m.slots n (record { up = false; view = view })) × OnlyBrings work (crashed slot.view) view
    → cut_round n graph.edges taken ≡ cut_round n graph.edges m.wires
    → wires ≡ cut_round n graph.edges taken → places ≡ reset_round 0 n graph.edges m.places
    → ((rules : Rules) → AreRight is_right (configs_of m.slots) packets rules → actor_of rules graph packets (state_of m) inner ≡ Some n)
    → ((rules : Rules) → (ws : List Wire)
    × (inner_happens rules graph packets (state_of m) inner ≡ record { nodes = more_notes (map node_of m.slots) n (work_added (rules_at rules n) slot.view work); wires = ws })
    × (cut_round n graph.edges ws ≡ cut_round n graph.edges m.wires))
    → IsCutShort is_right graph packets calls fill inner Tell m (record { slots = slots; wires = wires; places = places })
cut-short is_right graph packets calls fill inner Tell m n slot work slots taken wires places whole at about ours exact either only cut wires_is places_is actor done =
    let new : Slot = record { up = false; view = only.0 } in
    let reset = wires_is ∙ cut ∙ sym (cut-reset n graph.edges m.wires) in
    record {
      configs = rw only.1 (configs-set m.slots n slot new at (ap (λ (v : EndView). v.config) only.2.same));
      whole = rw (only.1, reset, places_is) (whole-crashed graph packets m n slot new whole at (ap (λ (v : EndView). v.config) only.2.same)
          (λ note packet stands has. elim (only.2.only note stands) [
            | inl before ↦ whole.kept n slot note packet at before has
            | inr one ↦ ours packet (sym one ∙ has)
          ]));
      either = λ rules right.
          let kept = either (rules_at rules n) (right-at is_right m.slots packets rules n slot right at) in
          (kept.0, outcome rules right kept.0 kept.1);
      exact = λ tells rules right.
          outcome rules right (is_kept calls fill) (exact (rules_at rules n) tells (right-at is_right m.slots packets rules n slot right at));
    }
  where
    outcome : (rules : Rules) → AreRight is_right (configs_of m.slots) packets rules → (kept : Bool)
        → slots ≡ slice_set m.slots n (record { up = false; view = cut_short kept (rules_at rules n) slot.view work })
        → state_of (record { slots = slots; wires = wires; places = places }) ≡ stopped rules graph packets (state_of m) kept inner (actor_of rules graph packets (state_of m) inner)
    outcome rules right kept slots_is =
        let happened = done rules in
        ap (λ (ss : List Slot). record { nodes = map node_of ss; wires = wires }) slots_is
        ∙ ap (λ (ws : List Wire). record { nodes = map node_of (slice_set m.slots n (record { up = false; view = cut_short kept (rules_at rules n) slot.view work })); wires = ws }) (wires_is ∙ cut)
        ∙ sym (stopped-is rules graph packets m inner n slot work [] happened.0 kept at happened.1 happened.2)
        ∙ ap (λ (o : Option ℕ). stopped rules graph packets (state_of m) kept inner o) (sym (actor rules right))

-- nothing, where it doesn't
pub no-cut-short : (is_right : Rightness) (graph : Graph) (packets : List (List ℕ)) (calls fill : ℕ) (inner : Inner) (Tell : Type 0) (m : Moment) → IsWhole graph packets m
    → ((rules : Rules) → AreRight is_right (configs_of m.slots) packets rules → actor_of rules graph packets (state_of m) inner ≡ None)
    → IsCutShort is_right graph packets calls fill inner Tell m m
no-cut-short is_right graph packets calls fill inner Tell m whole none = record {
  configs = refl;
  whole = whole;
  either = λ rules right. (true, ap (λ (o : Option ℕ). stopped rules graph packets (state_of m) true inner o) (sym (none rules right)));
  exact = λ tells rules right. ap (λ (o : Option ℕ). stopped rules graph packets (state_of m) (is_kept calls fill) inner o) (sym (none rules right));
}

-- the author of a write
write-actor : (rules : Rules) (graph : Graph) (packets : List (List ℕ)) (m : Moment) (author number : ℕ) (slot : Slot) (packet : List ℕ) (new : Bool) → slice_get m.slots author ≡ Some slot
    → slot.up ≡ true → is_author (slice_get graph.nodes author) ≡ true → slice_get packets number ≡ Some packet
    → new ≡ is_new_identifier slot.view.notes (rules.judge packet)
    → actor_of rules graph packets (state_of m) (inners.Write author number) ≡ cond new (Some author) None
write-actor rules graph packets m author number slot packet new at up kind given new_is =
    let node = map-get node_of m.slots author slot at in
    ap (λ (b : Bool). cond b (cond (is_up (slice_get (map node_of m.slots) author)) (cond (is_new rules (notes_at (state_of m) author) (slice_get packets number)) (Some author) None) None) None) kind
    ∙ ap (λ (o : Option Node). cond (is_up o) (cond (is_new rules (notes_of o) (slice_get packets number)) (Some author) None) None) node
    ∙ ap (λ (b : Bool). cond b (cond (is_new rules slot.view.notes (slice_get packets number)) (Some author) None) None) up
    ∙ ap (λ (o : Option (List ℕ)). cond (is_new rules slot.view.notes o) (Some author) None) given
    ∙ ap (λ (b : Bool). cond b (Some author) None) (sym new_is)

pub stop-write : (is_right : Rightness) (graph : Graph) (packets : List (List ℕ)) (calls fill : ℕ) (Tell : Type 0) (m : Moment) (author number : ℕ) (slot : Slot) (packet : List ℕ)
    (slots : List Slot) (wires : List Wire) (places : List ℕ)
    → IsWhole graph packets m → slice_get m.slots author ≡ Some slot → slot.up ≡ true → is_author (slice_get graph.nodes author) ≡ true → slice_get packets number ≡ Some packet
    → ((rules : NodeRules) → is_right slot.view.config packets rules → true ≡ is_new_identifier slot.view.notes (rules.judge packet))
    → ((rules : NodeRules) → Tell → is_right slot.view.config packets rules
    → slots ≡ slice_set m.slots author (record { up = false; view = cut_short (is_kept calls fill) rules slot.view (works.Write packet) }))
    → ((rules : NodeRules) → is_right slot.view.config packets rules
    → (kept : Bool) × (slots ≡ slice_set m.slots author (record { up = false; view = cut_short kept rules slot.view (works.Write packet) })))
    → (view : EndView) × (slots ≡ slice_set m.slots author (record { up = false; view = view })) × OnlyBrings (works.Write packet) (crashed slot.view) view
    → wires ≡ cut_round author graph.edges m.wires → places ≡ reset_round 0 author graph.edges m.places
    → IsCutShort is_right graph packets calls fill (inners.Write author number) Tell m (record { slots = slots; wires = wires; places = places })
stop-write is_right graph packets calls fill Tell m author number slot packet slots wires places whole at up kind given new exact either only wires_is places_is =
    let ours = IsIn-get packets number packet given in
    cut-short is_right graph packets calls fill (inners.Write author number) Tell m author slot (works.Write packet) slots m.wires wires places whole at ours
    (λ other is. subst (λ (p : List ℕ). IsIn p packets) (some-one packet other is) ours)
    exact either only refl wires_is places_is
    (λ rules right. write-actor rules graph packets m author number slot packet true at up kind given
    (new (rules_at rules author) (right-at is_right m.slots packets rules author slot right at)))
    (λ rules. (
      m.wires,
      ap (λ (b : Bool). writes rules (state_of m) author b (slice_get (map node_of m.slots) author) (slice_get packets number)) kind
          ∙ ap (λ (o : Option Node). writes rules (state_of m) author true o (slice_get packets number)) (map-get node_of m.slots author slot at)
          ∙ ap (λ (o : Option (List ℕ)). writes rules (state_of m) author true (Some (node_of slot)) o) given
          ∙ writes-up rules (state_of m) author (node_of slot) packet (map-get node_of m.slots author slot at) up,
      refl,
    ))

-- the packet is not new
pub stop-known : (is_right : Rightness) (graph : Graph) (packets : List (List ℕ)) (calls fill : ℕ) (Tell : Type 0) (m : Moment) (author number : ℕ) (slot : Slot) (packet : List ℕ)
    → IsWhole graph packets m → slice_get m.slots author ≡ Some slot → slot.up ≡ true → is_author (slice_get graph.nodes author) ≡ true → slice_get packets number ≡ Some packet
    → ((rules : NodeRules) → is_right slot.view.config packets rules → false ≡ is_new_identifier slot.view.notes (rules.judge packet))
    → IsCutShort is_right graph packets calls fill (inners.Write author number) Tell m m
stop-known is_right graph packets calls fill Tell m author number slot packet whole at up kind given known =
    no-cut-short is_right graph packets calls fill (inners.Write author number) Tell m whole
    (λ rules right. write-actor rules graph packets m author number slot packet false at up kind given
    (known (rules_at rules author) (right-at is_right m.slots packets rules author slot right at)))

-- the author is down
pub stop-down : (is_right : Rightness) (graph : Graph) (packets : List (List ℕ)) (calls fill : ℕ) (Tell : Type 0) (m : Moment) (author number : ℕ) (slot : Slot)
    → IsWhole graph packets m → slice_get m.slots author ≡ Some slot → slot.up ≡ false → is_author (slice_get graph.nodes author) ≡ true
    → IsCutShort is_right graph packets calls fill (inners.Write author number) Tell m m
stop-down is_right graph packets calls fill Tell m author number slot whole at down kind =
    no-cut-short is_right graph packets calls fill (inners.Write author number) Tell m whole
    (λ rules right.
    ap (λ (b : Bool). cond b (cond (is_up (slice_get (map node_of m.slots) author)) (cond (is_new rules (notes_at (state_of m) author) (slice_get packets number)) (Some author) None) None) None) kind
    ∙ ap (λ (o : Option Node). cond (is_up o) (cond (is_new rules (notes_of o) (slice_get packets number)) (Some author) None) None) (map-get node_of m.slots author slot at)
    ∙ ap (λ (b : Bool). cond b (cond (is_new rules slot.view.notes (slice_get packets number)) (Some author) None) None) down)

-- the end that takes, and the one that hears
take-actor : (rules : Rules) (graph : Graph) (packets : List (List ℕ)) (m : Moment) (e : ℕ) (edge : Edge) (wire : Wire) (packet : List ℕ) (rest : List (List ℕ))
    → slice_get graph.edges e ≡ Some edge → slice_get m.wires e ≡ Some wire → wire.down ≡ packet ∷ rest
    → actor_of rules graph packets (state_of m) (inners.Down e) ≡ Some edge.lower
take-actor rules graph packets m e edge wire packet rest is found first =
    ap (λ (o : Option Wire). cond (has_packet o) (option_map (λ (one : Edge). one.lower) (slice_get graph.edges e)) None) found
    ∙ ap (λ (ps : List (List ℕ)). cond (nat_lt 0 (length ps)) (option_map (λ (one : Edge). one.lower) (slice_get graph.edges e)) None) first
    ∙ ap (λ (b : Bool). cond b (option_map (λ (one : Edge). one.lower) (slice_get graph.edges e)) None) (lt-ltb 0 (length (packet ∷ rest)) (omega arith))
    ∙ ap (λ (o : Option Edge). option_map (λ (one : Edge). one.lower) o) is

hear-actor : (rules : Rules) (graph : Graph) (packets : List (List ℕ)) (m : Moment) (e : ℕ) (edge : Edge) (wire : Wire) (answer : Verdict) (rest : List Verdict)
    → slice_get graph.edges e ≡ Some edge → slice_get m.wires e ≡ Some wire → wire.up ≡ answer ∷ rest
    → actor_of rules graph packets (state_of m) (inners.Up e) ≡ Some edge.upper
hear-actor rules graph packets m e edge wire answer rest is found first =
    ap (λ (o : Option Wire). cond (has_answer o) (option_map (λ (one : Edge). one.upper) (slice_get graph.edges e)) None) found
    ∙ ap (λ (vs : List Verdict). cond (nat_lt 0 (length vs)) (option_map (λ (one : Edge). one.upper) (slice_get graph.edges e)) None) first
    ∙ ap (λ (b : Bool). cond b (option_map (λ (one : Edge). one.upper) (slice_get graph.edges e)) None) (lt-ltb 0 (length (answer ∷ rest)) (omega arith))
    ∙ ap (λ (o : Option Edge). option_map (λ (one : Edge). one.upper) o) is

pub stop-arrive : (is_right : Rightness) (graph : Graph) (packets : List (List ℕ)) (calls fill : ℕ) (Tell : Type 0) (m : Moment) (e : ℕ) (edge : Edge) (slot : Slot) (packet : List ℕ)
    (from_line : Bool) (off : List Wire) (slots : List Slot) (wires : List Wire) (places : List ℕ)
    → IsProper graph → IsWhole graph packets m → slice_get graph.edges e ≡ Some edge → slice_get m.slots edge.lower ≡ Some slot → IsTakenOff m.wires e packet off
    → from_line ≡ is_author (slice_get graph.nodes edge.upper)
    → ((rules : NodeRules) → Tell → IsIn packet packets → is_right slot.view.config packets rules
    → slots ≡ slice_set m.slots edge.lower (record { up = false; view = cut_short (is_kept calls fill) rules slot.view (works.Take from_line packet) }))
    → ((rules : NodeRules) → IsIn packet packets → is_right slot.view.config packets rules
    → (kept : Bool) × (slots ≡ slice_set m.slots edge.lower (record { up = false; view = cut_short kept rules slot.view (works.Take from_line packet) })))
    → (view : EndView) × (slots ≡ slice_set m.slots edge.lower (record { up = false; view = view })) × OnlyBrings (works.Take from_line packet) (crashed slot.view) view
    → wires ≡ cut_round edge.lower graph.edges off → places ≡ reset_round 0 edge.lower graph.edges m.places
    → IsCutShort is_right graph packets calls fill (inners.Down e) Tell m (record { slots = slots; wires = wires; places = places })
stop-arrive is_right graph packets calls fill Tell m e edge slot packet from_line off slots wires places proper whole is at took line exact either only wires_is places_is =
    let flies : IsIn packet took.wire.down = rw took.first (inl refl) in
    let ours = whole.flying e took.wire packet took.found flies in
    cut-short is_right graph packets calls fill (inners.Down e) Tell m edge.lower slot (works.Take from_line packet) slots off wires places whole at ours
    (λ other it. subst (λ (p : List ℕ). IsIn p packets) (some-one packet other it) ours)
    (λ rules tells right. exact rules tells ours right) (λ rules right. either rules ours right) only
    (ap (λ (ws : List Wire). cut_round edge.lower graph.edges ws) took.after ∙ cut-set edge.lower graph.edges m.wires e edge (record took.wire { down = took.rest }) is (touches-lower edge))
    wires_is places_is
    (λ rules right. take-actor rules graph packets m e edge took.wire packet took.rest is took.found took.first)
    (λ rules. (
      slice_set m.wires e (with_answer took.wire took.rest (reply_of slot.view.config.kind (rules_at rules edge.lower) (length slot.view.config.links) slot.view.notes from_line packet).answer),
      arrive-does rules graph packets m e edge slot packet from_line off proper whole is at took line,
      cut-set edge.lower graph.edges m.wires e edge (with_answer took.wire took.rest (reply_of slot.view.config.kind (rules_at rules edge.lower) (length slot.view.config.links) slot.view.notes from_line packet).answer) is (touches-lower edge),
    ))

pub stop-hear : (is_right : Rightness) (graph : Graph) (packets : List (List ℕ)) (calls fill : ℕ) (Tell : Type 0) (m : Moment) (e : ℕ) (edge : Edge) (slot : Slot) (number session : ℕ)
    (answer : Verdict) (off : List Wire) (slots : List Slot) (wires : List Wire) (places : List ℕ)
    → IsWhole graph packets m → slice_get graph.edges e ≡ Some edge → slice_get m.slots edge.upper ≡ Some slot → number ≡ number_of graph.edges edge.upper e
    → IsAnswerOff m.wires e session answer off
    → ((rules : NodeRules) → Tell → is_right slot.view.config packets rules
    → slots ≡ slice_set m.slots edge.upper (record { up = false; view = cut_short (is_kept calls fill) rules slot.view (works.Hear number session answer) }))
    → ((rules : NodeRules) → is_right slot.view.config packets rules
    → (kept : Bool) × (slots ≡ slice_set m.slots edge.upper (record { up = false; view = cut_short kept rules slot.view (works.Hear number session answer) })))
    → (view : EndView) × (slots ≡ slice_set m.slots edge.upper (record { up = false; view = view })) × OnlyBrings (works.Hear number session answer) (crashed slot.view) view
    → wires ≡ cut_round edge.upper graph.edges off → places ≡ reset_round 0 edge.upper graph.edges m.places
    → IsCutShort is_right graph packets calls fill (inners.Up e) Tell m (record { slots = slots; wires = wires; places = places })
stop-hear is_right graph packets calls fill Tell m e edge slot number session answer off slots wires places whole is at named took exact either only wires_is places_is =
    cut-short is_right graph packets calls fill (inners.Up e) Tell m edge.upper slot (works.Hear number session answer) slots off wires places whole at tt
    (λ other it. absurd (none_some other it)) exact either only
    (ap (λ (ws : List Wire). cut_round edge.upper graph.edges ws) took.after ∙ cut-set edge.upper graph.edges m.wires e edge (without_answer took.wire took.rest) is (touches-upper edge))
    wires_is places_is
    (λ rules right. hear-actor rules graph packets m e edge took.wire answer took.rest is took.found took.first)
    (λ rules. (
      slice_set m.wires e (without_answer took.wire took.rest),
      hear-does rules graph packets m e edge slot number session answer off whole is at named took,
      cut-set edge.upper graph.edges m.wires e edge (without_answer took.wire took.rest) is (touches-upper edge),
    ))
  where
    none_some : (other : List ℕ) → None ≡ Some other → ⊥
    none_some other h = cc
