-- What an arriving packet or answer does to the parts.
use Rattle.std.proofs.Common.{◌≡◌, ◌≢◌, ℕ, ◌<◌, Bool, true, false, cond, List, [], ◌∷◌, ◌++◌, Some, None, inl, inr, length, refl, sym, ◌∙◌, ap, subst, arith}
use Rattle.std.specs.Prelude.{Option, map, slice_get, slice_set, ◌⊎◌}
use Rattle.std.proofs.lemmas.Option.{slice_get_within}
use Rattle.net_model.specs.declared.note.Note.{Note}
use Rattle.net_model.specs.declared.scenario.Edge.{Edge}
use Rattle.net_model.specs.declared.scenario.Event.TheVariants as events
use Rattle.net_model.specs.declared.scenario.Graph.{Graph}
use Rattle.net_model.specs.declared.state.Node.{Node}
use Rattle.net_model.specs.declared.state.State.{State}
use Rattle.net_model.specs.declared.state.Verdict.{Verdict}
use Rattle.net_model.specs.declared.state.Wire.{Wire}
use Rattle.net_model.specs.declared.state.Verdict.TheVariants.{Ack, Nak}
use Rattle.voe_values.specs.declared.kind.NodeKind.{NodeKind}
use Rattle.voe_values.specs.declared.kind.NodeKind.TheVariants.{Author, Broker, Subscriber}
use Rattle.net_model.specs.Rules.{Rules, NodeRules, rules_at}
use Rattle.net_model.specs.Nodes.{is_author, links_of, more_notes, notes_at, number_of, sessions_of, with_notes, with_wire}
use Rattle.net_model.specs.Flights.{arrive, arrive_first, arrive_over, hear, hear_first, hear_over, heard, reply_at, with_answer, without_answer}
use Rattle.net_model.specs.Connections.{unconnected}
use Rattle.net_model.specs.Laws.{IsIn}
use Rattle.net_model.specs.Draining.{IsProper}
use Rattle.net_model.specs.Runs.{has_packet}
use Rattle.net_model.specs.Steps.{Reply}
use Rattle.net_model.proofs.Members.{get-set_same, set-set}
use Rattle.net_machine.proofs.Acts.{kind-at}
use Rattle.net_machine.proofs.Moved.{configs-set, happened-still, noted, right-at, whole-only, whole-wire}
use Rattle.net_machine.proofs.Seats.{map-get, some-one}
use Rattle.net_machine.proofs.Sends.{notes-is, over, sessions-is}
use Rattle.net_machine.specs.declared.work.Work.TheVariants as works
use Rattle.net_machine.specs.Ends.{AllPackets, EndView, IsPacket}
use Rattle.net_machine.specs.Works.{IsOver, OnlyBrings, reply_of, work_added, work_answer, worked}
use Rattle.net_machine.specs.Wires.{HasNoAnswer, HasNoPacket, IsAnswerOff, IsTakenOff}
use Rattle.net_machine.specs.Steppers.{hearer, is_heard, taker}
use Rattle.net_machine.specs.Works.{is_step}
use Rattle.net_machine.specs.Parts.{Happened, IsWhole, Moment, Rightness, Slot, node_of, state_of}

-- a wire with something under way is connected
not-empty : {X : Type 0} (x : X) (rest xs : List X) → xs ≡ x ∷ rest → xs ≡ [] → ⊥
not-empty x rest xs h none = cc

pub on-down : (wire : Wire) (packet : List ℕ) (rest : List (List ℕ)) → (wire.connected ≡ true) ⊎ (wire ≡ unconnected) → wire.down ≡ packet ∷ rest → wire.connected ≡ true
on-down wire packet rest off h = elim off [ inl on ↦ on | inr none ↦ absurd (not-empty packet rest wire.down h (ap (λ (w : Wire). w.down) none)) ]

pub on-up : (wire : Wire) (answer : Verdict) (rest : List Verdict) → (wire.connected ≡ true) ⊎ (wire ≡ unconnected) → wire.up ≡ answer ∷ rest → wire.connected ≡ true
on-up wire answer rest off h = elim off [ inl on ↦ on | inr none ↦ absurd (not-empty answer rest wire.up h (ap (λ (w : Wire). w.up) none)) ]

-- the lower end of an edge takes packets
pub lower-kind : (graph : Graph) (packets : List (List ℕ)) (m : Moment) (e : ℕ) (edge : Edge) (slot : Slot) → IsProper graph → IsWhole graph packets m
    → slice_get graph.edges e ≡ Some edge → slice_get m.slots edge.lower ≡ Some slot → slot.view.config.kind ≢ Author
lower-kind graph packets m e edge slot proper whole is at kind =
    let own = kind-at graph packets m edge.lower slot whole at in
    elim (proper.ends e edge is) [
      | inl author ↦ broker_not (some-one Broker slot.view.config.kind (sym author.1 ∙ own) ∙ kind)
      | inr broker ↦ elim broker.1 [
        | inl one ↦ broker_not (some-one Broker slot.view.config.kind (sym one ∙ own) ∙ kind)
        | inr one ↦ subscriber_not (some-one Subscriber slot.view.config.kind (sym one ∙ own) ∙ kind)
      ]
    ]
  where
    broker_not : Broker ≡ Author → ⊥
    broker_not h = cc

    subscriber_not : Subscriber ≡ Author → ⊥
    subscriber_not h = cc

pub lower-within : (graph : Graph) (packets : List (List ℕ)) (m : Moment) (e : ℕ) (edge : Edge) → IsProper graph → IsWhole graph packets m
    → slice_get graph.edges e ≡ Some edge → edge.lower < length m.slots
lower-within graph packets m e edge proper whole is =
    let size = whole.nodes in
    elim (proper.ends e edge is) [
      | inl author ↦ (let few = slice_get_within graph.nodes edge.lower Broker author.1 in omega arith)
      | inr broker ↦ elim broker.1 [
        | inl one ↦ (let few = slice_get_within graph.nodes edge.lower Broker one in omega arith)
        | inr one ↦ (let few = slice_get_within graph.nodes edge.lower Subscriber one in omega arith)
      ]
    ]

-- a packet that was taken off a wire is work for the lower end
pub take-fit : (graph : Graph) (packets : List (List ℕ)) (m : Moment) (e : ℕ) (edge : Edge) (slot : Slot) (packet : List ℕ) (now : List Wire) → AllPackets packets
    → IsProper graph → IsWhole graph packets m → slice_get graph.edges e ≡ Some edge → slice_get m.slots edge.lower ≡ Some slot → IsTakenOff m.wires e packet now
    → (slot.view.config.kind ≢ Author) × IsPacket packet
take-fit graph packets m e edge slot packet now all proper whole is at off =
    let flies : IsIn packet off.wire.down = rw off.first (inl refl) in
    (lower-kind graph packets m e edge slot proper whole is at, all packet (whole.flying e off.wire packet off.found flies))

-- what an end replies is what the model's node replies
reply-is : (kind : NodeKind) (rules : Rules) (graph : Graph) (n links : ℕ) (from_line : Bool) (notes : List Note) (packet : List ℕ) → kind ≢ Author → links ≡ links_of graph n
    → reply_at rules graph n from_line notes packet (Some kind) ≡ Some (reply_of kind (rules_at rules n) links notes from_line packet)
reply-is Author rules graph n links from_line notes packet not same = absurd (not refl)
reply-is Broker rules graph n links from_line notes packet not same = rw same refl
reply-is Subscriber rules graph n links from_line notes packet not same = refl

arrive-is : (rules : Rules) (graph : Graph) (state : State) (e : ℕ) (edge : Edge) (wire : Wire) (packet : List ℕ) (rest : List (List ℕ)) (node : Node) (reply : Reply)
    → slice_get graph.edges e ≡ Some edge → slice_get state.wires e ≡ Some wire → wire.down ≡ packet ∷ rest → slice_get state.nodes edge.lower ≡ Some node
    → reply_at rules graph edge.lower (is_author (slice_get graph.nodes edge.upper)) (notes_at state edge.lower) packet (slice_get graph.nodes edge.lower) ≡ Some reply
    → arrive rules graph state e ≡ with_wire (with_notes state edge.lower reply.added) e (with_answer wire rest reply.answer)
arrive-is rules graph state e edge wire packet rest node reply is at down up says = rw (is, at, down, up) (rw says refl)

reply-same : (rules : Rules) (graph : Graph) (n : ℕ) (packet : List ℕ) (b c : Bool) (xs ys : List Note) (k l : Option NodeKind) → b ≡ c → xs ≡ ys → k ≡ l
    → reply_at rules graph n b xs packet k ≡ reply_at rules graph n c ys packet l
reply-same rules graph n packet b c xs ys k l one two three = rw (one, two, three) refl

says-is : (rules : Rules) (graph : Graph) (m : Moment) (edge : Edge) (slot : Slot) (packet : List ℕ) (from_line : Bool) → from_line ≡ is_author (slice_get graph.nodes edge.upper)
    → slice_get m.slots edge.lower ≡ Some slot → slice_get graph.nodes edge.lower ≡ Some slot.view.config.kind → slot.view.config.kind ≢ Author
    → length slot.view.config.links ≡ links_of graph edge.lower
    → reply_at rules graph edge.lower (is_author (slice_get graph.nodes edge.upper)) (notes_at (state_of m) edge.lower) packet (slice_get graph.nodes edge.lower)
    ≡ Some (reply_of slot.view.config.kind (rules_at rules edge.lower) (length slot.view.config.links) slot.view.notes from_line packet)
says-is rules graph m edge slot packet from_line line at kind not links =
    reply-same rules graph edge.lower packet _ _ _ _ _ _ (sym line) (notes-is m edge.lower slot at) kind
    ∙ reply-is slot.view.config.kind rules graph edge.lower (length slot.view.config.links) from_line slot.view.notes packet not links

-- what the model's packet does that arrives
pub arrive-does : (rules : Rules) (graph : Graph) (packets : List (List ℕ)) (m : Moment) (e : ℕ) (edge : Edge) (slot : Slot) (packet : List ℕ) (from_line : Bool) (off : List Wire)
    → IsProper graph → IsWhole graph packets m → slice_get graph.edges e ≡ Some edge → slice_get m.slots edge.lower ≡ Some slot → (took : IsTakenOff m.wires e packet off)
    → from_line ≡ is_author (slice_get graph.nodes edge.upper)
    → arrive rules graph (state_of m) e
    ≡ record {
      nodes = more_notes (map node_of m.slots) edge.lower (work_added (rules_at rules edge.lower) slot.view (works.Take from_line packet));
      wires = slice_set m.wires e (with_answer took.wire took.rest (reply_of slot.view.config.kind (rules_at rules edge.lower) (length slot.view.config.links) slot.view.notes from_line packet).answer);
    }
arrive-does rules graph packets m e edge slot packet from_line off proper whole is at took line =
    let own = whole.own edge.lower slot at in
    arrive-is rules graph (state_of m) e edge took.wire packet took.rest (node_of slot)
    (reply_of slot.view.config.kind (rules_at rules edge.lower) (length slot.view.config.links) slot.view.notes from_line packet) is took.found took.first
    (map-get node_of m.slots edge.lower slot at)
    (says-is rules graph m edge slot packet from_line line at (kind-at graph packets m edge.lower slot whole at) (lower-kind graph packets m e edge slot proper whole is at) own.links)

-- the packet was taken, and its answer goes into flight
pub arrive-happened : (is_right : Rightness) (graph : Graph) (packets : List (List ℕ)) (m : Moment) (slots : List Slot) (e : ℕ) (edge : Edge) (slot : Slot) (packet : List ℕ)
    (from_line : Bool) (off wires : List Wire) (taken new : Wire) (verdict : Verdict)
    → IsProper graph → IsWhole graph packets m → slice_get graph.edges e ≡ Some edge → slice_get m.slots edge.lower ≡ Some slot → IsTakenOff m.wires e packet off
    → from_line ≡ is_author (slice_get graph.nodes edge.upper)
    → ((rules : NodeRules) (ours : List (List ℕ)) → IsIn packet ours → is_right slot.view.config ours rules
    → (slots ≡ slice_set m.slots edge.lower (record slot { view = worked rules slot.view (works.Take from_line packet) }))
    × (Some verdict ≡ work_answer rules slot.view (works.Take from_line packet)))
    → (view : EndView) × (slots ≡ slice_set m.slots edge.lower (record slot { view = view })) × OnlyBrings (works.Take from_line packet) slot.view view
    → slice_get off e ≡ Some taken → new ≡ record taken { up = taken.up ++ verdict ∷ [] } → wires ≡ slice_set off e new
    → Happened is_right graph packets (events.Down e) m (record { slots = slots; wires = wires; places = m.places })
arrive-happened is_right graph packets m slots e edge slot packet from_line off wires taken new verdict proper whole is at took line value only there now all =
    let wire = took.wire in
    let flies : IsIn packet wire.down = rw took.first (inl refl) in
    let ours = whole.flying e wire packet took.found flies in
    let live = whole.live e edge wire is took.found in
    let on = on-down wire packet took.rest live.off took.first in
    let taken_is : record wire { down = took.rest } ≡ taken =
    some-one _ taken (sym (get-set_same m.wires e (record wire { down = took.rest }) wire took.found) ∙ (rw took.after at there)) in
    let new_is : new ≡ with_answer wire took.rest verdict = now ∙ ap (λ (w : Wire). record w { up = w.up ++ verdict ∷ [] }) (sym taken_is) in
    let wires_is : wires ≡ slice_set m.wires e (with_answer wire took.rest verdict) =
    all ∙ (rw (took.after, new_is) (set-set m.wires e (record wire { down = took.rest }) (with_answer wire took.rest verdict))) in
    let one = whole-only graph packets m edge.lower slot (works.Take from_line packet) only.0 whole at only.2
    (λ other it. subst (λ (p : List ℕ). IsIn p packets) (some-one packet other it) ours) in
    let rest_flies = λ (p : List ℕ) (h : IsIn p took.rest). whole.flying e wire p took.found (subst (λ (ps : List (List ℕ)). IsIn p ps) (sym took.first) (inr h)) in
    let both = whole-wire graph packets (record m { slots = slice_set m.slots edge.lower (record slot { view = only.0 }) }) e wire (with_answer wire took.rest verdict) one took.found on on refl refl rest_flies in
    rw wires_is (record {
      configs = rw only.1 (configs-set m.slots edge.lower slot (record slot { view = only.0 }) at (ap (λ (v : EndView). v.config) only.2.same));
      whole = rw only.1 both;
      value = λ rules right.
          let own = whole.own edge.lower slot at in
          let done = value (rules_at rules edge.lower) packets ours (right-at is_right m.slots packets rules edge.lower slot right at) in
          let answer = some-one verdict _ done.1 in
          let node = map-get node_of m.slots edge.lower slot at in
          let kind = kind-at graph packets m edge.lower slot whole at in
          let says = says-is rules graph m edge slot packet from_line line at kind (lower-kind graph packets m e edge slot proper whole is at) own.links in
          rw (done.0, answer)
          (ap (λ nodes. record { nodes = nodes; wires = slice_set m.wires e (with_answer wire took.rest (reply_of slot.view.config.kind (rules_at rules edge.lower) (length slot.view.config.links) slot.view.notes from_line packet).answer) })
          (noted m.slots edge.lower slot (work_added (rules_at rules edge.lower) slot.view (works.Take from_line packet)) at)
          ∙ sym (arrive-is rules graph (state_of m) e edge wire packet took.rest (node_of slot)
          (reply_of slot.view.config.kind (rules_at rules edge.lower) (length slot.view.config.links) slot.view.notes from_line packet) is took.found took.first node says));
    })

-- no packet is in flight
pub arrive-still : (is_right : Rightness) (graph : Graph) (packets : List (List ℕ)) (m : Moment) (e : ℕ) → IsWhole graph packets m → HasNoPacket (slice_get m.wires e)
    → Happened is_right graph packets (events.Down e) m m
arrive-still is_right graph packets m e whole none =
    happened-still is_right graph packets (events.Down e) m whole (λ rules. still rules graph (state_of m) e (slice_get graph.edges e) (slice_get m.wires e) none)
  where
    empty : (rules : Rules) (graph : Graph) (state : State) (e : ℕ) (edge : Edge) (wire : Wire) (down : List (List ℕ)) (found : Option Node) → down ≡ [] → state ≡ arrive_first rules graph state e edge wire down found
    empty rules graph state e edge wire [] found h = refl
    empty rules graph state e edge wire (packet ∷ rest) found h = cc

    still : (rules : Rules) (graph : Graph) (state : State) (e : ℕ) (edge : Option Edge) (wire : Option Wire) → HasNoPacket wire → state ≡ arrive_over rules graph state e edge wire
    still rules graph state e None wire h = refl
    still rules graph state e (Some edge) None h = refl
    still rules graph state e (Some edge) (Some wire) h = empty rules graph state e edge wire wire.down (slice_get state.nodes edge.lower) h

-- the taker of a packet
pub taker-is : (edge : Option Edge) (found : Edge) (wire : Option Wire) (n : ℕ) → edge ≡ Some found → taker edge wire ≡ Some n → found.lower ≡ n
taker-is edge found wire n is h = step found wire n (rw is at h)
  where
    step : (found : Edge) (wire : Option Wire) (n : ℕ) → taker (Some found) wire ≡ Some n → found.lower ≡ n
    step found wire n h = elim (has_packet wire) as (λ b. cond b (Some found.lower) None ≡ Some n → found.lower ≡ n) [
      | true ↦ λ k. some-one found.lower n k
      | false ↦ λ k. cc
    ] h

pub taker-none : (edge : Option Edge) (wire : Option Wire) (n : ℕ) → HasNoPacket wire → taker edge wire ≡ Some n → ⊥
taker-none None wire n none h = cc
taker-none (Some edge) None n none h = cc
taker-none (Some edge) (Some wire) n none h = let no = rw none at h in cc

hear-is : (rules : Rules) (graph : Graph) (state : State) (e : ℕ) (edge : Edge) (wire : Wire) (answer : Verdict) (rest : List Verdict)
    → slice_get graph.edges e ≡ Some edge → slice_get state.wires e ≡ Some wire → wire.up ≡ answer ∷ rest
    → hear rules graph state e ≡ with_wire
    (with_notes state edge.upper (heard (rules_at rules edge.upper) (notes_at state edge.upper) (sessions_of (slice_get state.nodes edge.upper)) (number_of graph.edges edge.upper e) wire.session answer (slice_get graph.nodes edge.upper)))
    e (without_answer wire rest)
hear-is rules graph state e edge wire answer rest is at up = rw (is, at, up) refl

-- an answer that was taken off a wire is work for the upper end
pub hear-fit : (graph : Graph) (packets : List (List ℕ)) (m : Moment) (e : ℕ) (edge : Edge) (slot : Slot) (number session : ℕ) (answer : Verdict) (now : List Wire)
    → IsProper graph → IsWhole graph packets m → slice_get graph.edges e ≡ Some edge → slice_get m.slots edge.upper ≡ Some slot
    → number ≡ number_of graph.edges edge.upper e → IsAnswerOff m.wires e session answer now → IsOver slot.view number session
hear-fit graph packets m e edge slot number session answer now proper whole is at named off =
    let live = whole.live e edge off.wire is off.found in
    let on = on-up off.wire answer off.rest live.off off.first in
    rw off.in_session (over graph packets m e edge off.wire slot number proper whole is off.found on at named)

heard-same : (rules : NodeRules) (answer : Verdict) (xs ys : List Note) (ss ts : List ℕ) (a b c d : ℕ) (k l : Option NodeKind) → xs ≡ ys → ss ≡ ts → a ≡ b → c ≡ d → k ≡ l
    → heard rules xs ss a c answer k ≡ heard rules ys ts b d answer l
heard-same rules answer xs ys ss ts a b c d k l one two three four five = rw (one, two, three, four, five) refl

none_some : (other : List ℕ) → None ≡ Some other → ⊥
none_some other h = cc

heard-is : (rules : Rules) (graph : Graph) (m : Moment) (edge : Edge) (slot : Slot) (number session : ℕ) (answer : Verdict) (wire : Wire) (e : ℕ)
    → slice_get m.slots edge.upper ≡ Some slot → slice_get graph.nodes edge.upper ≡ Some slot.view.config.kind → number ≡ number_of graph.edges edge.upper e → session ≡ wire.session
    → heard (rules_at rules edge.upper) slot.view.notes slot.view.sessions number session answer (Some slot.view.config.kind)
    ≡ heard (rules_at rules edge.upper) (notes_at (state_of m) edge.upper) (sessions_of (slice_get (state_of m).nodes edge.upper)) (number_of graph.edges edge.upper e) wire.session answer (slice_get graph.nodes edge.upper)
heard-is rules graph m edge slot number session answer wire e at kind named in_session =
    heard-same (rules_at rules edge.upper) answer _ _ _ _ _ _ _ _ _ _ (sym (notes-is m edge.upper slot at)) (sym (sessions-is m edge.upper slot at)) named in_session (sym kind)

-- what the model's answer does that is heard
pub hear-does : (rules : Rules) (graph : Graph) (packets : List (List ℕ)) (m : Moment) (e : ℕ) (edge : Edge) (slot : Slot) (number session : ℕ) (answer : Verdict) (wires : List Wire)
    → IsWhole graph packets m → slice_get graph.edges e ≡ Some edge → slice_get m.slots edge.upper ≡ Some slot → number ≡ number_of graph.edges edge.upper e
    → (took : IsAnswerOff m.wires e session answer wires)
    → hear rules graph (state_of m) e
    ≡ record { nodes = more_notes (map node_of m.slots) edge.upper (work_added (rules_at rules edge.upper) slot.view (works.Hear number session answer)); wires = slice_set m.wires e (without_answer took.wire took.rest) }
hear-does rules graph packets m e edge slot number session answer wires whole is at named took =
    hear-is rules graph (state_of m) e edge took.wire answer took.rest is took.found took.first
    ∙ sym (ap (λ (notes : List Note). with_wire (with_notes (state_of m) edge.upper notes) e (without_answer took.wire took.rest))
    (heard-is rules graph m edge slot number session answer took.wire e at (kind-at graph packets m edge.upper slot whole at) named took.in_session))

-- the answer was heard
pub hear-happened : (is_right : Rightness) (graph : Graph) (packets : List (List ℕ)) (m : Moment) (slots : List Slot) (e : ℕ) (edge : Edge) (slot : Slot) (number session : ℕ)
    (answer : Verdict) (wires : List Wire)
    → IsWhole graph packets m → slice_get graph.edges e ≡ Some edge → slice_get m.slots edge.upper ≡ Some slot → number ≡ number_of graph.edges edge.upper e
    → IsAnswerOff m.wires e session answer wires
    → ((rules : NodeRules) (ours : List (List ℕ)) → Unit {0} → is_right slot.view.config ours rules
    → slots ≡ slice_set m.slots edge.upper (record slot { view = worked rules slot.view (works.Hear number session answer) }))
    → (view : EndView) × (slots ≡ slice_set m.slots edge.upper (record slot { view = view })) × OnlyBrings (works.Hear number session answer) slot.view view
    → Happened is_right graph packets (events.Up e) m (record m { slots = slots; wires = wires })
hear-happened is_right graph packets m slots e edge slot number session answer wires whole is at named took value only =
    let wire = took.wire in
    let live = whole.live e edge wire is took.found in
    let on = on-up wire answer took.rest live.off took.first in
    let one = whole-only graph packets m edge.upper slot (works.Hear number session answer) only.0 whole at only.2 (λ other it. absurd (none_some other it)) in
    let both = whole-wire graph packets (record m { slots = slice_set m.slots edge.upper (record slot { view = only.0 }) }) e wire (without_answer wire took.rest) one took.found on on refl refl
    (λ p h. whole.flying e wire p took.found h) in
    rw took.after (record {
      configs = rw only.1 (configs-set m.slots edge.upper slot (record slot { view = only.0 }) at (ap (λ (v : EndView). v.config) only.2.same));
      whole = rw only.1 both;
      value = λ rules right.
          let done = value (rules_at rules edge.upper) packets tt (right-at is_right m.slots packets rules edge.upper slot right at) in
          let same = heard-is rules graph m edge slot number session answer wire e at (kind-at graph packets m edge.upper slot whole at) named took.in_session in
          rw done
          (ap (λ nodes. record { nodes = nodes; wires = slice_set m.wires e (without_answer wire took.rest) })
          (noted m.slots edge.upper slot (work_added (rules_at rules edge.upper) slot.view (works.Hear number session answer)) at)
          ∙ ap (λ (notes : List Note). with_wire (with_notes (state_of m) edge.upper notes) e (without_answer wire took.rest)) same
          ∙ sym (hear-is rules graph (state_of m) e edge wire answer took.rest is took.found took.first));
    })

-- no answer is in flight
pub hear-still : (is_right : Rightness) (graph : Graph) (packets : List (List ℕ)) (m : Moment) (e : ℕ) → IsWhole graph packets m → HasNoAnswer (slice_get m.wires e)
    → Happened is_right graph packets (events.Up e) m m
hear-still is_right graph packets m e whole none =
    happened-still is_right graph packets (events.Up e) m whole (λ rules. still rules graph (state_of m) e (slice_get graph.edges e) (slice_get m.wires e) none)
  where
    empty : (rules : Rules) (graph : Graph) (state : State) (e : ℕ) (edge : Edge) (wire : Wire) (up : List Verdict) → up ≡ [] → state ≡ hear_first rules graph state e edge wire up
    empty rules graph state e edge wire [] h = refl
    empty rules graph state e edge wire (answer ∷ rest) h = cc

    still : (rules : Rules) (graph : Graph) (state : State) (e : ℕ) (edge : Option Edge) (wire : Option Wire) → HasNoAnswer wire → state ≡ hear_over rules graph state e edge wire
    still rules graph state e None wire h = refl
    still rules graph state e (Some edge) None h = refl
    still rules graph state e (Some edge) (Some wire) h = empty rules graph state e edge wire wire.up h

-- the end that hears steps
heard-step : (kind : NodeKind) (number session : ℕ) (answer : Verdict) → is_heard (Some kind) answer ≡ true → is_step kind (works.Hear number session answer) ≡ true
heard-step Author number session (Ack identifier) h = h
heard-step Author number session (Nak (Some identifier) code) h = h
heard-step Author number session (Nak None code) h = cc
heard-step Broker number session (Ack identifier) h = h
heard-step Broker number session (Nak (Some identifier) code) h = cc
heard-step Broker number session (Nak None code) h = cc
heard-step Subscriber number session (Ack identifier) h = cc
heard-step Subscriber number session (Nak (Some identifier) code) h = cc
heard-step Subscriber number session (Nak None code) h = cc

pub hearer-is : (graph : Graph) (packets : List (List ℕ)) (m : Moment) (e n : ℕ) (edge : Edge) (slot : Slot) (number session : ℕ) (answer : Verdict) (now : List Wire)
    → IsWhole graph packets m → slice_get graph.edges e ≡ Some edge → slice_get m.slots edge.upper ≡ Some slot → IsAnswerOff m.wires e session answer now
    → hearer graph (slice_get graph.edges e) (slice_get m.wires e) ≡ Some n → (edge.upper ≡ n) × (is_step slot.view.config.kind (works.Hear number session answer) ≡ true)
hearer-is graph packets m e n edge slot number session answer now whole is at off h =
    let kind = kind-at graph packets m edge.upper slot whole at in
    let first = rw (is, off.found, off.first, kind) at h in
    elim (is_heard (Some slot.view.config.kind) answer) as (λ b. is_heard (Some slot.view.config.kind) answer ≡ b → cond b (Some edge.upper) None ≡ Some n
    → (edge.upper ≡ n) × (is_step slot.view.config.kind (works.Hear number session answer) ≡ true)) [
      | true ↦ λ heard k. (some-one edge.upper n k, heard-step slot.view.config.kind number session answer heard)
      | false ↦ λ not k. absurd (none_some n k)
    ] refl first
  where
    none_some : (n : ℕ) → None ≡ Some n → ⊥
    none_some n h = cc
