-- One turn of an edge at rest: send, deliver, answer.
use Rattle.std.proofs.Common.{◌≡◌, ℕ, ◌+◌, ◌-◌, ◌<◌, arith, Bool, true, false, cond, List, [], ◌∷◌, ◌++◌, length, Option, Some, None, ◌⊎◌, inl, inr, refl, sym, ap, ◌∙◌, append-nil, append_assoc, eq-eqb}
use Rattle.std.proofs.lemmas.Bool.{cond-true, le-ltb, lt-ltb}
use Rattle.std.specs.Prelude.{slice_get, slice_set, nat_lt, ◌==◌, ◌&&◌}
use Rattle.std.specs.Str.{bytes_eq}
use Rattle.net_model.specs.declared.scenario.Edge.{Edge}
use Rattle.net_model.specs.declared.scenario.Graph.{Graph}
use Rattle.voe_values.specs.declared.kind.NodeKind.{NodeKind}
use Rattle.voe_values.specs.declared.kind.NodeKind.TheVariants.{Author, Broker, Subscriber}
use Rattle.net_model.specs.declared.note.Note.{Note}
use Rattle.net_model.specs.declared.note.Note.TheVariants.{Wrote, Acked, Refused, Accept, Done, Enter}
use Rattle.net_model.specs.declared.state.Verdict.{Verdict}
use Rattle.net_model.specs.declared.state.Verdict.TheVariants.{Ack, Nak}
use Rattle.net_model.specs.declared.state.Node.{Node}
use Rattle.net_model.specs.declared.state.Wire.{Wire}
use Rattle.net_model.specs.declared.state.State.{State}
use Rattle.net_model.specs.Connections.{last_session}
use Rattle.net_model.specs.Draining.{IsAllUp, IsProper}
use Rattle.net_model.specs.Flights.{arrive, author_hears, hear, heard, next_over, reply_at, send, sends, with_answer, with_packet, without_answer}
use Rattle.net_model.specs.Laws.{IsIn}
use Rattle.net_model.specs.Nodes.{extended, is_author, is_up, links_of, notes_at, number_of, sessions_of, with_notes, with_wire}
use Rattle.net_model.specs.Notes.{Placed, differs, is_open, knows, passing}
use Rattle.net_model.specs.Rounds.{turn}
use Rattle.net_model.specs.Rules.{Rules, rules_at}
use Rattle.net_model.specs.Steps.{Reply, adds, broker_acked, known_answer, last_of, reply_to, says}
use Rattle.net_model.specs.declared.state.NakCode.{NakCode}
use Rattle.net_model.specs.declared.state.NakCode.TheVariants.{Conflict, Full as NoRoom}
use Rattle.net_model.specs.declared.step.Judged.TheVariants.{Good}
use Rattle.net_model.specs.declared.step.AuthorStep.TheVariants.{Noted as IsNoted, Full as HasNoRoom, Passed as IsPassed}
use Rattle.net_model.specs.declared.step.BrokerStep.TheVariants.{Noted as DoneNoted, Full as DoneNoRoom, Passed as DonePassed}
use Rattle.net_model.proofs.Sound.{LackedRoom}
use Rattle.net_model.proofs.Members.{IsIn-append, get-set, get-set_same, get-other, set-set}
use Rattle.net_model.proofs.Held.{bytes_eq-same}
use Rattle.net_model.proofs.Growth.{notes_at-with_notes, notes_at-with_notes_same}
use Rattle.net_model.proofs.Steps.{size-with_notes}
use Rattle.net_model.proofs.Closed.{settles-closes, settles-member}
use Rattle.net_model.proofs.Sessions.{with_notes-sessions}

-- a connected wire with room in its window sends the first packet that is to be sent
pub send-is : (graph : Graph) (state : State) (e : ℕ) (edge : Edge) (wire : Wire) → slice_get graph.edges e ≡ Some edge → slice_get state.wires e ≡ Some wire
    → wire.connected ≡ true → wire.unanswered < graph.window
    → send graph state e ≡ sends state e wire (next_over graph state e edge wire)
send-is graph state e edge wire is at connected few =
    let first = next_over graph state e edge wire in
    rw (is, at)
    (cond-true wire.connected (cond (nat_lt wire.unanswered graph.window) (sends state e wire first) state) state connected
    ∙ cond-true (nat_lt wire.unanswered graph.window) (sends state e wire first) state (lt-ltb wire.unanswered graph.window few))

-- a packet that arrives at a node that replies
arrive-is : (rules : Rules) (graph : Graph) (state : State) (e : ℕ) (edge : Edge) (wire : Wire) (packet : List ℕ) (rest : List (List ℕ)) (node : Node) (reply : Reply)
    → slice_get graph.edges e ≡ Some edge → slice_get state.wires e ≡ Some wire → wire.down ≡ packet ∷ rest → slice_get state.nodes edge.lower ≡ Some node
    → reply_at rules graph edge.lower (is_author (slice_get graph.nodes edge.upper)) (notes_at state edge.lower) packet (slice_get graph.nodes edge.lower) ≡ Some reply
    → arrive rules graph state e ≡ with_wire (with_notes state edge.lower reply.added) e (with_answer wire rest reply.answer)
arrive-is rules graph state e edge wire packet rest node reply is at down up says =
    rw (is, at, down, up) (rw says refl)

hear-is : (rules : Rules) (graph : Graph) (state : State) (e : ℕ) (edge : Edge) (wire : Wire) (answer : Verdict) (rest : List Verdict)
    → slice_get graph.edges e ≡ Some edge → slice_get state.wires e ≡ Some wire → wire.up ≡ answer ∷ rest
    → hear rules graph state e ≡ with_wire
    (with_notes state edge.upper (heard (rules_at rules edge.upper) (notes_at state edge.upper) (sessions_of (slice_get state.nodes edge.upper)) (number_of graph.edges edge.upper e) wire.session answer (slice_get graph.nodes edge.upper)))
    e (without_answer wire rest)
hear-is rules graph state e edge wire answer rest is at up = rw (is, at, up) refl

-- a turn in which nothing is sent
pub turn-still : (rules : Rules) (graph : Graph) (state : State) (e : ℕ) (edge : Edge) (wire : Wire) → slice_get graph.edges e ≡ Some edge → slice_get state.wires e ≡ Some wire
    → wire.connected ≡ true → wire.unanswered < graph.window → wire.down ≡ [] → wire.up ≡ []
    → next_over graph state e edge wire ≡ None
    → turn rules graph e state ≡ state
turn-still rules graph state e edge wire is at connected few down up none =
    let sent : send graph state e ≡ state = send-is graph state e edge wire is at connected few ∙ ap (λ (o : Option Placed). sends state e wire o) none in
    let came : arrive rules graph state e ≡ state = rw (is, at, down) refl in
    let told : hear rules graph state e ≡ state = rw (is, at, up) refl in
    ap (λ (s : State). hear rules graph (arrive rules graph s e) e) sent ∙ (ap (λ (s : State). hear rules graph s e) came ∙ told)

module _ (rules : Rules) (graph : Graph) (state : State) (e : ℕ) (edge : Edge) (wire : Wire) (first : Placed) (node : Node) (reply : Reply) where
  -- the notes after the delivery, and what the answer adds
  abbrev pub delivered : State
  delivered = with_notes state edge.lower reply.added

  abbrev pub told : List Note
  told =
      heard (rules_at rules edge.upper) (notes_at delivered edge.upper) (sessions_of (slice_get delivered.nodes edge.upper)) (number_of graph.edges edge.upper e) wire.session reply.answer (slice_get graph.nodes edge.upper)

  abbrev pub last_wire : Wire
  last_wire = without_answer (with_answer (with_packet wire first.0 first.1.packet) [] reply.answer) []

  abbrev pub after_turn : State
  after_turn = with_wire (with_notes delivered edge.upper told) e last_wire

  -- a whole turn of an edge at rest
  pub turn-is : slice_get graph.edges e ≡ Some edge → slice_get state.wires e ≡ Some wire
      → wire.connected ≡ true → wire.unanswered < graph.window → wire.down ≡ [] → wire.up ≡ []
      → next_over graph state e edge wire ≡ Some first
      → slice_get state.nodes edge.lower ≡ Some node
      → reply_at rules graph edge.lower (is_author (slice_get graph.nodes edge.upper)) (notes_at state edge.lower) first.1.packet (slice_get graph.nodes edge.lower) ≡ Some reply
      → turn rules graph e state ≡ after_turn
  turn-is is at connected few down up sends' there says =
      let w1 = with_packet wire first.0 first.1.packet in
      let sent : send graph state e ≡ with_wire state e w1 = send-is graph state e edge wire is at connected few ∙ ap (λ (o : Option Placed). sends state e wire o) sends' in
      let one : w1.down ≡ first.1.packet ∷ [] = ap (λ (ps : List (List ℕ)). ps ++ first.1.packet ∷ []) down in
      let came = arrive-is rules graph (with_wire state e w1) e edge w1 first.1.packet [] node reply is (get-set_same state.wires e w1 wire at) one there says in
      let w2 = with_answer w1 [] reply.answer in
      let flown = with_wire (with_notes (with_wire state e w1) edge.lower reply.added) e w2 in
      let back : w2.up ≡ reply.answer ∷ [] = ap (λ (xs : List Verdict). xs ++ reply.answer ∷ []) up in
      let heard' = hear-is rules graph flown e edge w2 reply.answer [] is (get-set_same (slice_set state.wires e w1) e w2 w1 (get-set_same state.wires e w1 wire at)) back in
      let result : List Wire → State = λ wires. record { nodes = (with_notes delivered edge.upper told).nodes; wires = wires } in
      ap (λ (s : State). hear rules graph (arrive rules graph s e) e) sent ∙ (ap (λ (s : State). hear rules graph s e) came ∙ (heard'
      ∙ ap result (set-set (slice_set state.wires e w1) e w2 last_wire ∙ set-set state.wires e w1 last_wire)))

-- only notes that no author wrote come, behind the others
abbrev pub AddsUnwritten : State → State → Type 0
AddsUnwritten old new =
    (n : ℕ) → (added : List Note) × (notes_at new n ≡ notes_at old n ++ added) × ((identifier packet : List ℕ) → IsIn (Wrote identifier packet) added → ⊥)

adds_unwritten : (state : State) (n : ℕ) (added : List Note) → ((identifier packet : List ℕ) → IsIn (Wrote identifier packet) added → ⊥)
    → AddsUnwritten state (with_notes state n added)
adds_unwritten state n added none m =
    elim (notes_at-with_notes state n m added) [
      | inl same ↦ ([], same ∙ sym (append-nil (notes_at state m)), λ identifier packet h. h)
      | inr both ↦ (added, both.1, none)
    ]

adds_unwritten-twice : (old middle new : State) → AddsUnwritten old middle → AddsUnwritten middle new → AddsUnwritten old new
adds_unwritten-twice old middle new one two n =
    let a = one n in
    let b = two n in (
      a.0 ++ b.0,
      b.1 ∙ (ap (λ (notes : List Note). notes ++ b.0) a.1 ∙ append_assoc (notes_at old n) a.0 b.0),
      λ identifier packet h. elim (IsIn-append (Wrote identifier packet) a.0 b.0 h) [ inl first ↦ a.2 identifier packet first | inr later ↦ b.2 identifier packet later ],
    )

-- what may be answered to a good packet, and what is added for it
pub record IsReply (rules : Rules) (from_line : Bool) (identifier : List ℕ) (reply : Reply) : Type 0 where
  pub answer : (reply.answer ≡ Ack identifier)
      ⊎ ((code : NakCode) × (reply.answer ≡ Nak (Some identifier) code) × ((from_line ≡ true) ⊎ LackedRoom rules))
  pub unwritten : (other packet : List ℕ) → IsIn (Wrote other packet) reply.added → ⊥

known_answer-may : (rules : Rules) (n : ℕ) (notes : List Note) (from_line : Bool) (packet identifier : List ℕ)
    → IsReply rules from_line identifier (says (known_answer (rules_at rules n) notes from_line packet identifier))
known_answer-may rules n notes false packet identifier = record { answer = inl refl; unwritten = λ other p h. h }
known_answer-may rules n notes true packet identifier =
    elim (differs (rules_at rules n) notes identifier packet) as (λ b. IsReply rules true identifier (says (cond b (Nak (Some identifier) Conflict) (Ack identifier)))) [
      | true ↦ record { answer = inr (Conflict, refl, inl refl); unwritten = λ other p h. h }
      | false ↦ record { answer = inl refl; unwritten = λ other p h. h }
    ]

reply_to-may : (rules : Rules) (n : ℕ) (notes : List Note) (from_line : Bool) (packet identifier : List ℕ) (note : Note)
    → ((other p : List ℕ) → Wrote other p ≡ note → ⊥) → IsReply rules from_line identifier (reply_to (rules_at rules n) notes from_line packet identifier note)
reply_to-may rules n notes from_line packet identifier note unwritten =
    elim (knows notes identifier) as (λ b. IsReply rules from_line identifier
    (cond b (says (known_answer (rules_at rules n) notes from_line packet identifier)) (adds (rules.has_room n notes note) note (Ack identifier) (Nak (Some identifier) NoRoom)))) [
      | true ↦ known_answer-may rules n notes from_line packet identifier
      | false ↦ elim (rules.has_room n notes note) as (λ b. rules.has_room n notes note ≡ b → IsReply rules from_line identifier (adds b note (Ack identifier) (Nak (Some identifier) NoRoom))) [
        | true ↦ λ room. record { answer = inl refl; unwritten = λ other p h. elim h [ inl same ↦ unwritten other p same | inr none ↦ none ] }
        | false ↦ λ full. record { answer = inr (NoRoom, refl, inr (n, notes, note, full)); unwritten = λ other p h. h }
      ] refl
    ]

-- a broker or subscriber replies to a good packet
pub reply_at-may : (rules : Rules) (graph : Graph) (n : ℕ) (from_line : Bool) (notes : List Note) (packet identifier : List ℕ)
    → (slice_get graph.nodes n ≡ Some Broker) ⊎ ((slice_get graph.nodes n ≡ Some Subscriber) × (from_line ≡ false)) → rules.judge packet ≡ Good identifier
    → (reply : Reply) × (reply_at rules graph n from_line notes packet (slice_get graph.nodes n) ≡ Some reply) × IsReply rules from_line identifier reply
reply_at-may rules graph n from_line notes packet identifier (inl kind) good =
    let note = Accept identifier (passing (rules_at rules n) 0 (links_of graph n) packet) packet in
    (reply_to (rules_at rules n) notes from_line packet identifier note, rw (kind, good) refl, reply_to-may rules n notes from_line packet identifier note (λ other p h. cc))
reply_at-may rules graph n from_line notes packet identifier (inr kind) good =
    let note = Enter identifier packet in (
      reply_to (rules_at rules n) notes false packet identifier note,
      rw (kind.0, good) refl,
      rw kind.1 (reply_to-may rules n notes false packet identifier note (λ other p h. cc)),
    )

-- what an upper end adds for the answer closes the identifier, unless there was no room
pub record Closes (rules : Rules) (notes : List Note) (number : ℕ) (identifier : List ℕ) (added : List Note) : Type 0 where
  pub closes : LackedRoom rules ⊎ (is_open (notes ++ added) number identifier ≡ false)
  pub unwritten : (other packet : List ℕ) → IsIn (Wrote other packet) added → ⊥

is_this : (number : ℕ) (identifier : List ℕ) → (number == number && bytes_eq identifier identifier) ≡ true
is_this number identifier = rw (eq-eqb number number refl) (bytes_eq-same identifier)

author_hears-closes : (rules : Rules) (n : ℕ) (notes : List Note) (number : ℕ) (identifier : List ℕ) (from_line : Bool) (reply : Reply)
    → IsReply rules from_line identifier reply → Closes rules notes number identifier (author_hears (rules_at rules n) notes number reply.answer)
author_hears-closes rules n notes number identifier from_line reply may =
    elim may.answer [
      | inl ack ↦ rw ack (record {
        closes = settles-closes rules n notes number identifier (Acked number identifier) IsNoted HasNoRoom IsPassed (is_this number identifier);
        unwritten = λ other p h. let same = settles-member (rules_at rules n) notes number identifier (Acked number identifier) IsNoted HasNoRoom IsPassed (Wrote other p) h in cc;
      })
      | inr nak ↦ rw nak.1 (record {
        closes = settles-closes rules n notes number identifier (Refused number identifier) IsNoted HasNoRoom IsPassed (is_this number identifier);
        unwritten = λ other p h. let same = settles-member (rules_at rules n) notes number identifier (Refused number identifier) IsNoted HasNoRoom IsPassed (Wrote other p) h in cc;
      })
    ]

-- a broker that hears an ack in the last session of its link
acked-closes : (rules : Rules) (n : ℕ) (notes : List Note) (sessions : List ℕ) (number session : ℕ) (identifier : List ℕ) → session ≡ last_of sessions number
    → Closes rules notes number identifier (broker_acked (rules_at rules n) notes sessions number session identifier).added
acked-closes rules n notes sessions number session identifier last =
    let newest : nat_lt session (last_of sessions number) ≡ false = le-ltb session (last_of sessions number) (omega (arith, last)) in
    rw newest (record {
      closes = settles-closes rules n notes number identifier (Done number identifier) DoneNoted DoneNoRoom DonePassed (is_this number identifier);
      unwritten = λ other p h. let same = settles-member (rules_at rules n) notes number identifier (Done number identifier) DoneNoted DoneNoRoom DonePassed (Wrote other p) h in cc;
    })

heard-closes : (rules : Rules) (n : ℕ) (notes : List Note) (sessions : List ℕ) (number session : ℕ) (identifier : List ℕ) (from_line : Bool) (reply : Reply) (kind : Option NodeKind)
    → IsReply rules from_line identifier reply → session ≡ last_of sessions number
    → ((kind ≡ Some Author) × (from_line ≡ true)) ⊎ ((kind ≡ Some Broker) × (from_line ≡ false))
    → Closes rules notes number identifier (heard (rules_at rules n) notes sessions number session reply.answer kind)
heard-closes rules n notes sessions number session identifier from_line reply kind may last (inl author) =
    rw author.0 (author_hears-closes rules n notes number identifier from_line reply may)
heard-closes rules n notes sessions number session identifier from_line reply kind may last (inr broker) =
    elim may.answer [
      | inl ack ↦ rw (broker.0, ack) (acked-closes rules n notes sessions number session identifier last)
      | inr nak ↦ rw (broker.0, nak.1) (record {
        closes = elim nak.2 [ inl from ↦ (let clash : true ≡ false = sym from ∙ broker.1 in cc) | inr lacked ↦ inl lacked ];
        unwritten = λ other p h. h;
      })
    ]

-- the ends of an edge
pub record HasEnds (graph : Graph) (edge : Edge) : Type 0 where
  pub upper : NodeKind
  pub lower : NodeKind
  pub upper_is : slice_get graph.nodes edge.upper ≡ Some upper
  pub lower_is : slice_get graph.nodes edge.lower ≡ Some lower
  pub replies : (slice_get graph.nodes edge.lower ≡ Some Broker)
      ⊎ ((slice_get graph.nodes edge.lower ≡ Some Subscriber) × (is_author (slice_get graph.nodes edge.upper) ≡ false))
  pub hears : ((slice_get graph.nodes edge.upper ≡ Some Author) × (is_author (slice_get graph.nodes edge.upper) ≡ true))
      ⊎ ((slice_get graph.nodes edge.upper ≡ Some Broker) × (is_author (slice_get graph.nodes edge.upper) ≡ false))

pub ends_of : (graph : Graph) (e : ℕ) (edge : Edge) → IsProper graph → slice_get graph.edges e ≡ Some edge → HasEnds graph edge
ends_of graph e edge proper is =
    elim (proper.ends e edge is) [
      | inl line ↦ record { upper = Author; lower = Broker; upper_is = line.0; lower_is = line.1; replies = inl line.1; hears = inl (line.0, rw line.0 refl) }
      | inr link ↦ elim link.1 [
        | inl broker ↦ record { upper = Broker; lower = Broker; upper_is = link.0; lower_is = broker; replies = inl broker; hears = inr (link.0, rw link.0 refl) }
        | inr subscriber ↦ record {
          upper = Broker;
          lower = Subscriber;
          upper_is = link.0;
          lower_is = subscriber;
          replies = inr (subscriber, rw link.0 refl);
          hears = inr (link.0, rw link.0 refl);
        }
      ]
    ]

-- more notes leave every node up
ups-with_notes : (state : State) (n : ℕ) (added : List Note) → IsAllUp state → IsAllUp (with_notes state n added)
ups-with_notes state n [] ups m node is = ups m node is
ups-with_notes state n (first ∷ more) ups m node is =
    elim (slice_get state.nodes n) as (λ o. slice_get state.nodes n ≡ o → slice_get (extended state.nodes n (first ∷ more) o) m ≡ Some node → node.up ≡ true) [
      | None ↦ λ none same. ups m node same
      | Some old ↦ λ found changed. elim (get-set state.nodes n m (record old { notes = old.notes ++ first ∷ more })) [
        | inl same ↦ ups m node (sym same ∙ changed)
        | inr both ↦ ap is_up (sym changed ∙ both.1) ∙ ups n old found
      ]
    ] refl is

-- what a whole turn does in which a packet with this identifier is sent
pub record IsTurn (rules : Rules) (graph : Graph) (state : State) (e : ℕ) (edge : Edge) (wire : Wire) (first : Placed) (identifier : List ℕ) (later : State) : Type 0 where
  pub new : Wire
  pub connected : new.connected ≡ wire.connected
  pub down : new.down ≡ []
  pub up : new.up ≡ []
  pub sent : new.sent ≡ wire.sent ++ first.0 ∷ []
  pub unanswered : new.unanswered ≡ wire.unanswered + 1 - 1
  pub wires : later.wires ≡ slice_set state.wires e new
  pub notes : AddsUnwritten state later
  pub ups : IsAllUp state → IsAllUp later
  pub closes : LackedRoom rules ⊎ (is_open (notes_at later edge.upper) (number_of graph.edges edge.upper e) identifier ≡ false)

pub turn-sends : (rules : Rules) (graph : Graph) (state : State) (e : ℕ) (edge : Edge) (wire : Wire) (first : Placed) (identifier : List ℕ)
    → IsProper graph → length state.nodes ≡ length graph.nodes → wire.session ≡ last_session (slice_get state.nodes edge.upper) (number_of graph.edges edge.upper e)
    → slice_get graph.edges e ≡ Some edge → slice_get state.wires e ≡ Some wire
    → wire.connected ≡ true → wire.unanswered < graph.window → wire.down ≡ [] → wire.up ≡ []
    → next_over graph state e edge wire ≡ Some first
    → rules.judge first.1.packet ≡ Good identifier → IsTurn rules graph state e edge wire first identifier (turn rules graph e state)
turn-sends rules graph state e edge wire first identifier proper size current is at connected few down up sends' good =
    let ends = ends_of graph e edge proper is in
    let there = get-other graph.nodes state.nodes edge.lower ends.lower (sym size) ends.lower_is in
    let from_line = is_author (slice_get graph.nodes edge.upper) in
    let reply = reply_at-may rules graph edge.lower from_line (notes_at state edge.lower) first.1.packet identifier ends.replies good in
    let mid = with_notes state edge.lower reply.0.added in
    let number = number_of graph.edges edge.upper e in
    let sessions = sessions_of (slice_get mid.nodes edge.upper) in
    let added = heard (rules_at rules edge.upper) (notes_at mid edge.upper) sessions number wire.session reply.0.answer (slice_get graph.nodes edge.upper) in
    let last : wire.session ≡ last_of sessions number = current ∙ sym (with_notes-sessions state edge.lower edge.upper number reply.0.added) in
    let closes = heard-closes rules edge.upper (notes_at mid edge.upper) sessions number wire.session identifier from_line reply.0 (slice_get graph.nodes edge.upper) reply.2 last ends.hears in
    let sizes = size-with_notes state edge.lower reply.0.added in
    let upper = get-other graph.nodes mid.nodes edge.upper ends.upper (sym size ∙ sym sizes) ends.upper_is in
    let is' = turn-is rules graph state e edge wire first there.0 reply.0 is at connected few down up sends' there.1 reply.1 in
    rw is' (record {
      new = last_wire rules graph state e edge wire first there.0 reply.0;
      connected = refl;
      down = refl;
      up = refl;
      sent = refl;
      unanswered = refl;
      wires = refl;
      notes = adds_unwritten-twice state mid (with_notes mid edge.upper added) (adds_unwritten state edge.lower reply.0.added reply.2.unwritten)
          (adds_unwritten mid edge.upper added closes.unwritten);
      ups = λ ups. ups-with_notes mid edge.upper added (ups-with_notes state edge.lower reply.0.added ups);
      closes = rw (notes_at-with_notes_same mid edge.upper added upper.0 upper.1) closes.closes;
    })
