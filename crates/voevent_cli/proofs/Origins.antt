-- Which packets and lines the notes of a run name.
use Rattle.std.proofs.Common.{◌≡◌, ℕ, zero, suc, ◌+◌, ◌*◌, ◌<◌, Bool, true, false, cond, List, [], ◌∷◌, length, Option, Some, None, inl, inr, refl, sym, subst}
use Rattle.std.specs.Prelude.{slice_get, nat_lt}
use Rattle.net_model.specs.declared.scenario.Edge.{Edge}
use Rattle.net_model.specs.declared.scenario.Event.{Event}
use Rattle.net_model.specs.declared.scenario.Event.TheVariants.{Write, Send, Down, Up, Cut, Connect, Crash, Reopen, Stop, Drain}
use Rattle.net_model.specs.declared.scenario.Graph.{Graph}
use Rattle.net_model.specs.declared.scenario.Inner.{Inner}
use Rattle.net_model.specs.declared.scenario.Inner.TheVariants.{Write as InWrite, Down as InDown, Up as InUp}
use Rattle.voe_values.specs.declared.kind.NodeKind.{NodeKind}
use Rattle.voe_values.specs.declared.kind.NodeKind.TheVariants.{Author, Broker, Subscriber}
use Rattle.net_model.specs.declared.note.Note.{Note}
use Rattle.net_model.specs.declared.note.Note.TheVariants.{Wrote, Acked, Refused, Accept, Done, Enter}
use Rattle.net_model.specs.declared.state.Node.{Node}
use Rattle.net_model.specs.declared.state.State.{State}
use Rattle.net_model.specs.declared.state.Verdict.{Verdict}
use Rattle.net_model.specs.declared.state.Verdict.TheVariants.{Ack, Nak}
use Rattle.net_model.specs.declared.state.Wire.{Wire}
use Rattle.net_model.specs.Connections.{connect, crash, crash_node, cut, down_node, reopen}
use Rattle.net_model.specs.Flights.{arrive, arrive_first, arrive_over, arrives, hear, hear_first, hear_over, heard, next_over, reply_at, send, send_over, sends, writes}
use Rattle.net_model.specs.Laws.{IsIn, Stands}
use Rattle.net_model.specs.Nodes.{is_author, is_up, links_of, notes_at, notes_of, number_of, sessions_of, with_notes}
use Rattle.net_model.specs.Notes.{Placed, is_open, knows, passing}
use Rattle.net_model.specs.Rounds.{all_written, restarted, round, rounds, turn, turns}
use Rattle.net_model.specs.Rules.{NodeRules, Rules, rules_at}
use Rattle.net_model.specs.Runs.{actor_of, after, beginning, first_nodes, happens, inner_happens, is_kept, run, stopped}
use Rattle.net_model.specs.Steps.{adds, author_write, broker_judged, known_answer, last_of, reply_to, says, settles, subscriber_judged, write_judged}
use Rattle.net_model.specs.declared.state.NakCode.TheVariants.{Full as NoRoom}
use Rattle.net_model.specs.declared.step.Judged.{Judged}
use Rattle.net_model.specs.declared.step.Judged.TheVariants.{BadTree, BadPacket, Good}
use Rattle.net_model.specs.declared.step.AuthorStep.TheVariants.{Wrote as HasWritten, Known as KnownBefore, Noted as IsNoted, Full as HasNoRoom, Passed as IsPassed}
use Rattle.net_model.specs.declared.step.BrokerStep.TheVariants.{Noted as DoneNoted, Full as DoneNoRoom, Passed as DonePassed, Replaced}
use Rattle.net_model.proofs.Growth.{notes_at-with_notes}
use Rattle.net_model.proofs.Kept.{with_node-notes}
use Rattle.net_model.proofs.Members.{IsIn-append, IsIn-get}
use Rattle.net_model.proofs.Places.{edges_of-number_of, link-few}
use Rattle.net_model.proofs.Restart.{connect-notes, cut-notes, reopen-notes, restarted-notes}

-- a written packet is one of these, and an author's answer came on one of its lines
abbrev pub IsFrom : Graph → List (List ℕ) → ℕ → Note → Type 0
IsFrom graph packets n (Wrote identifier packet) = IsIn packet packets
IsFrom graph packets n (Acked line identifier) = line < links_of graph n
IsFrom graph packets n (Refused line identifier) = line < links_of graph n
IsFrom graph packets n (Accept identifier links packet) = Unit {0}
IsFrom graph packets n (Done link identifier) = Unit {0}
IsFrom graph packets n (Enter identifier packet) = Unit {0}

abbrev pub AllFrom : Graph → List (List ℕ) → State → Type 0
AllFrom graph packets state = (n : ℕ) (note : Note) → Stands state n note → IsFrom graph packets n note

-- a note that is added is this one
in_added : {A : Type 0} (room : Bool) (note : Note) (said full : A) (x : Note) → IsIn x (adds room note said full).added → x ≡ note
in_added true note said full x (inl same) = same
in_added true note said full x (inr none) = absurd none
in_added false note said full x none = absurd none

in_settled : {A : Type 0} (rules : NodeRules) (notes : List Note) (number : ℕ) (identifier : List ℕ) (note : Note) (noted full passed : A) (x : Note)
    → IsIn x (settles rules notes number identifier note noted full passed).added → x ≡ note
in_settled {A} rules notes number identifier note noted full passed x h =
    elim (is_open notes number identifier) as (λ b. IsIn x (cond b (adds (rules.has_room notes note) note noted full) (says passed)).added → x ≡ note) [
      | true ↦ λ in'. in_added (rules.has_room notes note) note noted full x in'
      | false ↦ λ in'. absurd in'
    ] h

in_reply : (rules : NodeRules) (notes : List Note) (from_line : Bool) (packet identifier : List ℕ) (note x : Note)
    → IsIn x (reply_to rules notes from_line packet identifier note).added → x ≡ note
in_reply rules notes from_line packet identifier note x h =
    elim (knows notes identifier) as (λ b. IsIn x (cond b (says (known_answer rules notes from_line packet identifier))
    (adds (rules.has_room notes note) note (Ack identifier) (Nak (Some identifier) NoRoom))).added → x ≡ note) [
      | true ↦ λ in'. absurd in'
      | false ↦ λ in'. in_added (rules.has_room notes note) note (Ack identifier) (Nak (Some identifier) NoRoom) x in'
    ] h

module _ (rules : Rules) (graph : Graph) (packets : List (List ℕ)) where
  from_same : (old new : State) → ((n : ℕ) → notes_at new n ≡ notes_at old n) → AllFrom graph packets old → AllFrom graph packets new
  from_same old new same all n note stands = all n note (subst (IsIn note) (same n) stands)

  from_added : (state : State) (a : ℕ) (added : List Note) → ((note : Note) → IsIn note added → IsFrom graph packets a note)
      → AllFrom graph packets state → AllFrom graph packets (with_notes state a added)
  from_added state a added new all n note stands =
      elim (notes_at-with_notes state a n added) [
        | inl same ↦ all n note (subst (IsIn note) same stands)
        | inr both ↦ elim (IsIn-append note (notes_at state n) added (subst (IsIn note) both.1 stands)) [
          | inl old ↦ all n note old
          | inr now ↦ subst (λ m. IsFrom graph packets m note) (sym both.0) (new note now)
        ]
      ]

  -- ---- writing

  from_judged : (a : ℕ) (notes : List Note) (packet : List ℕ) (judged : Judged) → IsIn packet packets → (note : Note)
      → IsIn note (write_judged (rules_at rules a) notes packet judged).added → IsFrom graph packets a note
  from_judged a notes packet (BadTree number) is note in' = absurd in'
  from_judged a notes packet (BadPacket number identifier) is note in' = absurd in'
  from_judged a notes packet (Good identifier) is note in' =
      let own = Wrote identifier packet in
      elim (knows notes identifier) as (λ b. IsIn note (cond b (says KnownBefore) (adds (rules.has_room a notes own) own HasWritten HasNoRoom)).added → IsFrom graph packets a note) [
        | true ↦ λ none. absurd none
        | false ↦ λ one. let same = in_added (rules.has_room a notes own) own HasWritten HasNoRoom note one in rw same is
      ] in'

  from_writes : (state : State) (a : ℕ) (an_author : Bool) (found : Option Node) (packet : Option (List ℕ)) → ((p : List ℕ) → packet ≡ Some p → IsIn p packets)
      → AllFrom graph packets state → AllFrom graph packets (writes rules state a an_author found packet)
  from_writes state a an_author None packet is all = all
  from_writes state a an_author (Some node) None is all = all
  from_writes state a false (Some node) (Some packet) is all = all
  from_writes state a true (Some node) (Some packet) is all =
      elim node.up as (λ b. AllFrom graph packets (cond b (with_notes state a (author_write (rules_at rules a) (notes_at state a) packet).added) state)) [
        | false ↦ all
        | true ↦ from_added state a _ (from_judged a (notes_at state a) packet (rules.judge packet) (is packet refl)) all
      ]

  -- ---- sending

  from_sends : (state : State) (e : ℕ) (wire : Wire) (first : Option Placed) → AllFrom graph packets state → AllFrom graph packets (sends state e wire first)
  from_sends state e wire None all = all
  from_sends state e wire (Some first) all = all

  from_send : (state : State) (e : ℕ) → AllFrom graph packets state → AllFrom graph packets (send graph state e)
  from_send state e all =
      elim (slice_get graph.edges e) as (λ o. AllFrom graph packets (send_over graph state e o (slice_get state.wires e))) [
        | None ↦ all
        | Some edge ↦ elim (slice_get state.wires e) as (λ o. AllFrom graph packets (send_over graph state e (Some edge) o)) [
          | None ↦ all
          | Some wire ↦ elim wire.connected as (λ b. AllFrom graph packets (cond b (cond (nat_lt wire.unanswered graph.window) (sends state e wire (next_over graph state e edge wire)) state) state)) [
            | false ↦ all
            | true ↦ elim (nat_lt wire.unanswered graph.window) as (λ b. AllFrom graph packets (cond b (sends state e wire (next_over graph state e edge wire)) state)) [
              | false ↦ all
              | true ↦ from_sends state e wire (next_over graph state e edge wire) all
            ]
          ]
        ]
      ]

  -- ---- delivering

  from_broker : (n : ℕ) (notes : List Note) (from_line : Bool) (packet : List ℕ) (judged : Judged) (note : Note)
      → IsIn note (broker_judged (rules_at rules n) (links_of graph n) notes from_line packet judged).added → IsFrom graph packets n note
  from_broker n notes from_line packet (BadTree number) note in' = absurd in'
  from_broker n notes from_line packet (BadPacket number identifier) note in' = absurd in'
  from_broker n notes from_line packet (Good identifier) note in' =
      let own = Accept identifier (passing (rules_at rules n) 0 (links_of graph n) packet) packet in
      let same = in_reply (rules_at rules n) notes from_line packet identifier own note in' in rw same tt

  from_subscriber : (n : ℕ) (notes : List Note) (packet : List ℕ) (judged : Judged) (note : Note)
      → IsIn note (subscriber_judged (rules_at rules n) notes packet judged).added → IsFrom graph packets n note
  from_subscriber n notes packet (BadTree number) note in' = absurd in'
  from_subscriber n notes packet (BadPacket number identifier) note in' = absurd in'
  from_subscriber n notes packet (Good identifier) note in' =
      let same = in_reply (rules_at rules n) notes false packet identifier (Enter identifier packet) note in' in rw same tt

  from_arrives : (state : State) (e : ℕ) (edge : Edge) (wire : Wire) (rest : List (List ℕ)) (from_line : Bool) (packet : List ℕ) (kind : Option NodeKind)
      → AllFrom graph packets state → AllFrom graph packets (arrives state e edge wire rest (reply_at rules graph edge.lower from_line (notes_at state edge.lower) packet kind))
  from_arrives state e edge wire rest from_line packet (Some Broker) all =
      from_added state edge.lower _ (from_broker edge.lower (notes_at state edge.lower) from_line packet (rules.judge packet)) all
  from_arrives state e edge wire rest from_line packet (Some Subscriber) all =
      from_added state edge.lower _ (from_subscriber edge.lower (notes_at state edge.lower) packet (rules.judge packet)) all
  from_arrives state e edge wire rest from_line packet (Some Author) all = all
  from_arrives state e edge wire rest from_line packet None all = all

  from_arrive_first : (state : State) (e : ℕ) (edge : Edge) (wire : Wire) (down : List (List ℕ)) (found : Option Node)
      → AllFrom graph packets state → AllFrom graph packets (arrive_first rules graph state e edge wire down found)
  from_arrive_first state e edge wire [] found all = all
  from_arrive_first state e edge wire (packet ∷ rest) None all = all
  from_arrive_first state e edge wire (packet ∷ rest) (Some node) all =
      from_arrives state e edge wire rest (is_author (slice_get graph.nodes edge.upper)) packet (slice_get graph.nodes edge.lower) all

  from_arrive : (state : State) (e : ℕ) → AllFrom graph packets state → AllFrom graph packets (arrive rules graph state e)
  from_arrive state e all =
      elim (slice_get graph.edges e) as (λ o. AllFrom graph packets (arrive_over rules graph state e o (slice_get state.wires e))) [
        | None ↦ all
        | Some edge ↦ elim (slice_get state.wires e) as (λ o. AllFrom graph packets (arrive_over rules graph state e (Some edge) o)) [
          | None ↦ all
          | Some wire ↦ from_arrive_first state e edge wire wire.down (slice_get state.nodes edge.lower) all
        ]
      ]

  -- ---- answering

  from_heard : (n number : ℕ) (notes : List Note) (sessions : List ℕ) (session : ℕ) (answer : Verdict) (kind : Option NodeKind) → number < links_of graph n
      → (note : Note) → IsIn note (heard (rules_at rules n) notes sessions number session answer kind) → IsFrom graph packets n note
  from_heard n number notes sessions session (Ack identifier) (Some Author) few note in' =
      let same = in_settled (rules_at rules n) notes number identifier (Acked number identifier) IsNoted HasNoRoom IsPassed note in' in rw same few
  from_heard n number notes sessions session (Nak (Some identifier) code) (Some Author) few note in' =
      let same = in_settled (rules_at rules n) notes number identifier (Refused number identifier) IsNoted HasNoRoom IsPassed note in' in rw same few
  from_heard n number notes sessions session (Nak None code) (Some Author) few note in' = absurd in'
  from_heard n number notes sessions session (Ack identifier) (Some Broker) few note in' =
      let done = settles (rules_at rules n) notes number identifier (Done number identifier) DoneNoted DoneNoRoom DonePassed in
      elim (nat_lt session (last_of sessions number)) as (λ b. IsIn note (cond b (says (Replaced (last_of sessions number))) done).added → IsFrom graph packets n note) [
        | true ↦ λ none. absurd none
        | false ↦ λ one. let same = in_settled (rules_at rules n) notes number identifier (Done number identifier) DoneNoted DoneNoRoom DonePassed note one in rw same tt
      ] in'
  from_heard n number notes sessions session (Nak identifier code) (Some Broker) few note in' = absurd in'
  from_heard n number notes sessions session answer (Some Subscriber) few note in' = absurd in'
  from_heard n number notes sessions session answer None few note in' = absurd in'

  from_hear_first : (state : State) (e : ℕ) (edge : Edge) (wire : Wire) (up : List Verdict) → slice_get graph.edges e ≡ Some edge
      → AllFrom graph packets state → AllFrom graph packets (hear_first rules graph state e edge wire up)
  from_hear_first state e edge wire [] is all = all
  from_hear_first state e edge wire (answer ∷ rest) is all =
      let number = number_of graph.edges edge.upper e in
      from_added state edge.upper _
      (from_heard edge.upper number (notes_at state edge.upper) (sessions_of (slice_get state.nodes edge.upper)) wire.session answer (slice_get graph.nodes edge.upper)
      (link-few graph edge.upper number edge (edges_of-number_of graph.edges e edge is))) all

  from_hear : (state : State) (e : ℕ) → AllFrom graph packets state → AllFrom graph packets (hear rules graph state e)
  from_hear state e all =
      elim (slice_get graph.edges e) as (λ o. slice_get graph.edges e ≡ o → AllFrom graph packets (hear_over rules graph state e o (slice_get state.wires e))) [
        | None ↦ λ is. all
        | Some edge ↦ λ is. elim (slice_get state.wires e) as (λ o. AllFrom graph packets (hear_over rules graph state e (Some edge) o)) [
          | None ↦ all
          | Some wire ↦ from_hear_first state e edge wire wire.up is all
        ]
      ] refl

  -- ---- events

  from_crash_node : (state : State) (n : ℕ) → AllFrom graph packets state → AllFrom graph packets (crash_node graph state n)
  from_crash_node state n all = from_same state (crash_node graph state n) (λ m. with_node-notes down_node (λ node. refl) state.nodes n m) all

  from_crash : (state : State) (n : ℕ) → AllFrom graph packets state → AllFrom graph packets (crash graph state n)
  from_crash state n all =
      elim (is_up (slice_get state.nodes n)) as (λ b. AllFrom graph packets (cond b (crash_node graph state n) state))
      [ true ↦ from_crash_node state n all | false ↦ all ]

  from_turn : (e : ℕ) (state : State) → AllFrom graph packets state → AllFrom graph packets (turn rules graph e state)
  from_turn e state all = from_hear (arrive rules graph (send graph state e) e) e (from_arrive (send graph state e) e (from_send state e all))

  from_turns : (e more : ℕ) (state : State) → AllFrom graph packets state → AllFrom graph packets (turns rules graph e more state)
  from_turns e zero state all = all
  from_turns e (suc more) state all = from_turns (e + 1) more (turn rules graph e state) (from_turn e state all)

  from_rounds : (count : ℕ) (state : State) → AllFrom graph packets state → AllFrom graph packets (rounds rules graph count state)
  from_rounds zero state all = all
  from_rounds (suc count) state all = from_rounds count (round rules graph state) (from_turns 0 (length graph.edges) state all)

  from_inner : (state : State) (inner : Inner) → AllFrom graph packets state → AllFrom graph packets (inner_happens rules graph packets state inner)
  from_inner state (InWrite author packet) all =
      from_writes state author (is_author (slice_get graph.nodes author)) (slice_get state.nodes author) (slice_get packets packet) (λ p is. IsIn-get packets packet p is) all
  from_inner state (InDown edge) all = from_arrive state edge all
  from_inner state (InUp edge) all = from_hear state edge all

  from_stopped : (state : State) (kept : Bool) (inner : Inner) (actor : Option ℕ) → AllFrom graph packets state
      → AllFrom graph packets (stopped rules graph packets state kept inner actor)
  from_stopped state kept inner None all = all
  from_stopped state true inner (Some actor) all = from_crash_node (inner_happens rules graph packets state inner) actor (from_inner state inner all)
  from_stopped state false inner (Some actor) all = from_crash_node state actor all

  from_happens : (state : State) (event : Event) → AllFrom graph packets state → AllFrom graph packets (happens rules graph packets state event)
  from_happens state (Write author packet) all = from_inner state (InWrite author packet) all
  from_happens state (Send edge) all = from_send state edge all
  from_happens state (Down edge) all = from_arrive state edge all
  from_happens state (Up edge) all = from_hear state edge all
  from_happens state (Cut edge) all = from_same state (cut state edge) (cut-notes state edge) all
  from_happens state (Connect edge) all = from_same state (connect graph state edge) (connect-notes graph state edge) all
  from_happens state (Crash node) all = from_crash state node all
  from_happens state (Reopen node) all = from_same state (reopen state node) (reopen-notes state node) all
  from_happens state (Stop calls fill inner) all = from_stopped state (is_kept calls fill) inner (actor_of rules graph packets state inner) all
  from_happens state Drain all =
      from_rounds (length graph.edges * length (all_written state.nodes)) (restarted graph state)
      (from_same state (restarted graph state) (restarted-notes graph state) all)

  from_run : (events : List Event) (state : State) → AllFrom graph packets state → AllFrom graph packets (run rules graph packets events state)
  from_run [] state all = all
  from_run (event ∷ events) state all = from_run events (happens rules graph packets state event) (from_happens state event all)

  no_notes : (k : ℕ) (kinds : List NodeKind) (n : ℕ) → notes_of (slice_get (first_nodes graph k kinds) n) ≡ []
  no_notes k [] n = refl
  no_notes k (Author ∷ kinds) zero = refl
  no_notes k (Broker ∷ kinds) zero = refl
  no_notes k (Subscriber ∷ kinds) zero = refl
  no_notes k (kind ∷ kinds) (suc n) = no_notes (k + 1) kinds n

  pub from_after : (events : List Event) → AllFrom graph packets (after rules graph packets events)
  from_after events =
      from_run events (beginning graph) (λ n note stands. absurd (subst (IsIn note) (no_notes 0 graph.nodes n) stands))
