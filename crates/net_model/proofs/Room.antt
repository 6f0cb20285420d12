-- Where each note has room, a run is that of journals that never fill.
use Rattle.std.proofs.Common.{◌≡◌, ℕ, zero, suc, ◌+◌, ◌*◌, Bool, true, false, cond, List, [], ◌∷◌, ◌++◌, length, Option, Some, None, inl, inr, refl, sym, ap, ◌∙◌, append-nil, append_assoc}
use Rattle.std.specs.Prelude.{slice_get, nat_lt}
use Rattle.net_model.specs.declared.scenario.Edge.{Edge}
use Rattle.net_model.specs.declared.scenario.Event.{Event}
use Rattle.net_model.specs.declared.scenario.Event.TheVariants.{Write, Send, Down, Up, Cut, Connect, Crash, Reopen, Stop, Drain}
use Rattle.net_model.specs.declared.scenario.Graph.{Graph}
use Rattle.net_model.specs.declared.scenario.Inner.{Inner}
use Rattle.net_model.specs.declared.scenario.Inner.TheVariants.{Write as InWrite, Down as InDown, Up as InUp}
use Rattle.voe_values.specs.declared.kind.NodeKind.{NodeKind}
use Rattle.voe_values.specs.declared.kind.NodeKind.TheVariants.{Author, Broker, Subscriber}
use Rattle.net_model.specs.declared.note.Note.{Note}
use Rattle.net_model.specs.declared.note.Note.TheVariants.{Wrote, Acked, Refused, Accept, Done, Enter}
use Rattle.net_model.specs.declared.state.Verdict.{Verdict}
use Rattle.net_model.specs.declared.state.Verdict.TheVariants.{Ack, Nak}
use Rattle.net_model.specs.declared.state.Node.{Node}
use Rattle.net_model.specs.declared.state.State.{State}
use Rattle.net_model.specs.declared.state.Wire.{Wire}
use Rattle.net_model.specs.Connections.{connect, crash, crash_node, cut, down_node, reopen}
use Rattle.net_model.specs.Draining.{HadRoom}
use Rattle.net_model.specs.Flights.{arrive, arrive_first, arrive_over, arrives, author_hears, broker_hears, hear, hear_first, hear_over, heard, next_over, reply_at, send, send_over, sends, with_answer, without_answer, writes}
use Rattle.net_model.specs.Nodes.{is_author, is_up, links_of, notes_at, number_of, sessions_of, with_notes, with_wire}
use Rattle.net_model.specs.Notes.{is_open, knows, passing}
use Rattle.net_model.specs.Rounds.{all_written, drained, restarted, round, rounds, turn, turns}
use Rattle.net_model.specs.Rules.{NodeRules, Rules, endless, rules_at}
use Rattle.net_model.specs.Runs.{actor_of, after, beginning, happens, inner_happens, is_kept, run, stopped}
use Rattle.net_model.specs.Steps.{Outcome, Reply, adds, author_write, broker_judged, known_answer, last_of, reply_to, says, settles, subscriber_judged, write_judged}
use Rattle.net_model.specs.declared.state.NakCode.TheVariants.{Full as NoRoom}
use Rattle.net_model.specs.declared.step.Judged.{Judged}
use Rattle.net_model.specs.declared.step.Judged.TheVariants.{BadTree, BadPacket, Good}
use Rattle.net_model.specs.declared.step.AuthorStep.TheVariants.{Wrote as HasWritten, Known as KnownBefore, Noted as IsNoted, Full as HasNoRoom, Passed as IsPassed}
use Rattle.net_model.specs.declared.step.BrokerStep.{BrokerStep}
use Rattle.net_model.specs.declared.step.BrokerStep.TheVariants.{Noted as DoneNoted, Full as DoneNoRoom, Passed as DonePassed, Replaced}
use Rattle.net_model.proofs.Growth.{notes_at-with_notes, notes_at-with_notes_same}
use Rattle.net_model.proofs.Kept.{with_node-notes}
use Rattle.net_model.proofs.Restart.{connect-notes, cut-notes, reopen-notes, restarted-notes}

-- each note has room behind those before it
pub record Fits (rules : Rules) (state : State) : Type 0 where
  pub room : (n : ℕ) (before : List Note) (note : Note) (rest : List Note) → notes_at state n ≡ before ++ note ∷ rest → rules.has_room n before note ≡ true

-- notes come behind those that stand
abbrev pub Appends : State → State → Type 0
Appends old new = (n : ℕ) → (more : List Note) × (notes_at new n ≡ notes_at old n ++ more)

Appends-same : (old new : State) → ((n : ℕ) → notes_at new n ≡ notes_at old n) → Appends old new
Appends-same old new same n = ([], same n ∙ sym (append-nil (notes_at old n)))

Appends-twice : (old middle new : State) → Appends old middle → Appends middle new → Appends old new
Appends-twice old middle new one two n =
    let a = one n in
    let b = two n in
    (a.0 ++ b.0, b.1 ∙ (ap (λ (notes : List Note). notes ++ b.0) a.1 ∙ append_assoc (notes_at old n) a.0 b.0))

Fits-earlier : (rules : Rules) (old new : State) → Appends old new → Fits rules new → Fits rules old
Fits-earlier rules old new more fits = record {
  room = λ n before note rest h. fits.room n before note (rest ++ (more n).0)
      ((more n).1 ∙ (ap (λ (notes : List Note). notes ++ (more n).0) h ∙ append_assoc before (note ∷ rest) (more n).0));
}

-- a step with these rules is the step with journals that never fill, if what that adds has room
pub record Tracks (rules : Rules) (old real ideal : State) : Type 0 where
  pub appends : Appends old ideal
  pub agrees : Fits rules ideal → real ≡ ideal

Tracks-same : (rules : Rules) (old new : State) → ((n : ℕ) → notes_at new n ≡ notes_at old n) → Tracks rules old new new
Tracks-same rules old new same = record { appends = Appends-same old new same; agrees = λ fits. refl }

Tracks-then : (rules : Rules) (old : State) (one one' two two' : State → State) → Tracks rules old (one old) (one' old)
    → ((state : State) → Tracks rules state (two state) (two' state)) → Tracks rules old (two (one old)) (two' (one' old))
Tracks-then rules old one one' two two' first second = record {
  appends = Appends-twice old (one' old) (two' (one' old)) first.appends (second (one' old)).appends;
  agrees = λ fits. ap two (first.agrees (Fits-earlier rules (one' old) (two' (one' old)) (second (one' old)).appends fits)) ∙ (second (one' old)).agrees fits;
}

Appends-with_notes : (state : State) (n : ℕ) (added : List Note) → Appends state (with_notes state n added)
Appends-with_notes state n added m =
    elim (notes_at-with_notes state n m added) [ inl same ↦ ([], same ∙ sym (append-nil (notes_at state m))) | inr both ↦ (added, both.1) ]

-- a note that is added has room
room_for : (rules : Rules) (state : State) (n : ℕ) (note : Note) (node : Node) → slice_get state.nodes n ≡ Some node
    → Fits rules (with_notes state n (note ∷ [])) → rules.has_room n (notes_at state n) note ≡ true
room_for rules state n note node is fits = fits.room n (notes_at state n) note [] (notes_at-with_notes_same state n (note ∷ []) node is)

nowhere : {A : Type 0} (state : State) (n : ℕ) (note : Note) (said full : A) → slice_get state.nodes n ≡ None → (b : Bool)
    → with_notes state n (adds b note said full).added ≡ with_notes state n (note ∷ [])
nowhere state n note said full none true = refl
nowhere state n note said full none false = rw none refl

with_notes-room : {A : Type 0} (rules : Rules) (state : State) (n : ℕ) (note : Note) (said full : A) → Fits rules (with_notes state n (note ∷ []))
    → with_notes state n (adds (rules.has_room n (notes_at state n) note) note said full).added ≡ with_notes state n (note ∷ [])
with_notes-room rules state n note said full fits =
    elim (slice_get state.nodes n) as (λ o. slice_get state.nodes n ≡ o
    → with_notes state n (adds (rules.has_room n (notes_at state n) note) note said full).added ≡ with_notes state n (note ∷ [])) [
      | None ↦ λ none. nowhere state n note said full none (rules.has_room n (notes_at state n) note)
      | Some node ↦ λ is. ap (λ (b : Bool). with_notes state n (adds b note said full).added) (room_for rules state n note node is fits)
    ] refl

module _ (rules : Rules) (graph : Graph) where
  Tracks-judged : (state : State) (a : ℕ) (packet : List ℕ) (judged : Judged)
      → Tracks rules state (with_notes state a (write_judged (rules_at rules a) (notes_at state a) packet judged).added)
      (with_notes state a (write_judged (rules_at (endless rules) a) (notes_at state a) packet judged).added)
  Tracks-judged state a packet (BadTree number) = Tracks-same rules state state (λ n. refl)
  Tracks-judged state a packet (BadPacket number identifier) = Tracks-same rules state state (λ n. refl)
  Tracks-judged state a packet (Good identifier) =
      let note = Wrote identifier packet in
      let end : Bool → Bool → State = λ known room. with_notes state a (cond known (says KnownBefore) (adds room note HasWritten HasNoRoom)).added in
      elim (knows (notes_at state a) identifier) as (λ b. Tracks rules state (end b (rules.has_room a (notes_at state a) note)) (end b true)) [
        | true ↦ Tracks-same rules state state (λ n. refl)
        | false ↦ record { appends = Appends-with_notes state a (note ∷ []); agrees = with_notes-room rules state a note HasWritten HasNoRoom }
      ]

  Tracks-writes : (state : State) (a : ℕ) (an_author : Bool) (found : Option Node) (packet : Option (List ℕ))
      → Tracks rules state (writes rules state a an_author found packet) (writes (endless rules) state a an_author found packet)
  Tracks-writes state a an_author None packet = Tracks-same rules state state (λ n. refl)
  Tracks-writes state a an_author (Some node) None = Tracks-same rules state state (λ n. refl)
  Tracks-writes state a false (Some node) (Some packet) = Tracks-same rules state state (λ n. refl)
  Tracks-writes state a true (Some node) (Some packet) =
      elim node.up as (λ b. Tracks rules state (cond b (with_notes state a (author_write (rules_at rules a) (notes_at state a) packet).added) state)
      (cond b (with_notes state a (author_write (rules_at (endless rules) a) (notes_at state a) packet).added) state)) [
        | false ↦ Tracks-same rules state state (λ n. refl)
        | true ↦ Tracks-judged state a packet (rules.judge packet)
      ]

  Tracks-reply_to : (state : State) (e : ℕ) (edge : Edge) (wire : Wire) (rest : List (List ℕ)) (node : Node) (from_line : Bool) (packet identifier : List ℕ) (note : Note)
      → slice_get state.nodes edge.lower ≡ Some node
      → Tracks rules state (arrives state e edge wire rest (Some (reply_to (rules_at rules edge.lower) (notes_at state edge.lower) from_line packet identifier note)))
      (arrives state e edge wire rest (Some (reply_to (rules_at (endless rules) edge.lower) (notes_at state edge.lower) from_line packet identifier note)))
  Tracks-reply_to state e edge wire rest node from_line packet identifier note is =
      let notes = notes_at state edge.lower in
      let known_reply = known_answer (rules_at rules edge.lower) notes from_line packet identifier in
      let end : Bool → Bool → State = λ known room.
      let reply : Reply = cond known (says known_reply) (adds room note (Ack identifier) (Nak (Some identifier) NoRoom)) in
      with_wire (with_notes state edge.lower reply.added) e (with_answer wire rest reply.answer) in
      elim (knows notes identifier) as (λ b. Tracks rules state (end b (rules.has_room edge.lower notes note)) (end b true)) [
        | true ↦ Tracks-same rules state _ (λ n. refl)
        | false ↦ record {
          appends = Appends-with_notes state edge.lower (note ∷ []);
          agrees = λ fits. ap (end false) (room_for rules state edge.lower note node is (record { room = fits.room }));
        }
      ]

  Tracks-broker : (state : State) (e : ℕ) (edge : Edge) (wire : Wire) (rest : List (List ℕ)) (node : Node) (from_line : Bool) (packet : List ℕ) (judged : Judged)
      → slice_get state.nodes edge.lower ≡ Some node
      → Tracks rules state (arrives state e edge wire rest (Some (broker_judged (rules_at rules edge.lower) (links_of graph edge.lower) (notes_at state edge.lower) from_line packet judged)))
      (arrives state e edge wire rest (Some (broker_judged (rules_at (endless rules) edge.lower) (links_of graph edge.lower) (notes_at state edge.lower) from_line packet judged)))
  Tracks-broker state e edge wire rest node from_line packet (BadTree number) is = Tracks-same rules state _ (λ n. refl)
  Tracks-broker state e edge wire rest node from_line packet (BadPacket number identifier) is = Tracks-same rules state _ (λ n. refl)
  Tracks-broker state e edge wire rest node from_line packet (Good identifier) is =
      Tracks-reply_to state e edge wire rest node from_line packet identifier (Accept identifier (passing (rules_at rules edge.lower) 0 (links_of graph edge.lower) packet) packet) is

  Tracks-subscriber : (state : State) (e : ℕ) (edge : Edge) (wire : Wire) (rest : List (List ℕ)) (node : Node) (packet : List ℕ) (judged : Judged)
      → slice_get state.nodes edge.lower ≡ Some node
      → Tracks rules state (arrives state e edge wire rest (Some (subscriber_judged (rules_at rules edge.lower) (notes_at state edge.lower) packet judged)))
      (arrives state e edge wire rest (Some (subscriber_judged (rules_at (endless rules) edge.lower) (notes_at state edge.lower) packet judged)))
  Tracks-subscriber state e edge wire rest node packet (BadTree number) is = Tracks-same rules state _ (λ n. refl)
  Tracks-subscriber state e edge wire rest node packet (BadPacket number identifier) is = Tracks-same rules state _ (λ n. refl)
  Tracks-subscriber state e edge wire rest node packet (Good identifier) is =
      Tracks-reply_to state e edge wire rest node false packet identifier (Enter identifier packet) is

  Tracks-reply_at : (state : State) (e : ℕ) (edge : Edge) (wire : Wire) (rest : List (List ℕ)) (node : Node) (from_line : Bool) (packet : List ℕ) (kind : Option NodeKind)
      → slice_get state.nodes edge.lower ≡ Some node
      → Tracks rules state (arrives state e edge wire rest (reply_at rules graph edge.lower from_line (notes_at state edge.lower) packet kind))
      (arrives state e edge wire rest (reply_at (endless rules) graph edge.lower from_line (notes_at state edge.lower) packet kind))
  Tracks-reply_at state e edge wire rest node from_line packet (Some Author) is = Tracks-same rules state state (λ n. refl)
  Tracks-reply_at state e edge wire rest node from_line packet None is = Tracks-same rules state state (λ n. refl)
  Tracks-reply_at state e edge wire rest node from_line packet (Some Broker) is = Tracks-broker state e edge wire rest node from_line packet (rules.judge packet) is
  Tracks-reply_at state e edge wire rest node from_line packet (Some Subscriber) is = Tracks-subscriber state e edge wire rest node packet (rules.judge packet) is

  Tracks-arrive_first : (state : State) (e : ℕ) (edge : Edge) (wire : Wire) (down : List (List ℕ)) (found : Option Node) → slice_get state.nodes edge.lower ≡ found
      → Tracks rules state (arrive_first rules graph state e edge wire down found) (arrive_first (endless rules) graph state e edge wire down found)
  Tracks-arrive_first state e edge wire [] found is = Tracks-same rules state state (λ n. refl)
  Tracks-arrive_first state e edge wire (packet ∷ rest) None is = Tracks-same rules state state (λ n. refl)
  Tracks-arrive_first state e edge wire (packet ∷ rest) (Some node) is =
      Tracks-reply_at state e edge wire rest node (is_author (slice_get graph.nodes edge.upper)) packet (slice_get graph.nodes edge.lower) is

  Tracks-arrive : (e : ℕ) (state : State) → Tracks rules state (arrive rules graph state e) (arrive (endless rules) graph state e)
  Tracks-arrive e state =
      elim (slice_get graph.edges e) as (λ o. Tracks rules state (arrive_over rules graph state e o (slice_get state.wires e)) (arrive_over (endless rules) graph state e o (slice_get state.wires e))) [
        | None ↦ Tracks-same rules state state (λ n. refl)
        | Some edge ↦ elim (slice_get state.wires e) as (λ o. Tracks rules state (arrive_over rules graph state e (Some edge) o) (arrive_over (endless rules) graph state e (Some edge) o)) [
          | None ↦ Tracks-same rules state state (λ n. refl)
          | Some wire ↦ Tracks-arrive_first state e edge wire wire.down (slice_get state.nodes edge.lower) refl
        ]
      ]

  Tracks-settles : {A : Type 0} (state : State) (e n : ℕ) (wire : Wire) (number : ℕ) (identifier : List ℕ) (note : Note) (noted full passed : A)
      → Tracks rules state (with_wire (with_notes state n (settles (rules_at rules n) (notes_at state n) number identifier note noted full passed).added) e wire)
      (with_wire (with_notes state n (settles (rules_at (endless rules) n) (notes_at state n) number identifier note noted full passed).added) e wire)
  Tracks-settles state e n wire number identifier note noted full passed =
      let end : Bool → Bool → State = λ due room. with_wire (with_notes state n (cond due (adds room note noted full) (says passed)).added) e wire in
      elim (is_open (notes_at state n) number identifier) as (λ b. Tracks rules state (end b (rules.has_room n (notes_at state n) note)) (end b true)) [
        | false ↦ Tracks-same rules state _ (λ m. refl)
        | true ↦ record {
          appends = Appends-with_notes state n (note ∷ []);
          agrees = λ fits. ap (λ (s : State). with_wire s e wire) (with_notes-room rules state n note noted full (record { room = fits.room }));
        }
      ]

  Tracks-author_hears : (state : State) (e n : ℕ) (wire : Wire) (number : ℕ) (answer : Verdict)
      → Tracks rules state (with_wire (with_notes state n (author_hears (rules_at rules n) (notes_at state n) number answer)) e wire)
      (with_wire (with_notes state n (author_hears (rules_at (endless rules) n) (notes_at state n) number answer)) e wire)
  Tracks-author_hears state e n wire number (Ack identifier) = Tracks-settles state e n wire number identifier (Acked number identifier) IsNoted HasNoRoom IsPassed
  Tracks-author_hears state e n wire number (Nak (Some identifier) code) = Tracks-settles state e n wire number identifier (Refused number identifier) IsNoted HasNoRoom IsPassed
  Tracks-author_hears state e n wire number (Nak None code) = Tracks-same rules state _ (λ m. refl)

  Tracks-broker_hears : (state : State) (e n : ℕ) (wire : Wire) (sessions : List ℕ) (number session : ℕ) (answer : Verdict)
      → Tracks rules state (with_wire (with_notes state n (broker_hears (rules_at rules n) (notes_at state n) sessions number session answer)) e wire)
      (with_wire (with_notes state n (broker_hears (rules_at (endless rules) n) (notes_at state n) sessions number session answer)) e wire)
  Tracks-broker_hears state e n wire sessions number session (Ack identifier) =
      let replaced : Outcome BrokerStep = says (Replaced (last_of sessions number)) in
      let done : NodeRules → Outcome BrokerStep = λ r. settles r (notes_at state n) number identifier (Done number identifier) DoneNoted DoneNoRoom DonePassed in
      elim (nat_lt session (last_of sessions number)) as (λ b.
      Tracks rules state (with_wire (with_notes state n (cond b replaced (done (rules_at rules n))).added) e wire)
      (with_wire (with_notes state n (cond b replaced (done (rules_at (endless rules) n))).added) e wire)) [
        | true ↦ Tracks-same rules state _ (λ m. refl)
        | false ↦ Tracks-settles state e n wire number identifier (Done number identifier) DoneNoted DoneNoRoom DonePassed
      ]
  Tracks-broker_hears state e n wire sessions number session (Nak identifier code) = Tracks-same rules state _ (λ m. refl)

  Tracks-heard : (state : State) (e n : ℕ) (wire : Wire) (sessions : List ℕ) (number session : ℕ) (answer : Verdict) (kind : Option NodeKind)
      → Tracks rules state (with_wire (with_notes state n (heard (rules_at rules n) (notes_at state n) sessions number session answer kind)) e wire)
      (with_wire (with_notes state n (heard (rules_at (endless rules) n) (notes_at state n) sessions number session answer kind)) e wire)
  Tracks-heard state e n wire sessions number session answer (Some Author) = Tracks-author_hears state e n wire number answer
  Tracks-heard state e n wire sessions number session answer (Some Broker) = Tracks-broker_hears state e n wire sessions number session answer
  Tracks-heard state e n wire sessions number session answer (Some Subscriber) = Tracks-same rules state _ (λ m. refl)
  Tracks-heard state e n wire sessions number session answer None = Tracks-same rules state _ (λ m. refl)

  Tracks-hear_first : (state : State) (e : ℕ) (edge : Edge) (wire : Wire) (up : List Verdict)
      → Tracks rules state (hear_first rules graph state e edge wire up) (hear_first (endless rules) graph state e edge wire up)
  Tracks-hear_first state e edge wire [] = Tracks-same rules state state (λ n. refl)
  Tracks-hear_first state e edge wire (answer ∷ rest) =
      Tracks-heard state e edge.upper (without_answer wire rest) (sessions_of (slice_get state.nodes edge.upper)) (number_of graph.edges edge.upper e) wire.session answer (slice_get graph.nodes edge.upper)

  Tracks-hear : (e : ℕ) (state : State) → Tracks rules state (hear rules graph state e) (hear (endless rules) graph state e)
  Tracks-hear e state =
      elim (slice_get graph.edges e) as (λ o. Tracks rules state (hear_over rules graph state e o (slice_get state.wires e)) (hear_over (endless rules) graph state e o (slice_get state.wires e))) [
        | None ↦ Tracks-same rules state state (λ n. refl)
        | Some edge ↦ elim (slice_get state.wires e) as (λ o. Tracks rules state (hear_over rules graph state e (Some edge) o) (hear_over (endless rules) graph state e (Some edge) o)) [
          | None ↦ Tracks-same rules state state (λ n. refl)
          | Some wire ↦ Tracks-hear_first state e edge wire wire.up
        ]
      ]

  send-notes : (state : State) (e n : ℕ) → notes_at (send graph state e) n ≡ notes_at state n
  send-notes state e n =
      elim (slice_get graph.edges e) as (λ o. notes_at (send_over graph state e o (slice_get state.wires e)) n ≡ notes_at state n) [
        | None ↦ refl
        | Some edge ↦ elim (slice_get state.wires e) as (λ o. notes_at (send_over graph state e (Some edge) o) n ≡ notes_at state n) [
          | None ↦ refl
          | Some wire ↦
              let first = next_over graph state e edge wire in
              elim wire.connected as (λ b. notes_at (cond b (cond (nat_lt wire.unanswered graph.window) (sends state e wire first) state) state) n ≡ notes_at state n) [
                | false ↦ refl
                | true ↦ elim (nat_lt wire.unanswered graph.window) as (λ b. notes_at (cond b (sends state e wire first) state) n ≡ notes_at state n) [
                  | false ↦ refl
                  | true ↦ elim first as (λ o. notes_at (sends state e wire o) n ≡ notes_at state n) [ None ↦ refl | Some found ↦ refl ]
                ]
              ]
        ]
      ]

  crash-notes : (n : ℕ) (state : State) (m : ℕ) → notes_at (crash graph state n) m ≡ notes_at state m
  crash-notes n state m =
      elim (is_up (slice_get state.nodes n)) as (λ b. notes_at (cond b (crash_node graph state n) state) m ≡ notes_at state m)
      [ true ↦ with_node-notes down_node (λ node. refl) state.nodes n m | false ↦ refl ]

  Tracks-crash_node : (n : ℕ) (state : State) → Tracks rules state (crash_node graph state n) (crash_node graph state n)
  Tracks-crash_node n state = Tracks-same rules state (crash_node graph state n) (λ m. with_node-notes down_node (λ node. refl) state.nodes n m)

  Tracks-turn : (e : ℕ) (state : State) → Tracks rules state (turn rules graph e state) (turn (endless rules) graph e state)
  Tracks-turn e state =
      Tracks-then rules state (λ s. arrive rules graph (send graph s e) e) (λ s. arrive (endless rules) graph (send graph s e) e)
      (λ s. hear rules graph s e) (λ s. hear (endless rules) graph s e)
      (Tracks-then rules state (λ s. send graph s e) (λ s. send graph s e) (λ s. arrive rules graph s e) (λ s. arrive (endless rules) graph s e)
      (Tracks-same rules state (send graph state e) (send-notes state e)) (Tracks-arrive e)) (Tracks-hear e)

  Tracks-turns : (e more : ℕ) (state : State) → Tracks rules state (turns rules graph e more state) (turns (endless rules) graph e more state)
  Tracks-turns e zero state = Tracks-same rules state state (λ n. refl)
  Tracks-turns e (suc more) state =
      Tracks-then rules state (turn rules graph e) (turn (endless rules) graph e) (turns rules graph (e + 1) more) (turns (endless rules) graph (e + 1) more)
      (Tracks-turn e state) (Tracks-turns (e + 1) more)

  Tracks-rounds : (count : ℕ) (state : State) → Tracks rules state (rounds rules graph count state) (rounds (endless rules) graph count state)
  Tracks-rounds zero state = Tracks-same rules state state (λ n. refl)
  Tracks-rounds (suc count) state =
      Tracks-then rules state (round rules graph) (round (endless rules) graph) (rounds rules graph count) (rounds (endless rules) graph count)
      (Tracks-turns 0 (length graph.edges) state) (Tracks-rounds count)

  Tracks-drained : (state : State) → Tracks rules state (drained rules graph state) (drained (endless rules) graph state)
  Tracks-drained state =
      let count = length graph.edges * length (all_written state.nodes) in
      Tracks-then rules state (restarted graph) (restarted graph) (rounds rules graph count) (rounds (endless rules) graph count)
      (Tracks-same rules state (restarted graph state) (restarted-notes graph state)) (Tracks-rounds count)

  module _ (packets : List (List ℕ)) where
    Tracks-inner : (inner : Inner) (state : State) → Tracks rules state (inner_happens rules graph packets state inner) (inner_happens (endless rules) graph packets state inner)
    Tracks-inner (InWrite author packet) state =
        Tracks-writes state author (is_author (slice_get graph.nodes author)) (slice_get state.nodes author) (slice_get packets packet)
    Tracks-inner (InDown edge) state = Tracks-arrive edge state
    Tracks-inner (InUp edge) state = Tracks-hear edge state

    Tracks-stopped : (kept : Bool) (inner : Inner) (actor : Option ℕ) (state : State)
        → Tracks rules state (stopped rules graph packets state kept inner actor) (stopped (endless rules) graph packets state kept inner actor)
    Tracks-stopped kept inner None state = Tracks-same rules state state (λ n. refl)
    Tracks-stopped true inner (Some actor) state =
        Tracks-then rules state (λ s. inner_happens rules graph packets s inner) (λ s. inner_happens (endless rules) graph packets s inner)
        (λ s. crash_node graph s actor) (λ s. crash_node graph s actor) (Tracks-inner inner state) (Tracks-crash_node actor)
    Tracks-stopped false inner (Some actor) state = Tracks-crash_node actor state

    Tracks-happens : (event : Event) (state : State) → Tracks rules state (happens rules graph packets state event) (happens (endless rules) graph packets state event)
    Tracks-happens (Write author packet) state = Tracks-inner (InWrite author packet) state
    Tracks-happens (Send edge) state = Tracks-same rules state (send graph state edge) (send-notes state edge)
    Tracks-happens (Down edge) state = Tracks-arrive edge state
    Tracks-happens (Up edge) state = Tracks-hear edge state
    Tracks-happens (Cut edge) state = Tracks-same rules state (cut state edge) (cut-notes state edge)
    Tracks-happens (Connect edge) state = Tracks-same rules state (connect graph state edge) (connect-notes graph state edge)
    Tracks-happens (Crash node) state = Tracks-same rules state (crash graph state node) (crash-notes node state)
    Tracks-happens (Reopen node) state = Tracks-same rules state (reopen state node) (reopen-notes state node)
    Tracks-happens (Stop calls fill inner) state = Tracks-stopped (is_kept calls fill) inner (actor_of rules graph packets state inner) state
    Tracks-happens Drain state = Tracks-drained state

    Tracks-run : (events : List Event) (state : State) → Tracks rules state (run rules graph packets events state) (run (endless rules) graph packets events state)
    Tracks-run [] state = Tracks-same rules state state (λ n. refl)
    Tracks-run (event ∷ events) state =
        Tracks-then rules state (λ s. happens rules graph packets s event) (λ s. happens (endless rules) graph packets s event)
        (run rules graph packets events) (run (endless rules) graph packets events) (Tracks-happens event state) (Tracks-run events)

    pub after-room : (events : List Event) → HadRoom rules graph packets events → after rules graph packets events ≡ after (endless rules) graph packets events
    after-room events room = (Tracks-run events (beginning graph)).agrees (record { room = room })
