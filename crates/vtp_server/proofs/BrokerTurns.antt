-- What a broker's turn says of the front on which it acted.
use Rattle.std.proofs.Common.{◌≡◌, ◌⊎◌, ℕ, Bool, true, false, cond, List, [], ◌∷◌, ◌++◌, take, map, Some, None, refl, sym, ap, ◌∙◌, subst, ⊎_elim}
use Rattle.std.specs.Prelude.{Option, ◌||◌}
use Rattle.std.specs.List.{list_any}
use Rattle.std.proofs.lemmas.List.{append-nil}
use Rattle.std.proofs.lemmas.List.Folds.{list_any-append}
use Rattle.voe_disk.specs.declared.disk.Disk.{Ghosts}
use Rattle.voe_disk.specs.declared.fail.DiskFail.{DiskFail}
use Rattle.hub_lock.specs.Journal.{payloads}
use Rattle.hub_lock.specs.declared.view.Entry.{Entry}
use Rattle.net_model.specs.Notes.{Placed, brings, first_from, is_open, knows, offer, passing, to_send}
use Rattle.net_model.specs.Rules.{NodeRules}
use Rattle.net_model.specs.Steps.{Outcome, Reply, adds, broker_gives, broker_judged, broker_next, broker_packet, in_session, known_answer, last_of, says}
use Rattle.net_model.specs.declared.note.Note.{Note}
use Rattle.net_model.specs.declared.note.Note.TheVariants.{Accept}
use Rattle.net_model.specs.declared.state.NakCode.TheVariants.{Conflict, Full as NoRoom}
use Rattle.net_model.specs.declared.state.Verdict.{Verdict}
use Rattle.net_model.specs.declared.state.Verdict.TheVariants.{Ack, Nak}
use Rattle.net_model.specs.declared.step.BrokerStep.{BrokerStep}
use Rattle.net_model.specs.declared.step.BrokerStep.TheVariants as b
use Rattle.net_model.specs.declared.step.Judged.{Judged}
use Rattle.net_model.specs.declared.step.Judged.TheVariants.{BadTree, BadPacket, Good}
use Rattle.net_model.proofs.Held.{bytes_eq-same}
use Rattle.node_notes.specs.Spelling.{note_payload}
use Rattle.node_book.specs.Ends.{EndView}
use Rattle.node_book.specs.EndSteps.{answered, lacked_memory}
use Rattle.node_book.proofs.EndFound.{sent_from}
use Rattle.broker_end.specs.Broker.{fate_of, is_line}
use Rattle.broker_end.specs.Turning.{IsBrokerStep, MeansTurn, Turns, admitted, is_whole, refused, with_last}
use Rattle.broker_end.specs.declared.event.BrokerEvent.{BrokerEvent}
use Rattle.broker_end.specs.declared.event.BrokerEvent.TheVariants as event
use Rattle.broker_end.specs.declared.event.Way.{Way}
use Rattle.vtp_server.specs.HubTurns.{FitsAt}
use Rattle.vtp_server.specs.Synced.{IsOwed, IsSynced}
use Rattle.vtp_server.specs.declared.ask.BrokerAsk.{BrokerAsk}
use Rattle.vtp_server.specs.declared.ask.BrokerAsk.TheVariants as ask
use Rattle.vtp_server.proofs.FirstOpen.{first_open}

-- ---- an acknowledged packet is known

named_by : (from_line differs : Bool) (own identifier : List ℕ) → Ack identifier ≡ cond from_line (cond differs (Nak (Some own) Conflict) (Ack own)) (Ack own) → own ≡ identifier
named_by true true own identifier e = absurd (cc)
named_by true false own identifier e = cc
named_by false differs own identifier e = cc

known_more : (notes more : List Note) (identifier : List ℕ) → knows notes identifier ≡ true → knows (notes ++ more) identifier ≡ true
known_more notes more identifier h = list_any-append (brings identifier) notes more ∙ ap (λ (t : Bool). t || list_any (brings identifier) more) h

or_true : (t : Bool) → (t || true) ≡ true
or_true true = refl
or_true false = refl

accepted_known : (notes : List Note) (identifier : List ℕ) (links : List ℕ) (packet : List ℕ) → knows (notes ++ Accept identifier links packet ∷ []) identifier ≡ true
accepted_known notes identifier links packet =
    let own : list_any (brings identifier) (Accept identifier links packet ∷ []) ≡ true = ap (λ (t : Bool). t || false) (bytes_eq-same identifier) in
    list_any-append (brings identifier) notes (Accept identifier links packet ∷ []) ∙ ap (λ (t : Bool). knows notes identifier || t) own ∙ or_true (knows notes identifier)

good_known : (notes : List Note) (own identifier packet links : List ℕ) (known room : Bool) (told : Verdict) → knows notes own ≡ known → (Ack identifier ≡ told → own ≡ identifier)
    → (let o : Reply = cond known (says told) (adds room (Accept own links packet) (Ack own) (Nak (Some own) NoRoom)) in Ack identifier ≡ o.answer → knows (notes ++ o.added) identifier ≡ true)
good_known notes own identifier packet links true room told e names h = subst (λ (x : List ℕ). knows (notes ++ []) x ≡ true) (names h) (known_more notes [] own e)
good_known notes own identifier packet links false true told e names h =
    let same : own ≡ identifier = cc in
    subst (λ (x : List ℕ). knows (notes ++ Accept own links packet ∷ []) x ≡ true) same (accepted_known notes own links packet)
good_known notes own identifier packet links false false told e names h = absurd (cc)

judged_known : (rules : NodeRules) (links : ℕ) (notes : List Note) (from_line : Bool) (packet identifier : List ℕ) (j : Judged) → Ack identifier ≡ (broker_judged rules links notes from_line packet j).answer → knows (notes ++ (broker_judged rules links notes from_line packet j).added) identifier ≡ true
judged_known rules links notes from_line packet identifier (BadTree number) h = absurd (cc)
judged_known rules links notes from_line packet identifier (BadPacket number own) h = absurd (cc)
judged_known rules links notes from_line packet identifier (Good own) h =
    good_known notes own identifier packet (passing rules 0 links packet) (knows notes own) (rules.has_room notes (Accept own (passing rules 0 links packet) packet)) (known_answer rules notes from_line packet own) refl
    (named_by from_line _ own identifier) h

abbrev verdict_in : BrokerStep → Verdict
verdict_in (b.Answer given) = given
verdict_in _ = Ack []

module _ {D : Type 0} (disk : Ghosts D) (old new : EndView D) (from : Way) (packet identifier : List ℕ) where
  up_known : old.down ≡ None → IsBrokerStep disk old (event.Packet from packet) (b.Answer (Ack identifier)) new → knows new.notes identifier ≡ true
  up_known up s =
      ⊎_elim
      (λ lacked. absurd (let no : answered ≡ lacked_memory = lacked in cc))
      (λ right.
      let h = s.happens up right.0 (λ p. false) right.1 in
      let told = broker_packet right.0 _ old.notes (is_line from) packet in
      let is : Ack identifier ≡ told.answer = ap verdict_in h.answer_is in
      subst (λ (notes : List Note). knows notes identifier ≡ true) (sym h.notes_are) (judged_known right.0 _ old.notes (is_line from) packet identifier (right.0.judge packet) is))
      (s.rules up)

  was_up : (d : Option DiskFail) → old.down ≡ d → IsBrokerStep disk old (event.Packet from packet) (b.Answer (Ack identifier)) new → old.down ≡ None
  was_up None e s = e
  was_up (Some fail) e s = absurd (let no = (s.was_down fail e).0 in cc)

  stepped : (whole : Bool) → Turns disk old (event.Packet from packet) (cond whole (Some (event.Packet from packet)) None) (b.Answer (Ack identifier)) new → IsBrokerStep disk old (event.Packet from packet) (b.Answer (Ack identifier)) new
  stepped true t = t
  stepped false t = absurd (let no = t.0 in cc)

  ack_means : MeansTurn disk old (event.Packet from packet) (b.Answer (Ack identifier)) new → IsSynced disk (map note_payload new.notes) identifier
  ack_means m =
      let s = stepped (is_whole packet) m.turns in
      let up = was_up old.down refl s in
      record { end = new; records = refl; known = up_known up s; kept = m.kept up refl }

module _ {D : Type 0} (disk : Ghosts D) (old new : EndView D) (link session after at : ℕ) (identifier packet : List ℕ) where
  abbrev Given : BrokerStep
  Given = b.Packet at identifier packet

  abbrev placed_in : BrokerStep → Placed
  placed_in (b.Packet place own bytes) = (place, offer own bytes)
  placed_in _ = (0, offer [] [])

  found_of : (found : Option Placed) → Given ≡ (broker_gives found).answer → found ≡ Some (at, offer identifier packet)
  found_of None e = absurd (cc)
  found_of (Some p) e = ap Some (sym (ap placed_in e))

  session_of : (older : Bool) (newer : ℕ) (found : Option Placed) → Given ≡ (cond older (says (b.Replaced newer)) (broker_gives found)).answer → found ≡ Some (at, offer identifier packet)
  session_of true newer found e = absurd (cc)
  session_of false newer found e = found_of found e

  abbrev Asked : BrokerEvent
  Asked = event.Next link session after

  abbrev Found : Type 0
  Found = first_from (to_send old.notes link) after 0 old.notes ≡ Some (at, offer identifier packet)

  no_rules : NodeRules
  no_rules = record { judge = λ bytes. BadTree 0; digest_of = λ bytes. bytes; passes = λ number bytes. false; has_room = λ notes note. false }

  step_found : (d : Option DiskFail) (own : ℕ) → old.down ≡ d → IsBrokerStep disk old (event.Next link own after) Given new → Found
  step_found None own e s = session_of _ (last_of old.sessions link) (first_from (to_send old.notes link) after 0 old.notes) (s.happens e no_rules (λ p. false) tt).answer_is
  step_found (Some fail) own e s = absurd (let no = (s.was_down fail e).0 in cc)

  turn_found : (configured : Bool) (own : ℕ) → Turns disk old Asked (cond configured (Some (event.Next link own after)) None) Given new → Found
  turn_found true own t = step_found old.down own refl t
  turn_found false own t = absurd (let no = t.0 in cc)

  packet_means : MeansTurn disk old Asked Given new → IsOwed D (map note_payload old.notes) link at identifier packet
  packet_means m =
      let found = turn_found _ (with_last old.sessions link session) m.turns in
      record {
        end = old;
        records = refl;
        packet_is = sent_from link after old.notes (at, offer identifier packet) found;
        owed = first_open old.notes link after 0 old.notes (at, offer identifier packet) found;
      }

-- ---- turns that fit a journal

module _ {D : Type 0} (disk : Ghosts D) (fixed_of : EndView D → List ℕ) (number : ℕ) (fixed : List ℕ) (journal : List Entry) (place front : ℕ) where
  abbrev Fits : BrokerAsk → BrokerStep → Type 0
  Fits asked reply = FitsAt fixed_of (λ (end : EndView D). map note_payload end.notes) (λ (old : EndView D) happened answer new. MeansTurn disk old happened answer new) number fixed journal asked reply place front

  pub ack_synced : (from : Way) (packet identifier : List ℕ) → Fits (ask.Packet from packet) (b.Answer (Ack identifier)) → IsSynced disk (take front (payloads journal)) identifier
  ack_synced from packet identifier f =
      let m = subst (λ (x : BrokerEvent). MeansTurn disk f.before x (b.Answer (Ack identifier)) f.after) f.event.0 f.meaning in
      subst (λ (l : List (List ℕ)). IsSynced disk l identifier) f.last (ack_means disk f.before f.after from packet identifier m)

  pub packet_owed : (link session after at : ℕ) (identifier packet : List ℕ) → Fits (ask.Next link session after) (b.Packet at identifier packet) → IsOwed D (take place (payloads journal)) link at identifier packet
  packet_owed link session after at identifier packet f =
      let m = subst (λ (x : BrokerEvent). MeansTurn disk f.before x (b.Packet at identifier packet) f.after) f.event f.meaning in
      subst (λ (l : List (List ℕ)). IsOwed D l link at identifier packet) f.first (packet_means disk f.before f.after link session after at identifier packet m)
