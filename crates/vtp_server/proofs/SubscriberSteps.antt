-- A step of a subscriber as a turn on a packet.
use Rattle.std.proofs.Common.{◌≡◌, ◌⊎◌, ℕ, Bool, true, false, cond, List, [], ◌∷◌, ◌++◌, Some, None, refl, sym, ap, ◌∙◌, subst, inl, inr, ⊎_elim}
use Rattle.std.proofs.lemmas.List.{append-nil}
use Rattle.std.specs.Prelude.{Option}
use Rattle.voe_disk.specs.declared.disk.Disk.{Ghosts}
use Rattle.voe_disk.specs.declared.fail.DiskFail.{DiskFail}
use Rattle.net_model.specs.Notes.{knows}
use Rattle.net_model.specs.Rules.{NodeRules}
use Rattle.net_model.specs.Steps.{Outcome, Reply, adds, known_answer, reply_to, says, subscriber_judged, subscriber_packet}
use Rattle.net_model.specs.declared.note.Note.{Note}
use Rattle.net_model.specs.declared.note.Note.TheVariants.{Enter}
use Rattle.net_model.specs.declared.state.NakCode.TheVariants.{Full as NoRoom}
use Rattle.net_model.specs.declared.state.Verdict.{Verdict}
use Rattle.net_model.specs.declared.state.Verdict.TheVariants as verdict
use Rattle.net_model.specs.declared.step.Judged.{Judged}
use Rattle.net_model.specs.declared.step.Judged.TheVariants.{BadTree, BadPacket, Good}
use Rattle.net_model.specs.declared.step.SubscriberStep.{SubscriberStep}
use Rattle.net_model.specs.declared.step.SubscriberStep.TheVariants as s
use Rattle.node_book.specs.Ends.{EndView}
use Rattle.node_book.specs.EndSteps.{Fate, Happens, HasAnswered, HasFallen, IsUnchanged, answered, is_down, lacked_memory}
use Rattle.subscriber_end.specs.Subscriber.{fate_of, replies}
use Rattle.subscriber_end.specs.declared.event.SubscriberEvent.TheVariants.{Packet}
use Rattle.vtp_server.specs.Entered.{Enters, PacketTurn, SaysItIsDown, TakesPacket}
use Rattle.vtp_server.specs.NodeState.{NodeState}
use Rattle.vtp_server.specs.OneEnd.{IsSubscriberStep, down_of, state_of}
use Rattle.vtp_server.proofs.EndStates.{fallen_state, same_state, up_state}

-- nothing is noted, or the packet is entered and acknowledged
abbrev IsPlainReply : List ℕ → Reply → Type 0
IsPlainReply packet reply = (reply.added ≡ []) ⊎ ((identifier : List ℕ) × (reply.added ≡ Enter identifier packet ∷ []) × (reply.answer ≡ verdict.Ack identifier))

plain_good : (packet identifier : List ℕ) (known room : Bool) (told : Verdict) → IsPlainReply packet (cond known (says told) (adds room (Enter identifier packet) (verdict.Ack identifier) (verdict.Nak (Some identifier) NoRoom)))
plain_good packet identifier true room told = inl refl
plain_good packet identifier false true told = inr (identifier, refl, refl)
plain_good packet identifier false false told = inl refl

plain_judged : (rules : NodeRules) (notes : List Note) (packet : List ℕ) (j : Judged) → IsPlainReply packet (subscriber_judged rules notes packet j)
plain_judged rules notes packet (BadTree number) = inl refl
plain_judged rules notes packet (BadPacket number identifier) = inl refl
plain_judged rules notes packet (Good identifier) =
    plain_good packet identifier (knows notes identifier) (rules.has_room notes (Enter identifier packet)) (known_answer rules notes false packet identifier)

module _ {D : Type 0} (disk : Ghosts D) (old new : EndView D) where
  -- it has answered, it has fallen, or there was no memory
  abbrev Fared : Outcome SubscriberStep → SubscriberStep → Type 0
  Fared outcome reply = HasAnswered disk old new outcome reply ⊎ (((faults : ℕ) × (stopped : Bool) × (reply ≡ s.Down faults stopped) × HasFallen disk old new outcome faults stopped) ⊎ ((reply ≡ s.NoMemory) × IsUnchanged disk old new))

  fared : (outcome : Outcome SubscriberStep) (reply : SubscriberStep) → Happens disk old new outcome reply (fate_of reply) → Fared outcome reply
  fared outcome (s.Down faults stopped) h = inr (inl (faults, stopped, refl, h))
  fared outcome s.NoMemory h = inr (inr (refl, h))
  fared outcome (s.Answer given) h = inl h

  lacks : (reply : SubscriberStep) → fate_of reply ≡ lacked_memory → reply ≡ s.NoMemory
  lacks s.NoMemory e = refl
  lacks (s.Down faults stopped) e = absurd (cc)
  lacks (s.Answer given) e = absurd (cc)

  abbrev Before : NodeState
  Before = state_of disk old

  abbrev After : NodeState
  After = state_of disk new

  abbrev Takes : SubscriberStep → Type 0
  Takes reply = TakesPacket Before reply After

  answered_so : (packet : List ℕ) (reply : Reply) (answer : SubscriberStep) → IsPlainReply packet reply → old.down ≡ None → HasAnswered disk old new (replies reply) answer → Takes answer
  answered_so packet reply answer (inl none) up h =
      let notes : new.notes ≡ old.notes = h.notes_are ∙ ap (λ (l : List Note). old.notes ++ l) none ∙ append-nil old.notes in
      subst Takes (sym h.answer_is) (inl (same_state disk old new notes h.still_up up))
  answered_so packet reply answer (inr one) up h =
      let notes : new.notes ≡ old.notes ++ Enter one.0 packet ∷ [] = h.notes_are ∙ ap (λ (l : List Note). old.notes ++ l) one.1 in
      subst Takes (sym h.answer_is)
      (inr (record { identifier = one.0; packet = packet; given_is = one.2; after = up_state disk old new (old.notes ++ Enter one.0 packet ∷ []) notes h.still_up }))

  fell_so : (reply : SubscriberStep) (outcome : Outcome SubscriberStep) (faults : ℕ) (stopped : Bool) → reply ≡ s.Down faults stopped → HasFallen disk old new outcome faults stopped → Takes reply
  fell_so reply outcome faults stopped e h = subst Takes (sym e) (fallen_state disk old new faults stopped h.notes_are h.fell h.count_is)

  lacked_so : (reply : SubscriberStep) → reply ≡ s.NoMemory → old.down ≡ None → IsUnchanged disk old new → Takes reply
  lacked_so reply e up h = subst Takes (sym e) (same_state disk old new h.notes_are h.still_up up)

  takes : (packet : List ℕ) (told : Reply) (reply : SubscriberStep) → IsPlainReply packet told → old.down ≡ None → Fared (replies told) reply → Takes reply
  takes packet told reply plain up (inl h) = answered_so packet told reply plain up h
  takes packet told reply plain up (inr (inl h)) = fell_so reply (replies told) h.0 h.1 h.2 h.3
  takes packet told reply plain up (inr (inr h)) = lacked_so reply h.0 up h.1

  abbrev Turned : Option ℕ → SubscriberStep → Type 0
  Turned d reply = PacketTurn d Before reply After

  up_turn : (packet : List ℕ) (reply : SubscriberStep) → old.down ≡ None → IsSubscriberStep disk old (Packet packet) reply new → Turned None reply
  up_turn packet reply up step =
      ⊎_elim
      (λ lacked. lacked_so reply (lacks reply lacked) up (step.no_memory lacked))
      (λ right. takes packet (subscriber_packet right.0 old.notes packet) reply (plain_judged right.0 old.notes packet (right.0.judge packet)) up (fared (replies (subscriber_packet right.0 old.notes packet)) reply (step.happens up right.0 right.1)))
      (step.rules up)

  turn_by : (packet : List ℕ) (reply : SubscriberStep) (d : Option DiskFail) → old.down ≡ d → IsSubscriberStep disk old (Packet packet) reply new → Turned (down_of disk old.disk d) reply
  turn_by packet reply None e step = up_turn packet reply e step
  turn_by packet reply (Some fail) e step =
      let was = step.was_down fail e in
      (subst (λ (r : SubscriberStep). SaysItIsDown (disk.faults old.disk) r) (sym was.0) refl, ap (λ (x : EndView D). state_of disk x) was.1)

  pub packet_turn : (packet : List ℕ) (reply : SubscriberStep) → IsSubscriberStep disk old (Packet packet) reply new → Turned (down_of disk old.disk old.down) reply
  packet_turn packet reply step = turn_by packet reply old.down refl step
