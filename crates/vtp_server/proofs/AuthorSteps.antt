-- A step of an author as a turn of its line.
use Rattle.std.proofs.Common.{◌≡◌, ◌⊎◌, ℕ, Bool, true, false, cond, List, [], ◌∷◌, ◌++◌, length, Some, None, refl, sym, ap, ◌∙◌, subst, inl, inr, ⊎_elim}
use Rattle.std.proofs.lemmas.List.{append-nil}
use Rattle.std.specs.Prelude.{Option}
use Rattle.voe_disk.specs.declared.disk.Disk.{Ghosts}
use Rattle.voe_disk.specs.declared.fail.DiskFail.{DiskFail}
use Rattle.net_model.specs.Notes.{Placed, first_from, is_open, offer, to_send}
use Rattle.net_model.specs.Rules.{NodeRules}
use Rattle.net_model.specs.Steps.{Outcome, adds, answer_note, author_gives, author_next, says}
use Rattle.net_model.specs.declared.note.Note.{Note}
use Rattle.net_model.specs.declared.step.AuthorStep.{AuthorStep}
use Rattle.net_model.specs.declared.step.AuthorStep.TheVariants as a
use Rattle.node_notes.specs.Tells.{AreInOrder}
use Rattle.node_book.specs.Ends.{EndView, IsSound}
use Rattle.node_book.specs.EndSteps.{Fate, Happens, HasAnswered, HasFallen, IsUnchanged, answered, is_down, lacked_memory}
use Rattle.node_book.specs.Keeps.{has_room}
use Rattle.node_book.proofs.EndFound.{sent_from}
use Rattle.author_end.specs.Author.{fate_of, outcome_of}
use Rattle.vtp_server.proofs.GoodPackets.{IsGood, good_at}
use Rattle.vtp_server.specs.NodeState.{NodeState}
use Rattle.vtp_server.specs.OneEnd.{IsAuthorStep, author_event, down_of, state_of}
use Rattle.vtp_server.specs.Sendable.{IsSendableOn}
use Rattle.vtp_server.specs.Submission.{LineTurn, Looks, SaysDown, Settles}
use Rattle.vtp_server.specs.declared.author.AuthorAsk.{AuthorAsk}
use Rattle.vtp_server.specs.declared.author.AuthorAsk.TheVariants as ask
use Rattle.vtp_server.proofs.EndStates.{fallen_state, same_state, up_state}

module _ {D : Type 0} (disk : Ghosts D) (old new : EndView D) where
  -- it has answered, it has fallen, or there was no memory
  abbrev Fared : Outcome AuthorStep → AuthorStep → Type 0
  Fared outcome reply = HasAnswered disk old new outcome reply ⊎ (((faults : ℕ) × (stopped : Bool) × (reply ≡ a.Down faults stopped) × HasFallen disk old new outcome faults stopped) ⊎ ((reply ≡ a.NoMemory) × IsUnchanged disk old new))

  fared : (outcome : Outcome AuthorStep) (reply : AuthorStep) → Happens disk old new outcome reply (fate_of reply) → Fared outcome reply
  fared outcome (a.Down faults stopped) h = inr (inl (faults, stopped, refl, h))
  fared outcome a.NoMemory h = inr (inr (refl, h))
  fared outcome a.Wrote h = inl h
  fared outcome a.Known h = inl h
  fared outcome (a.Refused code) h = inl h
  fared outcome (a.Packet at identifier packet) h = inl h
  fared outcome a.Nothing h = inl h
  fared outcome a.Noted h = inl h
  fared outcome a.Passed h = inl h
  fared outcome a.Full h = inl h

  lacks : (reply : AuthorStep) → fate_of reply ≡ lacked_memory → reply ≡ a.NoMemory
  lacks a.NoMemory e = refl
  lacks (a.Down faults stopped) e = absurd (cc)
  lacks a.Wrote e = absurd (cc)
  lacks a.Known e = absurd (cc)
  lacks (a.Refused code) e = absurd (cc)
  lacks (a.Packet at identifier packet) e = absurd (cc)
  lacks a.Nothing e = absurd (cc)
  lacks a.Noted e = absurd (cc)
  lacks a.Passed e = absurd (cc)
  lacks a.Full e = absurd (cc)

  abbrev Before : NodeState
  Before = state_of disk old

  abbrev After : NodeState
  After = state_of disk new

  no_note : new.notes ≡ old.notes ++ [] → new.notes ≡ old.notes
  no_note e = e ∙ append-nil old.notes

  -- ---- asking for a packet

  looks_by : (line after : ℕ) (found : Option Placed) (reply : AuthorStep) → first_from (to_send old.notes line) after 0 old.notes ≡ found → old.down ≡ None → Fared (author_gives found) reply → Looks line Before after reply After
  looks_by line after None reply e up (inl h) = subst (λ (r : AuthorStep). Looks line Before after r After) (sym h.answer_is) (e, same_state disk old new (no_note h.notes_are) h.still_up up)
  looks_by line after (Some p) reply e up (inl h) = subst (λ (r : AuthorStep). Looks line Before after r After) (sym h.answer_is) (e, same_state disk old new (no_note h.notes_are) h.still_up up)
  looks_by line after None reply e up (inr (inl h)) = absurd (h.3.adds_note refl)
  looks_by line after (Some p) reply e up (inr (inl h)) = absurd (h.3.adds_note refl)
  looks_by line after found reply e up (inr (inr h)) = subst (λ (r : AuthorStep). Looks line Before after r After) (sym h.0) (same_state disk old new h.1.notes_are h.1.still_up up)

  -- ---- hearing an answer

  module _ (line : ℕ) (identifier : List ℕ) (ack : Bool) (reply : AuthorStep) where
    abbrev Room : List Note → Note → Bool
    Room notes note = has_room old.config notes note

    abbrev Settled : AuthorStep → Type 0
    Settled r = Settles line Room Before identifier ack r After

    settles_by : (there room : Bool) → is_open old.notes line identifier ≡ there → Room old.notes (answer_note ack line identifier) ≡ room → old.down ≡ None → Fared (cond there (adds room (answer_note ack line identifier) a.Noted a.Full) (says a.Passed)) reply → Settled reply
    settles_by true true there_is space up (inl h) = subst Settled (sym h.answer_is) (there_is, up_state disk old new (old.notes ++ answer_note ack line identifier ∷ []) h.notes_are h.still_up)
    settles_by true false there_is space up (inl h) = subst Settled (sym h.answer_is) (there_is, space, same_state disk old new (no_note h.notes_are) h.still_up up)
    settles_by false room there_is space up (inl h) = subst Settled (sym h.answer_is) (there_is, same_state disk old new (no_note h.notes_are) h.still_up up)
    settles_by true true there_is space up (inr (inl h)) = subst Settled (sym h.2) (there_is, fallen_state disk old new h.0 h.1 h.3.notes_are h.3.fell h.3.count_is)
    settles_by true false there_is space up (inr (inl h)) = absurd (h.3.adds_note refl)
    settles_by false room there_is space up (inr (inl h)) = absurd (h.3.adds_note refl)
    settles_by there room there_is space up (inr (inr h)) = subst Settled (sym h.0) (same_state disk old new h.1.notes_are h.1.still_up up)

  -- ---- a turn

  abbrev Turned : Option ℕ → ℕ → AuthorAsk → AuthorStep → Type 0
  Turned d line asked reply = LineTurn d line (λ notes note. has_room old.config notes note) Before asked reply After

  lacked_so : (outcome : Outcome AuthorStep) (reply : AuthorStep) → fate_of reply ≡ lacked_memory → (fate_of reply ≡ lacked_memory → IsUnchanged disk old new) → Fared outcome reply
  lacked_so outcome reply lacked un = inr (inr (lacks reply lacked, un lacked))

  up_turn : (line : ℕ) (asked : AuthorAsk) (reply : AuthorStep) → old.down ≡ None → IsAuthorStep disk old (author_event line asked) reply new → Turned None line asked reply
  up_turn line (ask.Next after) reply up s =
      looks_by line after (first_from (to_send old.notes line) after 0 old.notes) reply refl up
      (⊎_elim (λ lacked. lacked_so (author_next old.notes line after) reply lacked s.no_memory) (λ right. fared (author_next old.notes line after) reply (s.happens up right.0 right.1)) (s.rules up))
  up_turn line (ask.Answer identifier ack) reply up s =
      let note = answer_note ack line identifier in
      let there = is_open old.notes line identifier in
      let Outcomes : Bool → Outcome AuthorStep = λ room. cond there (adds room note a.Noted a.Full) (says a.Passed) in
      settles_by line identifier ack reply there (has_room old.config old.notes note) refl refl up
      (⊎_elim
      (λ lacked. lacked_so (Outcomes (has_room old.config old.notes note)) reply lacked s.no_memory)
      (λ right. subst (λ (room : Bool). Fared (Outcomes room) reply) (right.1 old.notes note) (fared (Outcomes (right.0.has_room old.notes note)) reply (s.happens up right.0 right.1)))
      (s.rules up))

  down_turn : (line : ℕ) (asked : AuthorAsk) (reply : AuthorStep) (fail : DiskFail) → old.down ≡ Some fail → IsAuthorStep disk old (author_event line asked) reply new → Turned (Some (disk.faults old.disk)) line asked reply
  down_turn line asked reply fail down s =
      let was = s.was_down fail down in
      (subst (λ (r : AuthorStep). SaysDown (disk.faults old.disk) r) (sym was.0) refl, ap (λ (x : EndView D). state_of disk x) was.1)

  turn_by : (line : ℕ) (asked : AuthorAsk) (reply : AuthorStep) (d : Option DiskFail) → old.down ≡ d → IsAuthorStep disk old (author_event line asked) reply new → Turned (down_of disk old.disk d) line asked reply
  turn_by line asked reply None e s = up_turn line asked reply e s
  turn_by line asked reply (Some fail) e s = down_turn line asked reply fail e s

  pub line_turn : (line : ℕ) (asked : AuthorAsk) (reply : AuthorStep) → IsAuthorStep disk old (author_event line asked) reply new → Turned (down_of disk old.disk old.down) line asked reply
  line_turn line asked reply s = turn_by line asked reply old.down refl s

  -- ---- a packet that is given can be sent

  given_good : (line : ℕ) (asked : AuthorAsk) (at : ℕ) (identifier packet : List ℕ) (d : Option ℕ) → AreInOrder old.config [] old.notes → Turned d line asked (a.Packet at identifier packet) → IsGood (offer identifier packet)
  given_good line (ask.Next after) at identifier packet None order t = good_at old.config [] old.notes at (offer identifier packet) order (sent_from line after old.notes (at, offer identifier packet) t.0)
  given_good line (ask.Answer own ack) at identifier packet None order t = absurd t
  given_good line asked at identifier packet (Some faults) order t = absurd t.0

  notes_given : (line : ℕ) (asked : AuthorAsk) (at : ℕ) (identifier packet : List ℕ) (d : Option ℕ) → Turned d line asked (a.Packet at identifier packet) → new.notes ≡ old.notes
  notes_given line (ask.Next after) at identifier packet None t = ap (λ (x : NodeState). x.notes) t.1
  notes_given line (ask.Answer own ack) at identifier packet None t = absurd t
  notes_given line asked at identifier packet (Some faults) t = absurd t.0

  pub sendable : (line : ℕ) (asked : AuthorAsk) (reply : AuthorStep) → IsAuthorStep disk old (author_event line asked) reply new → IsSendableOn reply
  sendable line asked (a.Packet at identifier packet) s =
      let t = line_turn line asked (a.Packet at identifier packet) s in
      let order : AreInOrder old.config [] old.notes =
      subst (λ (notes : List Note). AreInOrder old.config [] notes) (notes_given line asked at identifier packet (down_of disk old.disk old.down) t) (subst (λ config. AreInOrder config [] new.notes) s.config s.sound.told.in_order) in
      let good = given_good line asked at identifier packet (down_of disk old.disk old.down) order t in
      (good.identifier, good.packet)
  sendable line asked a.Nothing s = tt
  sendable line asked a.Noted s = tt
  sendable line asked a.Passed s = tt
  sendable line asked a.Full s = tt
  sendable line asked (a.Down faults stopped) s = tt
  sendable line asked a.NoMemory s = tt
  sendable line asked a.Wrote s = tt
  sendable line asked a.Known s = tt
  sendable line asked (a.Refused code) s = tt
