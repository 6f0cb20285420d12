-- A subscriber's end that was up and has fallen in one of its turns.
use Rattle.std.proofs.Common.{◌≡◌, ◌⊎◌, ℕ, ◌≤◌, Bool, true, false, cond, List, [], ◌∷◌, ◌++◌, Some, None, refl, sym, ap, ◌∙◌, subst, inl, inr, ⊎_elim, arith}
use Rattle.std.proofs.lemmas.List.{append-nil}
use Rattle.voe_disk.specs.Disk.{Rose}
use Rattle.voe_disk.specs.Runs.{Moments}
use Rattle.voe_disk.specs.declared.disk.Disk.{Ghosts}
use Rattle.voe_disk.specs.declared.fail.DiskFail.{DiskFail}
use Rattle.net_model.specs.Notes.{knows}
use Rattle.net_model.specs.Rules.{NodeRules}
use Rattle.net_model.specs.Steps.{adds, known_answer, says, subscriber_judged, subscriber_packet}
use Rattle.net_model.specs.declared.note.Note.{Note}
use Rattle.net_model.specs.declared.note.Note.TheVariants.{Enter}
use Rattle.net_model.specs.declared.state.NakCode.TheVariants.{Full}
use Rattle.net_model.specs.declared.state.Verdict.{Verdict}
use Rattle.net_model.specs.declared.state.Verdict.TheVariants as verdict
use Rattle.net_model.specs.declared.step.Judged.{Judged}
use Rattle.net_model.specs.declared.step.Judged.TheVariants.{BadTree, BadPacket, Good}
use Rattle.net_model.specs.declared.step.SubscriberStep.{SubscriberStep}
use Rattle.net_model.specs.declared.step.SubscriberStep.TheVariants as reply
use Rattle.node_notes.specs.declared.config.Config.{Config}
use Rattle.node_book.specs.Ends.{EndView, after_step, fail_of}
use Rattle.node_book.specs.EndSteps.{HasCause, HasFallen, Happens, KeepsEither}
use Rattle.node_book.specs.Keeps.{Keeps}
use Rattle.subscriber_end.specs.Subscriber.{fate_of, replies}
use Rattle.vtp_server.specs.Moves.{Move}
use Rattle.vtp_server.specs.OneEnd.{IsSubscriberTurn}
use Rattle.vtp_server.specs.Talk.{Leads}
use Rattle.vtp_server.proofs.Leading.{leads_with}
use Rattle.voevent_online.specs.Listening.{KeepsOrOneMore}

-- ---- a packet adds no note, or the one that enters it

abbrev AddsAtMost : List ℕ → List Note → Type 0
AddsAtMost packet added = (added ≡ []) ⊎ ((identifier : List ℕ) × (added ≡ Enter identifier packet ∷ []))

good_adds : (packet identifier : List ℕ) (known room : Bool) (told : Verdict) → AddsAtMost packet (cond known (says told) (adds room (Enter identifier packet) (verdict.Ack identifier) (verdict.Nak (Some identifier) Full))).added
good_adds packet identifier true room told = inl refl
good_adds packet identifier false true told = inr (identifier, refl)
good_adds packet identifier false false told = inl refl

judged_adds : (rules : NodeRules) (notes : List Note) (packet : List ℕ) (j : Judged) → AddsAtMost packet (subscriber_judged rules notes packet j).added
judged_adds rules notes packet (BadTree number) = inl refl
judged_adds rules notes packet (BadPacket number identifier) = inl refl
judged_adds rules notes packet (Good identifier) =
    good_adds packet identifier (knows notes identifier) (rules.has_room notes (Enter identifier packet)) (known_answer rules notes false packet identifier)

one_more : (config : Config) (notes added : List Note) (packet image : List ℕ) → AddsAtMost packet added → KeepsEither config notes added image → KeepsOrOneMore config notes image
one_more config notes added packet image (inl none) (inl before) = inl before
one_more config notes added packet image (inl none) (inr after) = inl (subst (λ (l : List Note). Keeps image config l) (ap (λ (l : List Note). notes ++ l) none ∙ append-nil notes) after)
one_more config notes added packet image (inr one) (inl before) = inl before
one_more config notes added packet image (inr one) (inr after) = inr (one.0, packet, subst (λ (l : List Note). Keeps image config l) (ap (λ (l : List Note). notes ++ l) one.1) after)

module _ {D : Type 0} (disk : Ghosts D) (moments : Moments disk) (first : EndView D) where
  -- the end is down, since its disk failed in a turn
  pub record IsFallen (x : EndView D) : Type 0 where
    pub fail : DiskFail
    pub down : x.down ≡ Some fail
    pub risen : Rose (disk.faults first.disk) (disk.faults x.disk)
    pub leaves : (image : List ℕ) → disk.may_leave x.disk image → KeepsOrOneMore first.config x.notes image

  -- the configuration stays, the disk was not armed and its count did not fall; the end is up, or has fallen
  record Fares (x : EndView D) : Type 0 where
    config : x.config ≡ first.config
    unarmed : (disk.arming x.disk).calls ≡ None
    later : disk.faults first.disk ≤ disk.faults x.disk
    fate : (x.down ≡ None) ⊎ IsFallen x

  abbrev Turns : EndView D → List ℕ → SubscriberStep → ℕ → ℕ → EndView D → Type 0
  Turns before packet answer place front after = IsSubscriberTurn disk before packet answer place front after

  module _ (x y : EndView D) where
    rises : (stopped : Bool) → Fares x → HasCause disk x.disk y.disk stopped → Rose (disk.faults first.disk) (disk.faults y.disk)
    rises false h cause = let later = h.later in omega (arith, later, cause)
    rises true h cause = absurd (let no : None ≡ Some cause.1 = sym h.unarmed ∙ cause.2 in cc)

    falls : (rules : NodeRules) (packet : List ℕ) (faults : ℕ) (stopped : Bool) → Fares x → HasFallen disk x y (replies (subscriber_packet rules x.notes packet)) faults stopped → IsFallen y
    falls rules packet faults stopped h k =
        let plain = judged_adds rules x.notes packet (rules.judge packet) in
        record {
          fail = fail_of stopped;
          down = k.fell;
          risen = rises stopped h k.cause;
          leaves = λ image left.
              subst (λ (config : Config). KeepsOrOneMore config y.notes image) h.config
              (subst (λ (notes : List Note). KeepsOrOneMore x.config notes image) (sym k.notes_are)
              (one_more x.config x.notes (subscriber_packet rules x.notes packet).added packet image plain (k.moments.each image (moments.last x.disk y.disk image k.moments.later left))));
        }

    happened : (rules : NodeRules) (packet : List ℕ) (answer : SubscriberStep) → Fares x → Happens disk x y (replies (subscriber_packet rules x.notes packet)) answer (fate_of answer) → (y.down ≡ None) ⊎ IsFallen y
    happened rules packet (reply.Answer given) h k = inl k.still_up
    happened rules packet (reply.Down faults stopped) h k = inr (falls rules packet faults stopped h k)
    happened rules packet reply.NoMemory h k = inl k.still_up

  stays : (x y : EndView D) → IsFallen x → y ≡ after_step x → IsFallen y
  stays x y h same = subst (λ (z : EndView D). IsFallen z) (sym same) (record { fail = h.fail; down = h.down; risen = h.risen; leaves = h.leaves })

  fares_on : (x y : EndView D) (packet : List ℕ) (answer : SubscriberStep) (place front : ℕ) → Fares x → Turns x packet answer place front y → Turns x packet answer place front y × Fares y
  fares_on x y packet answer place front h t =
      let same = t.step.same_disk in
      let later = h.later in
      let more = same.faults in (
        t,
        record {
          config = t.step.config ∙ h.config;
          unarmed = same.unarmed h.unarmed;
          later = omega (arith, later, more);
          fate = ⊎_elim
              (λ up. ⊎_elim
              (λ lacked. inl (t.step.no_memory lacked).still_up)
              (λ right. happened x y right.0 packet answer h (t.step.happens up right.0 right.1))
              (t.step.rules up))
              (λ fallen. inr (stays x y fallen (t.step.was_down fallen.fail fallen.down).1))
              h.fate;
        },
      )

  -- an end that was up and is down after these turns has fallen in one of them
  pub fallen_by : (last : EndView D) (moves : List (Move (List ℕ) SubscriberStep)) → first.down ≡ None → (disk.arming first.disk).calls ≡ None → Leads Turns first moves last → (last.down ≡ None → ⊥) → IsFallen last
  fallen_by last moves up unarmed led down =
      let fared = (leads_with Turns Turns Fares fares_on first last moves (record { config = refl; unarmed = unarmed; later = omega arith; fate = inl up }) led).1 in
      ⊎_elim (λ is_up. absurd (down is_up)) (λ fallen. fallen) fared.fate
