-- What rounds do, one after the other.
use Rattle.std.proofs.Common.{◌≡◌, ℕ, Bool, true, false, List, [], ◌∷◌, ◌++◌, Some, None, refl, ap, subst, inl, inr}
use Rattle.std.specs.Prelude.{Option}
use Rattle.voe_disk.specs.declared.disk.Disk.{Ghosts as DiskGhosts}
use Rattle.voe_outside.specs.Returns.{Returns}
use Rattle.voe_outside.specs.declared.link.Link.{Ghosts as LinkGhosts}
use Rattle.net_model.specs.Notes.{is_open}
use Rattle.net_model.specs.Steps.{answer_note}
use Rattle.net_model.specs.declared.note.Note.{Note}
use Rattle.vtp_server.specs.NodeState.{NodeState}
use Rattle.vtp_server.specs.OneEnd.{state_of}
use Rattle.vtp_server.specs.Submission.{IsRecorded}
use Rattle.vtp_server.specs.declared.ended.Ended.{Ended}
use Rattle.vtp_server.specs.declared.ended.Ended.TheVariants as ended
use Rattle.vtp_server.specs.declared.ended.Submitted.{Submitted}
use Rattle.vtp_server.specs.declared.ended.Submitted.TheVariants as submitted
use Rattle.voevent_online.specs.Rounds.{Closes, EndsRounds, IsRound, Records, Rounds, Standing, Submits, outcome_after, outcome_of_ended, unless_unanswered}
use Rattle.voevent_online.specs.declared.submit_lines.Outcome.{Outcome}
use Rattle.voevent_online.specs.declared.submit_lines.Outcome.TheVariants as outcome
use Rattle.voevent_online.proofs.Opened.{closed_by, open_not_none}

same_some : {A : Type 0} {x y : A} → Some x ≡ Some y → x ≡ y
same_some e = cc

-- an answer that is given came where nothing was unanswered any more
answered_so : (unanswered : Bool) (answer given : Outcome) → unless_unanswered unanswered answer ≡ Some given → (unanswered ≡ false) × (answer ≡ given)
answered_so true answer given e = absurd (cc)
answered_so false answer given e = (refl, same_some e)

still_unanswered : (unanswered : Bool) (answer : Outcome) → unless_unanswered unanswered answer ≡ None → unanswered ≡ true
still_unanswered true answer e = refl
still_unanswered false answer e = absurd (cc)

module _ {D Di L : Type 0} (disk : DiskGhosts D) (link : LinkGhosts L) (returns : Di → Option (Returns L)) (faults : Di → ℕ) (wanted : List ℕ) where
  abbrev Stand : Type 0
  Stand = Standing D Di

  abbrev Went : List (Bool × List ℕ) → Stand → Stand → Type 0
  Went answers s t = Rounds disk link returns faults wanted answers s t

  abbrev Recorded : Bool → List ℕ → Stand → Stand → Type 0
  Recorded ack identifier s t = Records disk link returns faults ack identifier s t

  abbrev Round : Option Submitted → Stand → Stand → Type 0
  Round told s t = IsRound disk link returns faults told s t

  -- one round more
  rounds_then : (answers : List (Bool × List ℕ)) (s m t : Stand) (ack : Bool) (identifier : List ℕ) → Went answers s m → is_open m.end.notes 0 wanted ≡ true → Recorded ack identifier m t → Went (answers ++ (ack, identifier) ∷ []) s t
  rounds_then [] s m t ack identifier went unanswered recorded =
      subst (λ (x : Stand). Went ((ack, identifier) ∷ []) x t) went (t, unanswered, recorded, refl)
  rounds_then (answer ∷ answers) s m t ack identifier went unanswered recorded =
      (went.0, went.1, went.2, rounds_then answers went.0 m t ack identifier went.3 unanswered recorded)

  -- rounds so far, with the packet still unanswered
  pub record SoFar (s t : Stand) : Type 0 where
    pub answers : List (Bool × List ℕ)
    pub rounds : Went answers s t
    pub unanswered : is_open t.end.notes 0 wanted ≡ true

  pub none_yet : (s : Stand) → is_open s.end.notes 0 wanted ≡ true → SoFar s s
  none_yet s unanswered = record { answers = []; rounds = refl; unanswered = unanswered }

  further : (s m t : Stand) (ack : Bool) (identifier : List ℕ) → SoFar s m → Recorded ack identifier m t → is_open t.end.notes 0 wanted ≡ true → SoFar s t
  further s m t ack identifier h recorded unanswered = record {
    answers = h.answers ++ (ack, identifier) ∷ [];
    rounds = rounds_then h.answers s m t ack identifier h.rounds h.unanswered recorded;
    unanswered = unanswered;
  }

  -- a round behind which another one follows
  pub goes_on : (told : Option Submitted) (s m t : Stand) → SoFar s m → Round told m t → outcome_after told (is_open t.end.notes 0 wanted) ≡ None → SoFar s t
  goes_on None s m t h round e = absurd (cc)
  goes_on (Some (submitted.Ended why)) s m t h round e = absurd (cc)
  goes_on (Some submitted.Full) s m t h round e = absurd (cc)
  goes_on (Some (submitted.Ack identifier)) s m t h round e =
      further s m t true identifier h (record { told = submitted.Ack identifier; submits = round; recorded = round.becomes }) (still_unanswered (is_open t.end.notes 0 wanted) outcome.Acked e)
  goes_on (Some (submitted.Nak why)) s m t h round e =
      further s m t false round.becomes.0 h (record { told = submitted.Nak why; submits = round; recorded = round.becomes.1 }) (still_unanswered (is_open t.end.notes 0 wanted) (outcome.Nak why) e)
  goes_on (Some submitted.Nothing) s m t h round e = absurd (open_not_none m.end.notes wanted h.unanswered round.becomes.1)

  -- the notes behind an answer
  notes_after : (m t : Stand) (ack : Bool) (identifier : List ℕ) → IsRecorded 0 (state_of disk m.end) ack identifier (state_of disk t.end) → t.end.notes ≡ m.end.notes ++ answer_note ack 0 identifier ∷ []
  notes_after m t ack identifier r = ap (λ (x : NodeState). x.notes) r.after

  names : (m t : Stand) (ack : Bool) (identifier : List ℕ) → is_open m.end.notes 0 wanted ≡ true → is_open t.end.notes 0 wanted ≡ false → IsRecorded 0 (state_of disk m.end) ack identifier (state_of disk t.end) → identifier ≡ wanted
  names m t ack identifier was now r =
      closed_by m.end.notes ack identifier wanted was (subst (λ (notes : List Note). is_open notes 0 wanted ≡ false) (notes_after m t ack identifier r) now)

  closes_ended : (why : Ended) (m t : Stand) → Submits disk link returns faults (submitted.Ended why) m t → Closes disk link returns faults wanted (outcome_of_ended why) m t
  closes_ended ended.PeerClosed m t round = (ended.PeerClosed, refl, round)
  closes_ended (ended.Garbage place why) m t round = (ended.Garbage place why, refl, round)
  closes_ended (ended.Silent heard now) m t round = (ended.Silent heard now, refl, round)
  closes_ended ended.LinkFault m t round = inr round
  closes_ended (ended.HubDown faults_told) m t round = (faults_told, round)
  closes_ended ended.NoMemory m t round = round
  closes_ended ended.Counted m t round = absurd round.becomes
  closes_ended (ended.Replaced newer) m t round = absurd round.becomes
  closes_ended ended.SinkFault m t round = absurd round.becomes

  abbrev Closed : Outcome → Stand → Stand → Type 0
  Closed became m t = Closes disk link returns faults wanted became m t

  closes_by : (told : Option Submitted) (became : Outcome) (m t : Stand) → is_open m.end.notes 0 wanted ≡ true → Round told m t → outcome_after told (is_open t.end.notes 0 wanted) ≡ Some became → Closed became m t
  closes_by None became m t unanswered round e = subst (λ (o : Outcome). Closed o m t) (same_some e) (inl round)
  closes_by (Some (submitted.Ended why)) became m t unanswered round e = subst (λ (o : Outcome). Closed o m t) (same_some e) (closes_ended why m t round)
  closes_by (Some submitted.Full) became m t unanswered round e = subst (λ (o : Outcome). Closed o m t) (same_some e) round
  closes_by (Some (submitted.Ack identifier)) became m t unanswered round e =
      let is = answered_so (is_open t.end.notes 0 wanted) outcome.Acked became e in
      let own = names m t true identifier unanswered is.0 round.becomes in
      subst (λ (o : Outcome). Closed o m t) is.1 (subst (λ (k : List ℕ). Submits disk link returns faults (submitted.Ack k) m t) own round)
  closes_by (Some (submitted.Nak why)) became m t unanswered round e =
      let is = answered_so (is_open t.end.notes 0 wanted) (outcome.Nak why) became e in
      let own = names m t false round.becomes.0 unanswered is.0 round.becomes.1 in
      subst (λ (o : Outcome). Closed o m t) is.1 (round, subst (λ (k : List ℕ). IsRecorded 0 (state_of disk m.end) false k (state_of disk t.end)) own round.becomes.1)
  closes_by (Some submitted.Nothing) became m t unanswered round e = absurd (open_not_none m.end.notes wanted unanswered round.becomes.1)

  -- the last round
  pub ends_so : (told : Option Submitted) (became : Outcome) (s m t : Stand) → SoFar s m → Round told m t → outcome_after told (is_open t.end.notes 0 wanted) ≡ Some became → EndsRounds disk link returns faults wanted became s t
  ends_so told became s m t h round e = record {
    answers = h.answers;
    last = m;
    rounds = h.rounds;
    unanswered = h.unanswered;
    closes = closes_by told became m t h.unanswered round e;
  }
