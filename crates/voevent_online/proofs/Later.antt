-- Nothing goes back in a round, and an end that answered is up.
use Rattle.std.proofs.Common.{◌≡◌, refl, ◌⊎◌, ℕ, ◌+◌, ◌≤◌, Bool, true, false, List, [], ◌∷◌, Some, None, sym, ap, ◌∙◌, subst, inl, inr, ⊎_elim, arith}
use Rattle.std.specs.Prelude.{Option, nat_lt}
use Rattle.voe_disk.specs.Disk.{Rose as RoseAtDisk}
use Rattle.voe_disk.specs.declared.disk.Disk.{Ghosts as DiskGhosts}
use Rattle.voe_outside.specs.Causes.{Rose, count_after}
use Rattle.voe_outside.specs.Returns.{Returns}
use Rattle.voe_outside.specs.declared.link.Link.{Ghosts as LinkGhosts}
use Rattle.net_model.specs.Steps.{Outcome as StepOutcome, answer_note}
use Rattle.net_model.specs.declared.note.Note.{Note}
use Rattle.net_model.specs.declared.step.AuthorStep.{AuthorStep}
use Rattle.net_model.specs.declared.step.AuthorStep.TheVariants as reply
use Rattle.node_book.specs.Ends.{EndView}
use Rattle.node_book.specs.Keeps.{has_room}
use Rattle.node_notes.specs.declared.config.Config.{Config}
use Rattle.net_model.specs.Notes.{is_open, offer}
use Rattle.net_model.specs.declared.note.Note.TheVariants.{Acked}
use Rattle.vtp_server.proofs.FirstOpen.{first_open}
use Rattle.node_book.specs.EndSteps.{HasCause, Happens}
use Rattle.author_end.specs.Author.{fate_of, outcome_of}
use Rattle.vtp_server.specs.AuthorSide.{author_rules, submits}
use Rattle.vtp_server.specs.Calls.{course_from, terms_by}
use Rattle.vtp_server.specs.Counts.{link_counts}
use Rattle.vtp_server.specs.Endings.{submitted_by}
use Rattle.vtp_server.specs.Ends.{EndsBy}
use Rattle.vtp_server.specs.Moves.{Move}
use Rattle.vtp_server.specs.NodeState.{NodeState}
use Rattle.vtp_server.specs.OneEnd.{IsAuthorTurn, IsSameEnd, author_event, down_of, state_of}
use Rattle.vtp_server.specs.Submission.{IsFallen, IsLeft, IsRecorded, LeavesLine}
use Rattle.vtp_server.specs.Talk.{Leads, Terms, course_after}
use Rattle.vtp_server.specs.declared.author.AuthorAsk.{AuthorAsk}
use Rattle.vtp_server.specs.declared.breach.Breach.TheVariants as breach
use Rattle.vtp_server.specs.declared.breach.Parted.{Parted}
use Rattle.vtp_server.specs.declared.breach.Parted.TheVariants.{Broken, Stopped}
use Rattle.vtp_server.specs.declared.ended.Ended.{Ended}
use Rattle.vtp_server.specs.declared.ended.Ended.TheVariants as ended
use Rattle.vtp_server.specs.declared.ended.SubmitStop.{SubmitStop}
use Rattle.vtp_server.specs.declared.ended.SubmitStop.TheVariants as stop
use Rattle.vtp_server.specs.declared.ended.Submitted.{Submitted}
use Rattle.vtp_server.specs.declared.ended.Submitted.TheVariants as submitted
use Rattle.vtp_server.proofs.EndStates.{same_end, same_end_on}
use Rattle.vtp_server.proofs.Leading.{leads_with}
use Rattle.vtp_session.specs.declared.side.Side.TheVariants as side
use Rattle.voevent_online.specs.Following.{timers}
use Rattle.voevent_online.specs.Held.{LacksRoom, has_answer}
use Rattle.voevent_online.specs.Rounds.{Closes, IsNotReached, Rounds, Standing, Submits, outcome_of_ended}
use Rattle.voevent_online.specs.Submission.{Becomes, OnlyEnd, Settles, StandsAs, StaysOut}
use Rattle.voevent_online.specs.Submitting.{HasEndCause, LacksAnswerRoom}
use Rattle.voevent_online.specs.declared.submit_lines.Outcome.{Outcome}
use Rattle.voevent_online.specs.declared.submit_lines.Outcome.TheVariants as outcome
use Rattle.voevent_online.proofs.Ending.{is_down, is_up, link_counted, risen}
use Rattle.voevent_online.proofs.Opened.{answer_added}

counted_more : (n : ℕ) (b : Bool) → n ≤ count_after n b
counted_more n true = omega arith
counted_more n false = omega arith

-- an acknowledgement and a refusal are as long
same_room : (config : Config) (notes : List Note) (ack : Bool) (identifier : List ℕ) → has_room config notes (answer_note ack 0 identifier) ≡ has_room config notes (Acked 0 identifier)
unfolding has_room
same_room config notes true identifier = refl
same_room config notes false identifier = refl

-- ---- an end that goes down

module _ {D : Type 0} (disk : DiskGhosts D) (first : EndView D) where
  -- since the first moment the disk was not armed and its count did not fall; the end is up, or the count has risen
  record Fares (x : EndView D) : Type 0 where
    unarmed : (disk.arming x.disk).calls ≡ None
    later : disk.faults first.disk ≤ disk.faults x.disk
    up_or_risen : (x.down ≡ None) ⊎ RoseAtDisk (disk.faults first.disk) (disk.faults x.disk)

  abbrev Turns : EndView D → AuthorAsk → AuthorStep → ℕ → ℕ → EndView D → Type 0
  Turns before ask answer place front after = IsAuthorTurn disk 0 before ask answer place front after

  module _ (x y : EndView D) where
    fell : (stopped : Bool) → Fares x → HasCause disk x.disk y.disk stopped → RoseAtDisk (disk.faults first.disk) (disk.faults y.disk)
    fell false h cause = let later = h.later in omega (arith, later, cause)
    fell true h cause = absurd (let no : None ≡ Some cause.1 = sym h.unarmed ∙ cause.2 in cc)

    happened : (o : StepOutcome AuthorStep) (answer : AuthorStep) → Fares x → Happens disk x y o answer (fate_of answer) → (y.down ≡ None) ⊎ RoseAtDisk (disk.faults first.disk) (disk.faults y.disk)
    happened o (reply.Down faults stopped) h k = inr (fell stopped h k.cause)
    happened o reply.NoMemory h k = inl k.still_up
    happened o reply.Wrote h k = inl k.still_up
    happened o reply.Known h k = inl k.still_up
    happened o (reply.Refused code) h k = inl k.still_up
    happened o (reply.Packet at identifier packet) h k = inl k.still_up
    happened o reply.Nothing h k = inl k.still_up
    happened o reply.Noted h k = inl k.still_up
    happened o reply.Passed h k = inl k.still_up
    happened o reply.Full h k = inl k.still_up

  fares_on : (x y : EndView D) (ask : AuthorAsk) (answer : AuthorStep) (place front : ℕ) → Fares x → Turns x ask answer place front y → Turns x ask answer place front y × Fares y
  fares_on x y ask answer place front h t =
      let same = t.step.same_disk in
      let later = h.later in
      let more = same.faults in (
        t,
        record {
          unarmed = same.unarmed h.unarmed;
          later = omega (arith, later, more);
          up_or_risen = ⊎_elim
              (λ up. ⊎_elim
              (λ lacked. inl (t.step.no_memory lacked).still_up)
              (λ right. happened x y (outcome_of right.0 x.notes (author_event 0 ask)) answer h (t.step.happens up right.0 right.1))
              (t.step.rules up))
              (λ rose. inr (omega (arith, rose, more)))
              h.up_or_risen;
        },
      )

  -- an end that was up and is down after these turns: its disk's count has risen
  fallen_by : (last : EndView D) (moves : List (Move AuthorAsk AuthorStep)) → first.down ≡ None → (disk.arming first.disk).calls ≡ None → Leads Turns first moves last → (last.down ≡ None → ⊥) → RoseAtDisk (disk.faults first.disk) (disk.faults last.disk)
  fallen_by last moves up unarmed led down =
      let fared = (leads_with Turns Turns Fares fares_on first last moves (record { unarmed = unarmed; later = omega arith; up_or_risen = inl up }) led).1 in
      ⊎_elim (λ still_up. absurd (down still_up)) (λ rose. rose) fared.up_or_risen

-- ---- the reason

silent_of : (parted : Parted SubmitStop) (heard now : ℕ) → submitted.Ended (ended.Silent heard now) ≡ submitted_by parted → parted ≡ Broken (breach.Silent heard now)
silent_of (Broken (breach.Silent h n)) heard now e = cc
silent_of (Broken breach.PeerClosed) heard now e = absurd (cc)
silent_of (Broken (breach.Garbage place why)) heard now e = absurd (cc)
silent_of (Broken breach.LinkFault) heard now e = absurd (cc)
silent_of (Broken breach.SinkFault) heard now e = absurd (cc)
silent_of (Broken breach.NoMemory) heard now e = absurd (cc)
silent_of (Stopped (stop.Ack identifier)) heard now e = absurd (cc)
silent_of (Stopped (stop.Nak why)) heard now e = absurd (cc)
silent_of (Stopped stop.Nothing) heard now e = absurd (cc)
silent_of (Stopped stop.Full) heard now e = absurd (cc)
silent_of (Stopped (stop.Down faults)) heard now e = absurd (cc)
silent_of (Stopped stop.NoMemory) heard now e = absurd (cc)

module _ {D Di L : Type 0} (disk : DiskGhosts D) (link : LinkGhosts L) (returns : Di → Option (Returns L)) (faults : Di → ℕ) where
  abbrev Stand : Type 0
  Stand = Standing D Di

  abbrev Submitting : Submitted → Stand → Stand → Type 0
  Submitting told s t = Submits disk link returns faults told s t

  -- ---- nothing goes back

  pub record Later (s t : Stand) : Type 0 where
    pub same : IsSameEnd disk s.end t.end
    pub moment : s.moment ≤ t.moment
    pub dials : faults s.dialer ≤ faults t.dialer

  later_same : (s t : Stand) → t ≡ s → Later s t
  later_same s t e = subst (λ (x : Stand). Later s x) (sym e) (record { same = same_end disk s.end; moment = omega arith; dials = omega arith })

  later_on : (s m t : Stand) → Later s m → Later m t → Later s t
  later_on s m t h k = record {
    same = same_end_on disk s.end m.end t.end h.same k.same.config k.same.same_disk;
    moment = (let a = h.moment in let b = k.moment in omega (arith, a, b));
    dials = (let a = h.dials in let b = k.dials in omega (arith, a, b));
  }

  submits_later : (told : Submitted) (s t : Stand) → Submitting told s t → Later s t
  submits_later told s t h = record {
    same = h.same;
    moment = h.forward;
    dials = subst (λ (n : ℕ). faults s.dialer ≤ n) (sym h.dial_faults) (counted_more (faults s.dialer) (nat_lt 0 (link.fault_count h.last)));
  }

  unreached_later : (s t : Stand) → IsNotReached disk link returns faults s t → Later s t
  unreached_later s t h = record {
    same = subst (λ (e : EndView D). IsSameEnd disk s.end e) (sym h.same_end) (same_end disk s.end);
    moment = (let e = h.same_moment in omega (arith, e));
    dials = (let e = h.dial_faults in omega (arith, e));
  }

  only_later : (s t : Stand) → OnlyEnd s t → IsSameEnd disk s.end t.end → Later s t
  only_later s t h same = record {
    same = same;
    moment = (let e = h.same_moment in omega (arith, e));
    dials = (let e = ap faults h.same_dialer in omega (arith, e));
  }

  rounds_later : (wanted : List ℕ) (answers : List (Bool × List ℕ)) (s t : Stand) → Rounds disk link returns faults wanted answers s t → Later s t
  rounds_later wanted [] s t e = later_same s t e
  rounds_later wanted (answer ∷ answers) s t h = later_on s h.0 t (submits_later h.2.told s h.0 h.2.submits) (rounds_later wanted answers h.0 t h.3)

  closes_later : (wanted : List ℕ) (became : Outcome) (s t : Stand) → Closes disk link returns faults wanted became s t → Later s t
  closes_later wanted outcome.Acked s t h = submits_later (submitted.Ack wanted) s t h
  closes_later wanted (outcome.Nak why) s t h = submits_later (submitted.Nak why) s t h.0
  closes_later wanted outcome.Full s t h = submits_later submitted.Full s t h
  closes_later wanted outcome.DiskFault s t h = submits_later (submitted.Ended (ended.HubDown h.0)) s t h.1
  closes_later wanted outcome.NoMemory s t h = submits_later (submitted.Ended ended.NoMemory) s t h
  closes_later wanted outcome.LinkFault s t h = ⊎_elim (λ n. unreached_later s t n) (λ k. submits_later (submitted.Ended ended.LinkFault) s t k) h
  closes_later wanted outcome.Ended s t h = submits_later (submitted.Ended h.0) s t h.2
  closes_later wanted outcome.Conflict s t h = absurd h
  closes_later wanted outcome.NoLine s t h = absurd h

  settles_later : (wanted : List ℕ) (became : Outcome) (s t : Stand) → Settles disk link returns faults wanted became s t → Later s t
  settles_later wanted became s t h =
      ⊎_elim
      (λ stands. later_same s t stands.1)
      (λ ends. later_on s ends.last t (rounds_later wanted ends.answers s ends.last ends.rounds) (closes_later wanted became ends.last t ends.closes))
      h

  module _ (identifier packet : List ℕ) where
    stays_later : (became : Outcome) (s t : Stand) → StaysOut disk link returns faults identifier packet became s t → Later s t
    stays_later outcome.NoLine s t h = later_same s t h.1
    stays_later outcome.Conflict s t h = later_same s t h.1
    stays_later outcome.Full s t h = only_later s t h.1 h.0.same
    stays_later outcome.DiskFault s t h = only_later s t h.1 h.0.same
    stays_later outcome.NoMemory s t h = only_later s t h.1 h.0.same
    stays_later outcome.Acked s t h = absurd h
    stays_later (outcome.Nak why) s t h = absurd h
    stays_later outcome.LinkFault s t h = absurd h
    stays_later outcome.Ended s t h = absurd h

    pub becomes_later : (became : Outcome) (s t : Stand) → Becomes disk link returns faults identifier packet became s t → Later s t
    becomes_later became s t h =
        ⊎_elim
        (λ out. stays_later became s t out)
        (λ came. later_on s came.begun t (only_later s came.begun came.only_end came.held.same) (settles_later identifier became came.begun t came.settles))
        h

  -- ---- the end is up

  abbrev IsUp : Stand → Type 0
  IsUp s = down_of disk s.end.disk s.end.down ≡ None

  recorded_up : (s t : Stand) (ack : Bool) (identifier : List ℕ) → IsRecorded 0 (state_of disk s.end) ack identifier (state_of disk t.end) → IsUp t
  recorded_up s t ack identifier r = ap (λ (x : NodeState). x.down) r.after

  left_up : (s t : Stand) → IsLeft 0 (state_of disk s.end) (state_of disk t.end) → IsUp t
  left_up s t h = ap (λ (x : NodeState). x.down) h.same ∙ h.tried.up

  end_up : (s t : Stand) → t.end ≡ s.end → IsUp s → IsUp t
  end_up s t e up = subst (λ (x : EndView D). down_of disk x.disk x.down ≡ None) (sym e) up

  -- the outcomes that leave it so
  abbrev pub LeavesUp : Outcome → Type 0
  LeavesUp outcome.DiskFault = ⊥
  LeavesUp outcome.NoMemory = ⊥
  LeavesUp _ = Unit {0}

  ended_up : (why : Ended) (s t : Stand) → outcome_of_ended why ≡ outcome.Ended → LeavesLine 0 (state_of disk s.end) why (state_of disk t.end) → IsUp t
  ended_up ended.PeerClosed s t e h = left_up s t h
  ended_up (ended.Garbage place why) s t e h = left_up s t h
  ended_up (ended.Silent heard now) s t e h = left_up s t h
  ended_up ended.LinkFault s t e h = absurd (cc)
  ended_up (ended.HubDown count) s t e h = absurd (cc)
  ended_up ended.NoMemory s t e h = absurd (cc)
  ended_up ended.Counted s t e h = absurd h
  ended_up (ended.Replaced newer) s t e h = absurd h
  ended_up ended.SinkFault s t e h = absurd h

  closes_up : (wanted : List ℕ) (became : Outcome) (s t : Stand) → LeavesUp became → IsUp s → Closes disk link returns faults wanted became s t → IsUp t
  closes_up wanted outcome.Acked s t u up h = recorded_up s t true wanted h.becomes
  closes_up wanted (outcome.Nak why) s t u up h = recorded_up s t false wanted h.1
  closes_up wanted outcome.Full s t u up h = ap (λ (x : NodeState). x.down) h.becomes.same ∙ h.becomes.tried.up
  closes_up wanted outcome.LinkFault s t u up h = ⊎_elim (λ n. end_up s t n.same_end up) (λ k. left_up s t k.becomes) h
  closes_up wanted outcome.Ended s t u up h = ended_up h.0 s t h.1 h.2.becomes
  closes_up wanted outcome.DiskFault s t u up h = absurd u
  closes_up wanted outcome.NoMemory s t u up h = absurd u
  closes_up wanted outcome.Conflict s t u up h = absurd h
  closes_up wanted outcome.NoLine s t u up h = absurd h

  rounds_up : (wanted : List ℕ) (answers : List (Bool × List ℕ)) (s t : Stand) → IsUp s → Rounds disk link returns faults wanted answers s t → IsUp t
  rounds_up wanted [] s t up e = subst IsUp (sym e) up
  rounds_up wanted (answer ∷ answers) s t up h = rounds_up wanted answers h.0 t (recorded_up s h.0 answer.0 answer.1 h.2.recorded) h.3

  settles_up : (wanted : List ℕ) (became : Outcome) (s t : Stand) → LeavesUp became → IsUp s → Settles disk link returns faults wanted became s t → IsUp t
  settles_up wanted became s t u up h =
      ⊎_elim
      (λ stands. subst IsUp (sym stands.1) up)
      (λ ends. closes_up wanted became ends.last t u (rounds_up wanted ends.answers s ends.last up ends.rounds) ends.closes)
      h

  up_of : (s : Stand) → s.end.down ≡ None → IsUp s
  up_of s up = ap (down_of disk s.end.disk) up

  module _ (identifier packet : List ℕ) where
    stays_up : (became : Outcome) (s t : Stand) → LeavesUp became → IsUp s → StaysOut disk link returns faults identifier packet became s t → IsUp t
    stays_up outcome.NoLine s t u up h = subst IsUp (sym h.1) up
    stays_up outcome.Conflict s t u up h = subst IsUp (sym h.1) up
    stays_up outcome.Full s t u up h = up_of t h.0.up
    stays_up outcome.DiskFault s t u up h = absurd u
    stays_up outcome.NoMemory s t u up h = absurd u
    stays_up outcome.Acked s t u up h = absurd h
    stays_up (outcome.Nak why) s t u up h = absurd h
    stays_up outcome.LinkFault s t u up h = absurd h
    stays_up outcome.Ended s t u up h = absurd h

    pub becomes_up : (became : Outcome) (s t : Stand) → LeavesUp became → s.end.down ≡ None → Becomes disk link returns faults identifier packet became s t → t.end.down ≡ None
    becomes_up became s t u up h =
        is_up disk t.end.disk t.end.down
        (⊎_elim
        (λ out. stays_up became s t u (up_of s up) out)
        (λ came. settles_up identifier became came.begun t u (up_of came.begun came.held.up) came.settles)
        h)

    -- ---- the answer stands

    notes_of : (s t : Stand) (ack : Bool) (own : List ℕ) → IsRecorded 0 (state_of disk s.end) ack own (state_of disk t.end) → has_answer ack 0 own t.end.notes ≡ true
    notes_of s t ack own r = subst (λ (notes : List Note). has_answer ack 0 own notes ≡ true) (sym (ap (λ (x : NodeState). x.notes) r.after)) (answer_added s.end.notes ack own)

    held_on : (ack : Bool) (s t : Stand) → t ≡ s → has_answer ack 0 identifier s.end.notes ≡ true → has_answer ack 0 identifier t.end.notes ≡ true
    held_on ack s t e h = subst (λ (x : Stand). has_answer ack 0 identifier x.end.notes ≡ true) (sym e) h

    pub acked_stands : (s t : Stand) → Becomes disk link returns faults identifier packet outcome.Acked s t → has_answer true 0 identifier t.end.notes ≡ true
    acked_stands s t h =
        ⊎_elim
        (λ out. absurd out)
        (λ came. ⊎_elim (λ stands. held_on true came.begun t stands.1 stands.0) (λ ends. notes_of ends.last t true identifier ends.closes.becomes) came.settles)
        h

    nak_held : (why : Option (List ℕ)) (s t : Stand) → StandsAs (outcome.Nak why) identifier s.end.notes → t ≡ s → has_answer false 0 identifier t.end.notes ≡ true
    nak_held None s t h e = held_on false s t e h
    nak_held (Some text) s t h e = absurd h

    pub nak_stands : (why : Option (List ℕ)) (s t : Stand) → Becomes disk link returns faults identifier packet (outcome.Nak why) s t → has_answer false 0 identifier t.end.notes ≡ true
    nak_stands why s t h =
        ⊎_elim
        (λ out. absurd out)
        (λ came. ⊎_elim (λ stands. nak_held why came.begun t stands.0 stands.1) (λ ends. notes_of ends.last t false identifier ends.closes.1) came.settles)
        h

    -- ---- counts that rose

    rose_later : (s m t : Stand) → Later s m → Rose (faults m.dialer) (faults t.dialer) → Rose (faults s.dialer) (faults t.dialer)
    rose_later s m t h rose = let less = h.dials in omega (arith, less, rose)

    link_rose : (s t : Stand) → Closes disk link returns faults identifier outcome.LinkFault s t → Rose (faults s.dialer) (faults t.dialer)
    link_rose s t h =
        ⊎_elim
        (λ n. let rose = n.dial_faults in omega (arith, rose))
        (λ k. link_counted (faults s.dialer) (faults t.dialer) (link.fault_count k.last) k.dial_faults (risen (link.fault_count k.fresh) (link.fault_count k.last) k.unused.no_fault k.talk.cause))
        h

    pub dialer_rose : (s t : Stand) → Becomes disk link returns faults identifier packet outcome.LinkFault s t → Rose (faults s.dialer) (faults t.dialer)
    dialer_rose s t h =
        ⊎_elim
        (λ out. absurd out)
        (λ came. ⊎_elim
        (λ stands. absurd stands.0)
        (λ ends.
        let begun = only_later s came.begun came.only_end came.held.same in
        let last = later_on s came.begun ends.last begun (rounds_later identifier ends.answers came.begun ends.last ends.rounds) in
        rose_later s ends.last t last (link_rose ends.last t ends.closes))
        came.settles)
        h

    disk_later : (a b c : ℕ) → a ≤ b → RoseAtDisk b c → RoseAtDisk a c
    disk_later a b c less rose = omega (arith, less, rose)

    not_up : (s t : Stand) (count : ℕ) → IsUp s → LeavesLine 0 (state_of disk s.end) (ended.HubDown count) (state_of disk t.end) → t.end.down ≡ None → ⊥
    not_up s t count up h =
        ⊎_elim
        (λ was. λ now. (let no : None ≡ Some count = sym up ∙ was.0 in cc))
        (λ (fell : IsFallen 0 (state_of disk s.end) count (state_of disk t.end)). is_down disk t.end.disk t.end.down count (ap (λ (x : NodeState). x.down) fell.after))
        h

    down_rose : (s t : Stand) (count : ℕ) → IsUp s → (disk.arming s.end.disk).calls ≡ None → Submitting (submitted.Ended (ended.HubDown count)) s t → RoseAtDisk (disk.faults s.end.disk) (disk.faults t.end.disk)
    down_rose s t count up unarmed h =
        fallen_by disk s.end t.end h.talk.ends.moves (is_up disk s.end.disk s.end.down up) unarmed h.talk.ends.made.turns (not_up s t count up h.becomes)

    pub disk_rose : (s t : Stand) → (disk.arming s.end.disk).calls ≡ None → Becomes disk link returns faults identifier packet outcome.DiskFault s t → RoseAtDisk (disk.faults s.end.disk) (disk.faults t.end.disk)
    disk_rose s t unarmed h =
        ⊎_elim
        (λ out. out.0.rose unarmed)
        (λ came. ⊎_elim
        (λ stands. absurd stands.0)
        (λ ends.
        let begun = only_later s came.begun came.only_end came.held.same in
        let last = later_on s came.begun ends.last begun (rounds_later identifier ends.answers came.begun ends.last ends.rounds) in
        let up = rounds_up identifier ends.answers came.begun ends.last (up_of came.begun came.held.up) ends.rounds in
        disk_later (disk.faults s.end.disk) (disk.faults ends.last.end.disk) (disk.faults t.end.disk) last.same.same_disk.faults
        (down_rose ends.last t ends.closes.0 up (last.same.same_disk.unarmed unarmed) ends.closes.1))
        came.settles)
        h

    -- ---- a session that ended

    -- a silence is as long as the timers say
    was_silent : (heard now : ℕ) (s t : Stand) → Submitting (submitted.Ended (ended.Silent heard now)) s t → s.moment + 180000 ≤ t.moment
    was_silent heard now s t h =
        let k = h.talk in
        let Terms_ : Terms = terms_by side.Author timers s.end.config.name [] in
        let first = course_from None submits k.start in
        let cause = subst (λ (e : Parted SubmitStop). EndsBy Terms_ e (course_after Terms_ author_rules first k.ends.moves) k.ends.moves k.ends.rest k.ends.lost (record { link = link_counts link h.fresh; sink = 0 }) (record { link = link_counts link h.last; sink = k.no_sink })) (silent_of k.parted heard now k.told) k.ends.cause in
        let long = cause.0.silent in
        let from = h.in_time.0 in
        let to = h.in_time.1 in
        omega (arith, long, from, to)

    pub end_cause : (why : Ended) (first s t : Stand) → first.moment ≤ s.moment → outcome_of_ended why ≡ outcome.Ended → (h : Submitting (submitted.Ended why) s t) → HasEndCause why (link.end_count h.last) (link.idle_count h.last) first.moment t.moment
    end_cause ended.PeerClosed first s t less e h = risen (link.end_count h.fresh) (link.end_count h.last) h.unused.no_end h.talk.cause
    end_cause (ended.Garbage place why) first s t less e h = tt
    end_cause (ended.Silent heard now) first s t less e h = (
      risen (link.idle_count h.fresh) (link.idle_count h.last) h.unused.no_idle h.talk.cause,
      (let long = was_silent heard now s t h in omega (arith, long, less)),
    )
    end_cause ended.LinkFault first s t less e h = absurd (cc)
    end_cause (ended.HubDown count) first s t less e h = absurd (cc)
    end_cause ended.NoMemory first s t less e h = absurd (cc)
    end_cause ended.Counted first s t less e h = absurd h.becomes
    end_cause (ended.Replaced newer) first s t less e h = absurd h.becomes
    end_cause ended.SinkFault first s t less e h = absurd h.becomes

    -- the last session of a call that it ended
    pub record LastEnded (first t : Stand) : Type 0 where
      pub why : Ended
      pub last : Stand
      pub submits : Submitting (submitted.Ended why) last t
      pub cause : HasEndCause why (link.end_count submits.last) (link.idle_count submits.last) first.moment t.moment

    pub last_ended : (s t : Stand) → Becomes disk link returns faults identifier packet outcome.Ended s t → LastEnded s t
    last_ended s t h =
        ⊎_elim
        (λ out. absurd out)
        (λ came. ⊎_elim
        (λ stands. absurd stands.0)
        (λ ends.
        let begun = only_later s came.begun came.only_end came.held.same in
        let last = later_on s came.begun ends.last begun (rounds_later identifier ends.answers came.begun ends.last ends.rounds) in
        record {
          why = ends.closes.0;
          last = ends.last;
          submits = ends.closes.2;
          cause = end_cause ends.closes.0 s ends.last t last.moment ends.closes.1 ends.closes.2;
        })
        came.settles)
        h

    -- ---- no room for an answer

    answer_lacks : (s t : Stand) → Submitting submitted.Full s t → LacksAnswerRoom t.end
    answer_lacks s t h =
        let k = h.becomes in
        let notes : t.end.notes ≡ s.end.notes = ap (λ (x : NodeState). x.notes) k.same in
        let there : is_open s.end.notes 0 k.identifier ≡ true = first_open s.end.notes 0 0 0 s.end.notes (k.tried.first.at, offer k.identifier k.tried.first.packet) k.tried.first.is in
        let none : has_room s.end.config s.end.notes (Acked 0 k.identifier) ≡ false = sym (same_room s.end.config s.end.notes k.ack k.identifier) ∙ k.no_room in
        record {
          identifier = k.identifier;
          unanswered = subst (λ (ns : List Note). is_open ns 0 k.identifier ≡ true) (sym notes) there;
          no_room = subst (λ (ns : List Note). has_room t.end.config ns (Acked 0 k.identifier) ≡ false) (sym notes) (subst (λ (config : Config). has_room config s.end.notes (Acked 0 k.identifier) ≡ false) (sym h.same.config) none);
        }

    pub full_lacks : (s t : Stand) → Becomes disk link returns faults identifier packet outcome.Full s t → LacksRoom disk identifier packet s.end t.end ⊎ LacksAnswerRoom t.end
    full_lacks s t h =
        ⊎_elim
        (λ out. inl out.0)
        (λ came. ⊎_elim (λ stands. absurd stands.0) (λ ends. inr (answer_lacks ends.last t ends.closes)) came.settles)
        h
