-- What a submission does to its end.
use Rattle.std.proofs.Common.{◌≡◌, ◌⊎◌, ℕ, Bool, true, false, List, [], ◌∷◌, ◌++◌, Some, None, refl, ap, sym, ◌∙◌, subst, inl, inr, ⊎_elim}
use Rattle.std.specs.Prelude.{Option, slice_get, zero, suc}
use Rattle.xml_lexer.specs.Characters.{Text}
use Rattle.net_model.specs.Notes.{is_open, offer}
use Rattle.net_model.specs.declared.step.AuthorStep.{AuthorStep}
use Rattle.net_model.specs.declared.step.AuthorStep.TheVariants as reply
use Rattle.vtp_messages.specs.declared.role.MessageRole.{MessageRole}
use Rattle.vtp_messages.specs.declared.role.MessageRole.TheVariants as role
use Rattle.vtp_session.specs.Acts.{Means, act_of, after_answer, answer_at, answer_of, answer_to, told_to_author}
use Rattle.vtp_session.specs.Places.{answered_at}
use Rattle.vtp_session.specs.Watch.{Times}
use Rattle.vtp_session.specs.declared.act.Act.{Act}
use Rattle.vtp_session.specs.declared.act.Act.TheVariants as act
use Rattle.vtp_session.specs.declared.said.Said.{Said}
use Rattle.vtp_session.specs.declared.said.Said.TheVariants as said
use Rattle.vtp_session.specs.declared.side.Side.TheVariants as side
use Rattle.vtp_server.specs.AuthorSide.{AuthorMemory, author_after_read, author_after_turn, author_rules, recorded, stop_of}
use Rattle.vtp_server.specs.Counts.{Counts}
use Rattle.vtp_server.specs.Endings.{submitted_by, submitting_by}
use Rattle.vtp_server.specs.Ends.{Breaks, EndsBy, EndsInIdleRead, EndsInLine, EndsInWrite, Lost, is_tell}
use Rattle.vtp_server.specs.Moves.{Found, Idle, Message, Move, Read, Tell, Turn, Unfinished, Write, act_in}
use Rattle.vtp_server.specs.NodeState.{NodeState, fallen, up_with}
use Rattle.vtp_server.specs.Submission.{AllExpected, HasAnswer, HasNone, IsAnyhow, IsExpected, IsFallen, IsFirst, IsFull, IsLeft, IsNothingTold, IsRecorded, IsToldOf, IsTried, LeavesLine, LineTurn, Looks, Room, SaysDown, Settles, with_answer}
use Rattle.vtp_server.specs.Talk.{Course, IsFound, Leads, MayCome, Says, Talk, Terms, course_after, course_after_move, waiting}
use Rattle.vtp_server.specs.declared.author.AuthorAsk.{AuthorAsk}
use Rattle.vtp_server.specs.declared.author.AuthorAsk.TheVariants as ask
use Rattle.vtp_server.specs.declared.author.Heard.{Heard}
use Rattle.vtp_server.specs.declared.breach.Breach.{Breach}
use Rattle.vtp_server.specs.declared.breach.Breach.TheVariants as breach
use Rattle.vtp_server.specs.declared.breach.Parted.{Parted}
use Rattle.vtp_server.specs.declared.breach.Parted.TheVariants.{Broken, Stopped}
use Rattle.vtp_server.specs.declared.ended.Ended.{Ended}
use Rattle.vtp_server.specs.declared.ended.Ended.TheVariants as ended
use Rattle.vtp_server.specs.declared.ended.SubmitStop.{SubmitStop}
use Rattle.vtp_server.specs.declared.ended.SubmitStop.TheVariants as stop
use Rattle.vtp_server.specs.declared.ended.Submitted.{Submitted}
use Rattle.vtp_server.specs.declared.ended.Submitted.TheVariants as submitted
use Rattle.vtp_server.specs.declared.side.Next.{Next}
use Rattle.vtp_server.specs.declared.side.Next.TheVariants as next
use Rattle.vtp_server.specs.declared.speech.Voice.{Voice}
use Rattle.vtp_server.proofs.FirstOpen.{first_open}
use Rattle.vtp_server.proofs.Joins.{course-append}
use Rattle.vtp_server.proofs.Lasts.{no_last_line}
use Rattle.vtp_server.proofs.RuleFacts.{author_tells}

-- ---- an answer names what waits

one_answered : (ack : Bool) (why : Option Text) (own : List ℕ) (o : Option ℕ) (at : ℕ) (identifier : List ℕ) (taken : Bool) (told : Option Text) → answer_at ack why (own ∷ []) o ≡ act.Answer at identifier taken told → identifier ≡ own
one_answered ack why own None at identifier taken told e = absurd (cc)
one_answered ack why own (Some zero) at identifier taken told e = cc
one_answered ack why own (Some (suc n)) at identifier taken told e = absurd (cc)

role_answered : (r : MessageRole) (origin : List ℕ) (response : Option (List ℕ)) (why : Option Text) (own : List ℕ) (at : ℕ) (identifier : List ℕ) (taken : Bool) (told : Option Text) → told_to_author r origin response why (own ∷ []) ≡ act.Answer at identifier taken told → identifier ≡ own
role_answered role.Ack origin response why own at identifier taken told e = one_answered true why own (answered_at true origin response (own ∷ [])) at identifier taken told e
role_answered role.Nak origin response why own at identifier taken told e = one_answered false why own (answered_at false origin response (own ∷ [])) at identifier taken told e
role_answered role.IAmAlive origin response why own at identifier taken told e = absurd (cc)
role_answered role.Authenticate origin response why own at identifier taken told e = absurd (cc)

said_answered : (place : ℕ) (payload : List ℕ) (what : Said) (own : List ℕ) (at : ℕ) (identifier : List ℕ) (taken : Bool) (told : Option Text) → act.Answer at identifier taken told ≡ act_of side.Author place payload (own ∷ []) what → identifier ≡ own
said_answered place payload said.Other own at identifier taken told e = absurd (cc)
said_answered place payload said.BadRole own at identifier taken told e = absurd (cc)
said_answered place payload said.NoOrigin own at identifier taken told e = absurd (cc)
said_answered place payload (said.Told m) own at identifier taken told e = role_answered m.role m.origin m.response m.result own at identifier taken told (sym e)

module _ (line : ℕ) (room : Room) (b : NodeState) where
  -- an answer is to be handed in
  pub record IsHeardSo (identifier : List ℕ) (ack : Bool) (m : AuthorMemory) (s : NodeState) : Type 0 where
    tried : IsTried line b identifier
    why : Option Text
    memory : m ≡ Some (record { identifier = identifier; ack = ack; why = why })
    same : s ≡ b

  -- where a submission stands before its next move
  abbrev At : Next AuthorAsk SubmitStop → AuthorMemory → List (List ℕ) → NodeState → Type 0
  At (next.Ask (ask.Next after)) m u s = (after ≡ 0) × (u ≡ []) × (s ≡ b)
  At (next.Ask (ask.Answer identifier ack)) m u s = IsHeardSo identifier ack m s
  At (next.Send identifier packet) m u s = IsTried line b identifier × (u ≡ []) × (s ≡ b)
  At next.Read m u s = (identifier : List ℕ) × IsTried line b identifier × (u ≡ identifier ∷ []) × (s ≡ b)
  At (next.Over why) m u s = IsToldOf line room b (submitting_by why) s
  At (next.Say speech) m u s = ⊥
  At (next.Tell text) m u s = ⊥

  -- ---- turns

  looks_on : (d : Option ℕ) (answer : AuthorStep) (m : AuthorMemory) (u : List (List ℕ)) (s : NodeState) → b.down ≡ d → u ≡ [] → LineTurn d line room b (ask.Next 0) answer s → At (author_after_turn m answer).1 (author_after_turn m answer).0 u s
  looks_on None (reply.Packet at identifier packet) m u s e n t = (record { up = e; first = record { at = at; packet = packet; is = t.0 } }, n, t.1)
  looks_on None reply.Nothing m u s e n t = (e, t.0, t.1)
  looks_on None reply.NoMemory m u s e n t = inl t
  looks_on None (reply.Down faults stopped) m u s e n t = absurd t
  looks_on None reply.Noted m u s e n t = absurd t
  looks_on None reply.Passed m u s e n t = absurd t
  looks_on None reply.Full m u s e n t = absurd t
  looks_on None reply.Wrote m u s e n t = absurd t
  looks_on None reply.Known m u s e n t = absurd t
  looks_on None (reply.Refused code) m u s e n t = absurd t
  looks_on (Some faults) (reply.Down count stopped) m u s e n t = inl (e ∙ ap Some (sym t.0), t.1)
  looks_on (Some faults) (reply.Packet at identifier packet) m u s e n t = absurd t.0
  looks_on (Some faults) reply.Nothing m u s e n t = absurd t.0
  looks_on (Some faults) reply.NoMemory m u s e n t = absurd t.0
  looks_on (Some faults) reply.Noted m u s e n t = absurd t.0
  looks_on (Some faults) reply.Passed m u s e n t = absurd t.0
  looks_on (Some faults) reply.Full m u s e n t = absurd t.0
  looks_on (Some faults) reply.Wrote m u s e n t = absurd t.0
  looks_on (Some faults) reply.Known m u s e n t = absurd t.0
  looks_on (Some faults) (reply.Refused code) m u s e n t = absurd t.0

  told_so : (ack : Bool) (identifier : List ℕ) (why : Option Text) (s : NodeState) → IsRecorded line b ack identifier s → IsToldOf line room b (submitting_by (stop_of ack identifier why)) s
  told_so true identifier why s h = h
  told_so false identifier why s h = (identifier, h)

  settles_on : (answer : AuthorStep) (identifier : List ℕ) (ack : Bool) (m : AuthorMemory) (u : List (List ℕ)) (s r : NodeState) → IsHeardSo identifier ack m r → Settles line room b identifier ack answer s → At (author_after_turn m answer).1 (author_after_turn m answer).0 u s
  settles_on reply.Noted identifier ack m u s r h t =
      subst (λ (x : AuthorMemory). At (recorded x).1 (recorded x).0 u s) (sym h.memory) (told_so ack identifier h.why s (record { tried = h.tried; after = t.1 }))
  settles_on reply.Full identifier ack m u s r h t = record { identifier = identifier; ack = ack; tried = h.tried; no_room = t.1; same = t.2 }
  settles_on reply.Passed identifier ack m u s r h t =
      let first = h.tried.first in
      absurd (let no : true ≡ false = sym (first_open b.notes line 0 0 b.notes (first.at, offer identifier first.packet) first.is) ∙ t.0 in cc)
  settles_on (reply.Down faults stopped) identifier ack m u s r h t = inr (record { identifier = identifier; tried = h.tried; after = t.1 })
  settles_on reply.NoMemory identifier ack m u s r h t = inl t
  settles_on (reply.Packet at own packet) identifier ack m u s r h t = absurd t
  settles_on reply.Nothing identifier ack m u s r h t = absurd t
  settles_on reply.Wrote identifier ack m u s r h t = absurd t
  settles_on reply.Known identifier ack m u s r h t = absurd t
  settles_on (reply.Refused code) identifier ack m u s r h t = absurd t

  turn_on : (asked : AuthorAsk) (answer : AuthorStep) (m : AuthorMemory) (u : List (List ℕ)) (r s : NodeState) → At (next.Ask asked) m u r → LineTurn r.down line room r asked answer s → At (author_after_turn m answer).1 (author_after_turn m answer).0 u s
  turn_on (ask.Next after) answer m u r s h t =
      looks_on b.down answer m u s refl h.1
      (subst (λ (x : NodeState × ℕ). LineTurn x.0.down line room x.0 (ask.Next x.1) answer s) (λ i. (h.2 i, h.0 i)) t)
  turn_on (ask.Answer identifier ack) answer m u r s h t =
      settles_on answer identifier ack m u s r h
      (subst (λ (d : Option ℕ). LineTurn d line room b (ask.Answer identifier ack) answer s) h.tried.up (subst (λ (x : NodeState). LineTurn x.down line room x (ask.Answer identifier ack) answer s) h.same t))

  -- which replies come

  looks_expected : (d : Option ℕ) (answer : AuthorStep) (s : NodeState) → LineTurn d line room b (ask.Next 0) answer s → IsExpected answer
  looks_expected None (reply.Packet at identifier packet) s t = tt
  looks_expected None reply.Nothing s t = tt
  looks_expected None reply.NoMemory s t = tt
  looks_expected None (reply.Down faults stopped) s t = tt
  looks_expected None reply.Noted s t = tt
  looks_expected None reply.Full s t = tt
  looks_expected None reply.Passed s t = absurd t
  looks_expected None reply.Wrote s t = absurd t
  looks_expected None reply.Known s t = absurd t
  looks_expected None (reply.Refused code) s t = absurd t
  looks_expected (Some faults) (reply.Down count stopped) s t = tt
  looks_expected (Some faults) (reply.Packet at identifier packet) s t = tt
  looks_expected (Some faults) reply.Nothing s t = tt
  looks_expected (Some faults) reply.NoMemory s t = tt
  looks_expected (Some faults) reply.Noted s t = tt
  looks_expected (Some faults) reply.Full s t = tt
  looks_expected (Some faults) reply.Passed s t = absurd t.0
  looks_expected (Some faults) reply.Wrote s t = absurd t.0
  looks_expected (Some faults) reply.Known s t = absurd t.0
  looks_expected (Some faults) (reply.Refused code) s t = absurd t.0

  settles_expected : (answer : AuthorStep) (identifier : List ℕ) (ack : Bool) (s : NodeState) → IsTried line b identifier → Settles line room b identifier ack answer s → IsExpected answer
  settles_expected reply.Passed identifier ack s tried t =
      let first = tried.first in
      absurd (let no : true ≡ false = sym (first_open b.notes line 0 0 b.notes (first.at, offer identifier first.packet) first.is) ∙ t.0 in cc)
  settles_expected reply.Noted identifier ack s tried t = tt
  settles_expected reply.Full identifier ack s tried t = tt
  settles_expected (reply.Down faults stopped) identifier ack s tried t = tt
  settles_expected reply.NoMemory identifier ack s tried t = tt
  settles_expected (reply.Packet at own packet) identifier ack s tried t = tt
  settles_expected reply.Nothing identifier ack s tried t = tt
  settles_expected reply.Wrote identifier ack s tried t = absurd t
  settles_expected reply.Known identifier ack s tried t = absurd t
  settles_expected (reply.Refused code) identifier ack s tried t = absurd t

  turn_expected : (asked : AuthorAsk) (answer : AuthorStep) (m : AuthorMemory) (u : List (List ℕ)) (r s : NodeState) → At (next.Ask asked) m u r → LineTurn r.down line room r asked answer s → IsExpected answer
  turn_expected (ask.Next after) answer m u r s h t = looks_expected b.down answer s (subst (λ (x : NodeState × ℕ). LineTurn x.0.down line room x.0 (ask.Next x.1) answer s) (λ i. (h.2 i, h.0 i)) t)
  turn_expected (ask.Answer identifier ack) answer m u r s h t =
      settles_expected answer identifier ack s h.tried
      (subst (λ (d : Option ℕ). LineTurn d line room b (ask.Answer identifier ack) answer s) h.tried.up (subst (λ (x : NodeState). LineTurn x.down line room x (ask.Answer identifier ack) answer s) h.same t))

  -- ---- reads and writes

  read_on : (place : ℕ) (found : Found) (m : AuthorMemory) (u : List (List ℕ)) (s : NodeState) → At next.Read m u s → IsFound side.Author place u found → At (author_after_read m (act_in found)).1 (author_after_read m (act_in found)).0 (after_answer (act_in found) u) s
  read_on place Idle m u s h k = h
  read_on place Unfinished m u s h k = h
  read_on place (Message payload (act.Answer at identifier ack why)) m u s h k =
      let means = subst (λ (l : List (List ℕ)). Means side.Author place payload l (act.Answer at identifier ack why)) h.2 k.means in
      let same = said_answered place payload means.what h.0 at identifier ack why means.act_is in
      record { tried = subst (λ (x : List ℕ). IsTried line b x) (sym same) h.1; why = why; memory = refl; same = h.3 }
  read_on place (Message payload act.Nothing) m u s h k = h
  read_on place (Message payload (act.Packet packet)) m u s h k = h
  read_on place (Message payload (act.Auth name filters)) m u s h k = h
  read_on place (Message payload (act.Challenge asker)) m u s h k = h
  read_on place (Message payload (act.Beat asker)) m u s h k = h
  read_on place (Message payload act.Pass) m u s h k = h
  read_on place (Message payload (act.Garbage at why)) m u s h k = h

  write_on : (terms : Terms) (n : Next AuthorAsk SubmitStop) (moment : ℕ) (payload : List ℕ) (m : AuthorMemory) (u : List (List ℕ)) (s : NodeState) → At n m u s → Says terms n moment payload → At next.Read m (waiting n u) s
  write_on terms (next.Send identifier packet) moment payload m u s h k = (identifier, h.0, ap (λ (l : List (List ℕ)). l ++ identifier ∷ []) h.1, h.2)
  write_on terms (next.Say speech) moment payload m u s h k = absurd h
  write_on terms next.Read moment payload m u s h k = absurd k
  write_on terms (next.Ask asked) moment payload m u s h k = absurd k
  write_on terms (next.Tell text) moment payload m u s h k = absurd k
  write_on terms (next.Over why) moment payload m u s h k = absurd k

  -- ---- all moves

  module _ {T : Type 0} (acts : T → AuthorAsk → AuthorStep → ℕ → ℕ → T → Type 0) (state_of : T → NodeState) (means : (x y : T) (asked : AuthorAsk) (answer : AuthorStep) (place front : ℕ) → acts x asked answer place front y → LineTurn (state_of x).down line room (state_of x) asked answer (state_of y)) (times : Times) (voice : Voice) where
    abbrev By : Terms
    By = record { side = side.Author; times = times; voice = voice }

    abbrev AtCourse : Course AuthorMemory AuthorAsk SubmitStop → T → Type 0
    AtCourse c x = At c.next c.memory c.unanswered (state_of x)

    pub moves_on : (c : Course AuthorMemory AuthorAsk SubmitStop) (moves : List (Move AuthorAsk AuthorStep)) (x y : T) → AtCourse c x → Talk By author_rules c moves → Leads acts x moves y → AtCourse (course_after By author_rules c moves) y
    moves_on c [] x y h talk led = subst (λ (z : T). AtCourse c z) (sym led) h
    moves_on c (Read found t ∷ ms) x y h talk led =
        moves_on (course_after_move By author_rules c (Read found t)) ms x y
        (read_on c.place found c.memory c.unanswered (state_of x) (subst (λ (n : Next AuthorAsk SubmitStop). At n c.memory c.unanswered (state_of x)) talk.0.0 h) talk.0.1)
        talk.1 led
    moves_on c (Turn asked answer place front ∷ ms) x y h talk led =
        moves_on (course_after_move By author_rules c (Turn asked answer place front)) ms led.0 y
        (turn_on asked answer c.memory c.unanswered (state_of x) (state_of led.0) (subst (λ (n : Next AuthorAsk SubmitStop). At n c.memory c.unanswered (state_of x)) talk.0.0 h) (means x led.0 asked answer place front led.1))
        talk.1 led.2
    moves_on c (Write payload ∷ ms) x y h talk led =
        moves_on (course_after_move By author_rules c (Write payload)) ms x y
        (write_on By c.next c.watch.latest payload c.memory c.unanswered (state_of x) h talk.0.0)
        talk.1 led
    moves_on c (Tell text ∷ ms) x y h talk led = absurd (subst (λ (n : Next AuthorAsk SubmitStop). At n c.memory c.unanswered (state_of x)) talk.0.0 h)

    pub all_expected : (c : Course AuthorMemory AuthorAsk SubmitStop) (moves : List (Move AuthorAsk AuthorStep)) (x y : T) → AtCourse c x → Talk By author_rules c moves → Leads acts x moves y → AllExpected moves
    all_expected c [] x y h talk led = tt
    all_expected c (Read found t ∷ ms) x y h talk led =
        all_expected (course_after_move By author_rules c (Read found t)) ms x y
        (read_on c.place found c.memory c.unanswered (state_of x) (subst (λ (n : Next AuthorAsk SubmitStop). At n c.memory c.unanswered (state_of x)) talk.0.0 h) talk.0.1)
        talk.1 led
    all_expected c (Turn asked answer place front ∷ ms) x y h talk led =
        let at = subst (λ (n : Next AuthorAsk SubmitStop). At n c.memory c.unanswered (state_of x)) talk.0.0 h in
        let t = means x led.0 asked answer place front led.1 in (
          turn_expected asked answer c.memory c.unanswered (state_of x) (state_of led.0) at t,
          all_expected (course_after_move By author_rules c (Turn asked answer place front)) ms led.0 y
              (turn_on asked answer c.memory c.unanswered (state_of x) (state_of led.0) at t)
              talk.1 led.2,
        )
    all_expected c (Write payload ∷ ms) x y h talk led =
        all_expected (course_after_move By author_rules c (Write payload)) ms x y
        (write_on By c.next c.watch.latest payload c.memory c.unanswered (state_of x) h talk.0.0)
        talk.1 led
    all_expected c (Tell text ∷ ms) x y h talk led = absurd (subst (λ (n : Next AuthorAsk SubmitStop). At n c.memory c.unanswered (state_of x)) talk.0.0 h)

    -- ---- the end

    left_so : (m : AuthorMemory) (u : List (List ℕ)) (s : NodeState) → At next.Read m u s → IsLeft line b s
    left_so m u s h = record { identifier = h.0; tried = h.1; same = h.3 }

    anyhow : (n : Next AuthorAsk SubmitStop) (m : AuthorMemory) (u : List (List ℕ)) (s : NodeState) → At n m u s → IsAnyhow line b s
    anyhow (next.Ask (ask.Next after)) m u s h = inl h.2
    anyhow (next.Ask (ask.Answer identifier ack)) m u s h = inl h.same
    anyhow (next.Send identifier packet) m u s h = inl h.2
    anyhow next.Read m u s h = inl h.3
    anyhow (next.Say speech) m u s h = absurd h
    anyhow (next.Tell text) m u s h = absurd h
    anyhow (next.Over (stop.Ack identifier)) m u s h = inr (inr (record { identifier = identifier; ack = true; recorded = h }))
    anyhow (next.Over (stop.Nak why)) m u s h = inr (inr (record { identifier = h.0; ack = false; recorded = h.1 }))
    anyhow (next.Over stop.Nothing) m u s h = inl h.2
    anyhow (next.Over stop.Full) m u s h = inl h.same
    anyhow (next.Over (stop.Down faults)) m u s h = ⊎_elim (λ (k : (b.down ≡ Some faults) × (s ≡ b)). inl k.1) (λ (k : IsFallen line b faults s). inr (inl (faults, k))) h
    anyhow (next.Over stop.NoMemory) m u s h = h

    reads_after_write : (c : Course AuthorMemory AuthorAsk SubmitStop) (moves : List (Move AuthorAsk AuthorStep)) → EndsInWrite moves → (course_after By author_rules c moves).next ≡ next.Read
    reads_after_write c moves h =
        ap (λ (l : List (Move AuthorAsk AuthorStep)). (course_after By author_rules c l).next) h.2
        ∙ ap (λ (d : Course AuthorMemory AuthorAsk SubmitStop). d.next) (course-append By author_rules c h.0 (Write h.1 ∷ []))

    reads_after_idle : (c : Course AuthorMemory AuthorAsk SubmitStop) (moves : List (Move AuthorAsk AuthorStep)) (now : ℕ) → EndsInIdleRead moves now → (course_after By author_rules c moves).next ≡ next.Read
    reads_after_idle c moves now h =
        ap (λ (l : List (Move AuthorAsk AuthorStep)). (course_after By author_rules c l).next) h.1
        ∙ ap (λ (d : Course AuthorMemory AuthorAsk SubmitStop). d.next) (course-append By author_rules c h.0 (Read Idle now ∷ []))

    abbrev AtRead : Course AuthorMemory AuthorAsk SubmitStop → T → Type 0
    AtRead d y = At next.Read d.memory d.unanswered (state_of y)

    -- how the end is left, by why the talk ended
    pub told_by : (c d : Course AuthorMemory AuthorAsk SubmitStop) (moves : List (Move AuthorAsk AuthorStep)) (parted : Parted SubmitStop) (rest : List ℕ) (lost : Lost) (old new : Counts) (y : T) → c.next ≡ next.Ask (ask.Next 0) → Talk By author_rules c moves → d ≡ course_after By author_rules c moves → EndsBy By parted d moves rest lost old new → AtCourse d y → IsToldOf line room b (submitted_by parted) (state_of y)
    told_by c d moves (Stopped why) rest lost old new y begins talk is cause h = subst (λ (n : Next AuthorAsk SubmitStop). At n d.memory d.unanswered (state_of y)) cause.0 h
    told_by c d moves (Broken breach.PeerClosed) rest lost old new y begins talk is cause h = left_so d.memory d.unanswered (state_of y) (subst (λ (n : Next AuthorAsk SubmitStop). At n d.memory d.unanswered (state_of y)) cause.0.next h)
    told_by c d moves (Broken (breach.Garbage place why)) rest lost old new y begins talk is cause h = left_so d.memory d.unanswered (state_of y) (subst (λ (n : Next AuthorAsk SubmitStop). At n d.memory d.unanswered (state_of y)) cause.0.next h)
    told_by c d moves (Broken (breach.Silent heard now)) rest lost old new y begins talk is cause h =
        left_so d.memory d.unanswered (state_of y) (subst (λ (n : Next AuthorAsk SubmitStop). At n d.memory d.unanswered (state_of y)) (ap (λ (x : Course AuthorMemory AuthorAsk SubmitStop). x.next) is ∙ reads_after_idle c moves cause.0.at cause.0.idle) h)
    told_by c d moves (Broken breach.LinkFault) rest lost old new y begins talk is cause h =
        left_so d.memory d.unanswered (state_of y)
        (subst (λ (n : Next AuthorAsk SubmitStop). At n d.memory d.unanswered (state_of y))
        (⊎_elim (λ k. k.0.next) (λ k. ap (λ (x : Course AuthorMemory AuthorAsk SubmitStop). x.next) is ∙ reads_after_write c moves k.0) cause.0) h)
    told_by c d moves (Broken breach.SinkFault) rest lost old new y begins talk is cause h =
        no_last_line By author_rules author_tells c moves (ap is_tell begins) talk cause.0
    told_by c d moves (Broken breach.NoMemory) rest lost old new y begins talk is cause h = anyhow d.next d.memory d.unanswered (state_of y) h

  -- ---- nothing to submit

  none_first : (identifier : List ℕ) → HasNone line b.notes → IsTried line b identifier → ⊥
  none_first identifier none tried = absurd (let no = sym none ∙ tried.first.is in cc)

  pub nothing_told : (result : Submitted) (a : NodeState) → b.down ≡ None → HasNone line b.notes → IsToldOf line room b result a → IsNothingTold result
  nothing_told (submitted.Ack identifier) a up none h = none_first identifier none h.tried
  nothing_told (submitted.Nak why) a up none h = none_first h.0 none h.1.tried
  nothing_told submitted.Nothing a up none h = tt
  nothing_told submitted.Full a up none h = none_first h.identifier none h.tried
  nothing_told (submitted.Ended ended.NoMemory) a up none h = tt
  nothing_told (submitted.Ended (ended.HubDown faults)) a up none h = ⊎_elim (λ (k : (b.down ≡ Some faults) × (a ≡ b)). absurd (let no = sym up ∙ k.0 in cc)) (λ (k : IsFallen line b faults a). none_first k.identifier none k.tried) h
  nothing_told (submitted.Ended ended.PeerClosed) a up none h = none_first h.identifier none h.tried
  nothing_told (submitted.Ended (ended.Garbage place why)) a up none h = none_first h.identifier none h.tried
  nothing_told (submitted.Ended (ended.Silent heard now)) a up none h = none_first h.identifier none h.tried
  nothing_told (submitted.Ended ended.LinkFault) a up none h = none_first h.identifier none h.tried
  nothing_told (submitted.Ended ended.Counted) a up none h = absurd h
  nothing_told (submitted.Ended (ended.Replaced newer)) a up none h = absurd h
  nothing_told (submitted.Ended ended.SinkFault) a up none h = absurd h
