-- What following a broker does to a subscriber's end, and the lines that it tells.
use Rattle.std.proofs.Common.{◌≡◌, ◌⊎◌, ℕ, ◌+◌, ◌-◌, ◌<◌, ◌≤◌, Bool, true, false, cond, List, [], ◌∷◌, ◌++◌, length, Some, None, refl, ap, sym, ◌∙◌, subst, inl, inr, ⊎_elim, arith, append_assoc, length-append}
use Rattle.std.specs.Prelude.{Option, nat_lt, ◌==◌}
use Rattle.std.proofs.lemmas.List.{append-nil}
use Rattle.std.proofs.lemmas.Bool.Decides.{nat_tests}
use Rattle.std.specs.Io.KnownBytes.{append_known}
use Rattle.net_model.specs.declared.note.Note.{Note}
use Rattle.net_model.specs.declared.note.Note.TheVariants.{Wrote, Acked, Refused, Accept, Done, Enter}
use Rattle.net_model.specs.declared.state.Verdict.{Verdict}
use Rattle.net_model.specs.declared.state.Verdict.TheVariants as verdict
use Rattle.net_model.specs.declared.step.SubscriberStep.{SubscriberStep}
use Rattle.net_model.specs.declared.step.SubscriberStep.TheVariants as reply
use Rattle.vtp_session.specs.Watch.{Times}
use Rattle.vtp_session.specs.declared.act.Act.{Act}
use Rattle.vtp_session.specs.declared.act.Act.TheVariants as act
use Rattle.vtp_session.specs.declared.side.Side.TheVariants as side
use Rattle.vtp_server.specs.Counts.{Counts}
use Rattle.vtp_server.specs.Endings.{listen_ended, listening_by}
use Rattle.vtp_server.specs.Ends.{EndsBy, EndsInIdleRead, EndsInLine, EndsInWrite, Lost}
use Rattle.vtp_server.specs.Entered.{AllEnter, Enters, HasEntered, IsEnter, LeavesEntered, PacketTurn, SaysItIsDown, TakesPacket, entry_line, entry_lines}
use Rattle.vtp_server.specs.ListenMemory.{ListenMemory, first_listening}
use Rattle.vtp_server.specs.ListenSide.{after_told, after_verdict, line_of, line_or_read, listen_after_read, listen_after_turn, listen_rules, listens, next_line, with_line}
use Rattle.vtp_server.specs.Moves.{Found, Idle, Move, Read, Tell, Turn, Write, act_in, lines_told}
use Rattle.vtp_server.specs.NodeState.{NodeState, fallen, up_with}
use Rattle.vtp_server.specs.Talk.{Course, Leads, MayCome, Says, Talk, Terms, course_after, course_after_move}
use Rattle.vtp_server.specs.declared.breach.Breach.{Breach}
use Rattle.vtp_server.specs.declared.breach.Breach.TheVariants as breach
use Rattle.vtp_server.specs.declared.breach.Parted.{Parted}
use Rattle.vtp_server.specs.declared.breach.Parted.TheVariants.{Broken, Stopped}
use Rattle.vtp_server.specs.declared.ended.Ended.{Ended}
use Rattle.vtp_server.specs.declared.ended.Ended.TheVariants as ended
use Rattle.vtp_server.specs.declared.ended.ListenStop.{ListenStop}
use Rattle.vtp_server.specs.declared.ended.ListenStop.TheVariants as stop
use Rattle.vtp_server.specs.declared.side.Next.{Next}
use Rattle.vtp_server.specs.declared.side.Next.TheVariants as next
use Rattle.vtp_server.specs.declared.speech.Voice.{Voice}
use Rattle.vtp_server.proofs.Joins.{course-append}

abbrev NextMove : Type 0
NextMove = Next (List ℕ) ListenStop

abbrev AtMove : Type 0
AtMove = Course ListenMemory (List ℕ) ListenStop

abbrev bytes_if : Option (List ℕ) → List ℕ
bytes_if None = []
bytes_if (Some line) = line

abbrev count_if : Option (List ℕ) → ℕ
count_if None = 0
count_if (Some line) = 1

-- a line waits only behind a message that is to be written
abbrev LineFits : NextMove → Option (List ℕ) → Type 0
LineFits (next.Say speech) line = Unit {0}
LineFits (next.Send identifier packet) line = ⊥
LineFits next.Read line = line ≡ None
LineFits (next.Ask packet) line = line ≡ None
LineFits (next.Tell own) line = line ≡ None
LineFits (next.Over why) line = line ≡ None

-- how many are wanted, and whether the end has gone down
abbrev Wants : NextMove → ℕ → NodeState → NodeState → Type 0
Wants (next.Over stop.Counted) wanted b s = (wanted ≡ 0) × (s.down ≡ b.down)
Wants (next.Over (stop.Down faults)) wanted b s = (1 ≤ wanted) × (s.down ≡ Some faults)
Wants (next.Over stop.NoMemory) wanted b s = (1 ≤ wanted) × Unit {0}
Wants (next.Say speech) wanted b s = (1 ≤ wanted) × (s.down ≡ b.down)
Wants (next.Send identifier packet) wanted b s = (1 ≤ wanted) × (s.down ≡ b.down)
Wants next.Read wanted b s = (1 ≤ wanted) × (s.down ≡ b.down)
Wants (next.Ask packet) wanted b s = (1 ≤ wanted) × (s.down ≡ b.down)
Wants (next.Tell own) wanted b s = (1 ≤ wanted) × (s.down ≡ b.down)

-- the bytes of the line that waits, and how many do
abbrev waits : NextMove → Option (List ℕ) → List ℕ
waits (next.Tell own) line = own
waits (next.Say speech) line = bytes_if line
waits (next.Send identifier packet) line = []
waits next.Read line = []
waits (next.Ask packet) line = []
waits (next.Over why) line = []

abbrev waiting_lines : NextMove → Option (List ℕ) → ℕ
waiting_lines (next.Tell own) line = 1
waiting_lines (next.Say speech) line = count_if line
waiting_lines (next.Send identifier packet) line = 0
waiting_lines next.Read line = 0
waiting_lines (next.Ask packet) line = 0
waiting_lines (next.Over why) line = 0

all-append : (xs ys : List Note) → AllEnter xs → AllEnter ys → AllEnter (xs ++ ys)
all-append [] ys h k = k
all-append (x ∷ xs) ys h k = (h.0, all-append xs ys h.1 k)

lines-append : (xs ys : List Note) → entry_lines (xs ++ ys) ≡ entry_lines xs ++ entry_lines ys
lines-append [] ys = refl
lines-append (x ∷ xs) ys = ap (λ l. entry_line x ++ l) (lines-append xs ys) ∙ sym (append_assoc (entry_line x) (entry_lines xs) (entry_lines ys))

none_waits : (line : Option (List ℕ)) → line ≡ None → (bytes_if line ≡ []) × (count_if line ≡ 0)
none_waits line e = (ap bytes_if e, ap count_if e)

module _ (count : ℕ) (b : NodeState) where
  -- where it stands before its next move, with these bytes told
  pub record Stands (told : List ℕ) (n : NextMove) (m : ListenMemory) (s : NodeState) : Type 0 where
    entered : List Note
    enters : AllEnter entered
    notes : s.notes ≡ b.notes ++ entered
    front : m.front ≡ length s.notes
    fits : LineFits n m.line
    wants : Wants n m.wanted b s
    bytes : told ++ waits n m.line ≡ entry_lines entered
    left : length entered + m.wanted ≡ count + waiting_lines n m.line

  -- ---- reads

  -- moves between two reads that wait for no line
  abbrev IsCalm : NextMove → Type 0
  IsCalm (next.Say speech) = Unit {0}
  IsCalm next.Read = Unit {0}
  IsCalm (next.Ask packet) = Unit {0}
  IsCalm (next.Send identifier packet) = ⊥
  IsCalm (next.Tell own) = ⊥
  IsCalm (next.Over why) = ⊥

  calm_read : (a : Act) → IsCalm (listen_after_read a)
  calm_read (act.Packet packet) = tt
  calm_read (act.Beat asker) = tt
  calm_read (act.Challenge asker) = tt
  calm_read act.Nothing = tt
  calm_read (act.Answer at identifier ack why) = tt
  calm_read (act.Auth name filters) = tt
  calm_read act.Pass = tt
  calm_read (act.Garbage place why) = tt

  calm_on : (told : List ℕ) (n : NextMove) (m : ListenMemory) (s : NodeState) → IsCalm n → Stands told next.Read m s → Stands told n m s
  calm_on told (next.Say speech) m s calm h = record {
    entered = h.entered;
    enters = h.enters;
    notes = h.notes;
    front = h.front;
    fits = tt;
    wants = h.wants;
    bytes = ap (λ (w : List ℕ). told ++ w) (none_waits m.line h.fits).0 ∙ h.bytes;
    left = h.left ∙ ap (λ (w : ℕ). count + w) (sym (none_waits m.line h.fits).1);
  }
  calm_on told next.Read m s calm h = h
  calm_on told (next.Ask packet) m s calm h = record { entered = h.entered; enters = h.enters; notes = h.notes; front = h.front; fits = h.fits; wants = h.wants; bytes = h.bytes; left = h.left }
  calm_on told (next.Send identifier packet) m s calm h = absurd calm
  calm_on told (next.Tell own) m s calm h = absurd calm
  calm_on told (next.Over why) m s calm h = absurd calm

  -- ---- turns

  no_new_line : (before : ℕ) (given : Verdict) (front : ℕ) → front ≡ before → with_line before given front ≡ None
  no_new_line before (verdict.Ack identifier) front e =
      let none : nat_lt before front ≡ false = grind (arith, nat_tests, e) in
      ap (λ (t : Bool). cond t (Some (line_of identifier)) None) none
  no_new_line before (verdict.Nak identifier code) front e = refl

  new_line : (before : ℕ) (identifier : List ℕ) (front : ℕ) → front ≡ before + 1 → with_line before (verdict.Ack identifier) front ≡ Some (line_of identifier)
  new_line before identifier front e =
      let one : nat_lt before front ≡ true = grind (arith, nat_tests, e) in
      ap (λ (t : Bool). cond t (Some (line_of identifier)) None) one

  said_same : (told packet : List ℕ) (given : Verdict) (front : ℕ) (m : ListenMemory) (r s : NodeState) → Stands told (next.Ask packet) m r → s ≡ r → front ≡ length s.notes → Stands told (after_verdict m given front).1 (after_verdict m given front).0 s
  said_same told packet given front m r s h same long =
      let none = no_new_line m.front given front (long ∙ ap (λ (x : NodeState). length x.notes) same ∙ sym h.front) in
      let quiet = none_waits (with_line m.front given front) none in
      record {
        entered = h.entered;
        enters = h.enters;
        notes = ap (λ (x : NodeState). x.notes) same ∙ h.notes;
        front = long;
        fits = tt;
        wants = (h.wants.0, ap (λ (x : NodeState). x.down) same ∙ h.wants.1);
        bytes = ap (λ (w : List ℕ). told ++ w) quiet.0 ∙ h.bytes;
        left = h.left ∙ ap (λ (w : ℕ). count + w) (sym quiet.1);
      }

  said_more : (told packet : List ℕ) (given : Verdict) (front : ℕ) (m : ListenMemory) (r s : NodeState) → Stands told (next.Ask packet) m r → r.down ≡ None → Enters r given s → front ≡ length s.notes → Stands told (after_verdict m given front).1 (after_verdict m given front).0 s
  said_more told packet given front m r s h up k long =
      let one : Note = Enter k.identifier k.packet in
      let s_notes : s.notes ≡ r.notes ++ one ∷ [] = ap (λ (x : NodeState). x.notes) k.after in
      let size : length s.notes ≡ length r.notes + 1 = ap (λ (l : List Note). length l) s_notes ∙ length-append r.notes (one ∷ []) in
      let before_is = h.front in
      let more : front ≡ m.front + 1 = omega (arith, long, size, before_is) in
      let line_is : with_line m.front given front ≡ Some (line_of k.identifier) = ap (λ (g : Verdict). with_line m.front g front) k.given_is ∙ new_line m.front k.identifier front more in
      let long_entered : length (h.entered ++ one ∷ []) ≡ length h.entered + 1 = length-append h.entered (one ∷ []) in
      let waits_one : count_if (with_line m.front given front) ≡ 1 = ap count_if line_is in
      record {
        entered = h.entered ++ one ∷ [];
        enters = all-append h.entered (one ∷ []) h.enters (tt, tt);
        notes = s_notes ∙ ap (λ (l : List Note). l ++ one ∷ []) h.notes ∙ append_assoc b.notes h.entered (one ∷ []);
        front = long;
        fits = tt;
        wants = (h.wants.0, ap (λ (x : NodeState). x.down) k.after ∙ sym up ∙ h.wants.1);
        bytes =
            ap (λ (w : Option (List ℕ)). told ++ bytes_if w) line_is
            ∙ ap (λ (l : List ℕ). l ++ line_of k.identifier) (sym (append-nil told) ∙ h.bytes)
            ∙ ap (λ (l : List ℕ). entry_lines h.entered ++ l) (sym (append-nil (line_of k.identifier)))
            ∙ sym (lines-append h.entered (one ∷ []));
        left = let all = h.left in omega (arith, all, long_entered, waits_one);
      }

  -- the end is down, or there was no memory
  over_on : (told packet : List ℕ) (why : ListenStop) (m : ListenMemory) (r s : NodeState) → Stands told (next.Ask packet) m r → s.notes ≡ r.notes → Wants (next.Over why) m.wanted b s → Stands told (next.Over why) m s
  over_on told packet why m r s h same wants = record {
    entered = h.entered;
    enters = h.enters;
    notes = same ∙ h.notes;
    front = h.front ∙ ap (λ (l : List Note). length l) (sym same);
    fits = h.fits;
    wants = wants;
    bytes = h.bytes;
    left = h.left;
  }

  turn_by : (d : Option ℕ) (answer : SubscriberStep) (told packet : List ℕ) (front : ℕ) (m : ListenMemory) (r s : NodeState) → r.down ≡ d → Stands told (next.Ask packet) m r → PacketTurn d r answer s → front ≡ length s.notes → Stands told (listen_after_turn m answer front).1 (listen_after_turn m answer front).0 s
  turn_by None (reply.Answer given) told packet front m r s up h t long =
      ⊎_elim (λ (k : s ≡ r). said_same told packet given front m r s h k long) (λ (k : Enters r given s). said_more told packet given front m r s h up k long) t
  turn_by None (reply.Down faults stopped) told packet front m r s up h t long =
      over_on told packet (stop.Down faults) m r s h (ap (λ (x : NodeState). x.notes) t) (h.wants.0, ap (λ (x : NodeState). x.down) t)
  turn_by None reply.NoMemory told packet front m r s up h t long = over_on told packet stop.NoMemory m r s h (ap (λ (x : NodeState). x.notes) t) (h.wants.0, tt)
  turn_by (Some faults) (reply.Down count stopped) told packet front m r s down h t long =
      over_on told packet (stop.Down count) m r s h (ap (λ (x : NodeState). x.notes) t.1) (h.wants.0, ap (λ (x : NodeState). x.down) t.1 ∙ down ∙ ap Some (sym t.0))
  turn_by (Some faults) (reply.Answer given) told packet front m r s down h t long = absurd t.0
  turn_by (Some faults) reply.NoMemory told packet front m r s down h t long = absurd t.0

  -- ---- writes and lines

  line_on : (told : List ℕ) (line : Option (List ℕ)) (m : ListenMemory) (s : NodeState) (entered : List Note) → AllEnter entered → s.notes ≡ b.notes ++ entered → m.front ≡ length s.notes → (1 ≤ m.wanted) × (s.down ≡ b.down) → told ++ bytes_if line ≡ entry_lines entered → length entered + m.wanted ≡ count + count_if line → Stands told (line_or_read line) (record m { line = None }) s
  line_on told None m s entered enters notes front wants bytes left = record { entered = entered; enters = enters; notes = notes; front = front; fits = refl; wants = wants; bytes = bytes; left = left }
  line_on told (Some line) m s entered enters notes front wants bytes left = record { entered = entered; enters = enters; notes = notes; front = front; fits = refl; wants = wants; bytes = bytes; left = left }

  write_on : (terms : Terms) (told : List ℕ) (n : NextMove) (moment : ℕ) (payload : List ℕ) (m : ListenMemory) (s : NodeState) → Stands told n m s → Says terms n moment payload → Stands told (next_line m).1 (next_line m).0 s
  write_on terms told (next.Say speech) moment payload m s h k = line_on told m.line m s h.entered h.enters h.notes h.front h.wants h.bytes h.left
  write_on terms told (next.Send identifier packet) moment payload m s h k = absurd h.fits
  write_on terms told next.Read moment payload m s h k = absurd k
  write_on terms told (next.Ask packet) moment payload m s h k = absurd k
  write_on terms told (next.Tell own) moment payload m s h k = absurd k
  write_on terms told (next.Over why) moment payload m s h k = absurd k

  told_by_test : (told line : List ℕ) (test : Bool) (m : ListenMemory) (s : NodeState) → Stands told (next.Tell line) m s → (test ≡ true → m.wanted - 1 ≡ 0) → (test ≡ false → 1 ≤ m.wanted - 1) → Stands (told ++ line) (cond test (next.Over stop.Counted) next.Read) (record m { wanted = m.wanted - 1 }) s
  told_by_test told line true m s h zero some = record {
    entered = h.entered;
    enters = h.enters;
    notes = h.notes;
    front = h.front;
    fits = h.fits;
    wants = (zero refl, h.wants.1);
    bytes = append-nil (told ++ line) ∙ h.bytes;
    left = let all = h.left in let one = h.wants.0 in omega (arith, all, one);
  }
  told_by_test told line false m s h zero some = record {
    entered = h.entered;
    enters = h.enters;
    notes = h.notes;
    front = h.front;
    fits = h.fits;
    wants = (some refl, h.wants.1);
    bytes = append-nil (told ++ line) ∙ h.bytes;
    left = let all = h.left in let one = h.wants.0 in omega (arith, all, one);
  }

  tell_on : (told line : List ℕ) (m : ListenMemory) (s : NodeState) → Stands told (next.Tell line) m s → Stands (told ++ line) (after_told m).1 (after_told m).0 s
  tell_on told line m s h = told_by_test told line (m.wanted - 1 == 0) m s h (λ e. grind (arith, nat_tests, e)) (λ e. grind (arith, nat_tests, e))

  -- ---- all moves

  module _ {T : Type 0} (acts : T → List ℕ → SubscriberStep → ℕ → ℕ → T → Type 0) (state_of : T → NodeState) (means : (x y : T) (packet : List ℕ) (answer : SubscriberStep) (place front : ℕ) → acts x packet answer place front y → PacketTurn (state_of x).down (state_of x) answer (state_of y) × (front ≡ length (state_of y).notes)) (times : Times) (voice : Voice) where
    abbrev By : Terms
    By = record { side = side.Take; times = times; voice = voice }

    abbrev StandsAt : List ℕ → AtMove → T → Type 0
    StandsAt told c x = Stands told c.next c.memory (state_of x)

    pub moves_on : (told : List ℕ) (c : AtMove) (moves : List (Move (List ℕ) SubscriberStep)) (x y : T) → StandsAt told c x → Talk By listen_rules c moves → Leads acts x moves y → StandsAt (told ++ lines_told moves) (course_after By listen_rules c moves) y
    moves_on told c [] x y h talk led =
        subst (λ (z : T × List ℕ). StandsAt z.1 c z.0) (λ i. (sym led i, sym (append-nil told) i)) h
    moves_on told c (Read found t ∷ ms) x y h talk led =
        moves_on told (course_after_move By listen_rules c (Read found t)) ms x y
        (calm_on told (listen_after_read (act_in found)) c.memory (state_of x) (calm_read (act_in found)) (subst (λ (n : NextMove). Stands told n c.memory (state_of x)) talk.0.0 h))
        talk.1 led
    moves_on told c (Turn packet answer place front ∷ ms) x y h talk led =
        let t = means x led.0 packet answer place front led.1 in
        moves_on told (course_after_move By listen_rules c (Turn packet answer place front)) ms led.0 y
        (turn_by (state_of x).down answer told packet front c.memory (state_of x) (state_of led.0) refl (subst (λ (n : NextMove). Stands told n c.memory (state_of x)) talk.0.0 h) t.0 t.1)
        talk.1 led.2
    moves_on told c (Write payload ∷ ms) x y h talk led =
        moves_on told (course_after_move By listen_rules c (Write payload)) ms x y
        (write_on By told c.next c.watch.latest payload c.memory (state_of x) h talk.0.0)
        talk.1 led
    moves_on told c (Tell line ∷ ms) x y h talk led =
        let d = course_after_move By listen_rules c (Tell line) in
        subst (λ (l : List ℕ). StandsAt l (course_after By listen_rules d ms) y) (append_assoc told line (lines_told ms))
        (moves_on (told ++ line) d ms x y
        (tell_on told line c.memory (state_of x) (subst (λ (n : NextMove). Stands told n c.memory (state_of x)) talk.0.0 h))
        talk.1 led)

    reads_after_idle : (c : AtMove) (moves : List (Move (List ℕ) SubscriberStep)) (now : ℕ) → EndsInIdleRead moves now → (course_after By listen_rules c moves).next ≡ next.Read
    reads_after_idle c moves now h =
        ap (λ (l : List (Move (List ℕ) SubscriberStep)). (course_after By listen_rules c l).next) h.1
        ∙ ap (λ (d : AtMove). d.next) (course-append By listen_rules c h.0 (Read Idle now ∷ []))

    reads_after_write : (c : AtMove) (moves : List (Move (List ℕ) SubscriberStep)) → (h : EndsInWrite moves) → (course_after By listen_rules c moves).next ≡ line_or_read (course_after By listen_rules c h.0).memory.line
    reads_after_write c moves h =
        ap (λ (l : List (Move (List ℕ) SubscriberStep)). (course_after By listen_rules c l).next) h.2
        ∙ ap (λ (d : AtMove). d.next) (course-append By listen_rules c h.0 (Write h.1 ∷ []))

    next_after_line : (c : AtMove) (moves : List (Move (List ℕ) SubscriberStep)) → (h : EndsInLine moves) → (course_after By listen_rules c moves).next ≡ (after_told (course_after By listen_rules c h.0).memory).1
    next_after_line c moves h =
        ap (λ (l : List (Move (List ℕ) SubscriberStep)). (course_after By listen_rules c l).next) h.2
        ∙ ap (λ (d : AtMove). d.next) (course-append By listen_rules c h.0 (Tell h.1 ∷ []))

    -- ---- the end

    first_by : (test : Bool) → (test ≡ true → count ≡ 0) → (test ≡ false → 1 ≤ count) → Stands [] (cond test (next.Over stop.Counted) next.Read) (first_listening count (length b.notes)) b
    first_by true zero some = record { entered = []; enters = tt; notes = sym (append-nil b.notes); front = refl; fits = refl; wants = (zero refl, refl); bytes = refl; left = omega arith }
    first_by false zero some = record { entered = []; enters = tt; notes = sym (append-nil b.notes); front = refl; fits = refl; wants = (some refl, refl); bytes = refl; left = omega arith }

    pub begins : Stands [] (listens count) (first_listening count (length b.notes)) b
    begins = first_by (count == 0) (λ e. grind (arith, nat_tests, e)) (λ e. grind (arith, nat_tests, e))

    few_wait : (n : NextMove) (line : Option (List ℕ)) (wanted : ℕ) (s : NodeState) → Wants n wanted b s → waiting_lines n line ≤ wanted
    few_wait (next.Tell own) line wanted s h = h.0
    few_wait (next.Say speech) None wanted s h = omega arith
    few_wait (next.Say speech) (Some line) wanted s h = h.0
    few_wait (next.Send identifier packet) line wanted s h = omega arith
    few_wait next.Read line wanted s h = omega arith
    few_wait (next.Ask packet) line wanted s h = omega arith
    few_wait (next.Over why) line wanted s h = omega arith

    entered_so : (n : NextMove) (m : ListenMemory) (s : NodeState) (lines said lost : List ℕ) (held held_after : Option (List ℕ)) (result : Ended) → (h : Stands lines n m s) → said ++ lost ≡ lines → held_after ≡ append_known held said → LeavesEntered result count b s (length h.entered) (lost ++ waits n m.line) → HasEntered count b s result held held_after
    entered_so n m s lines said lost held held_after result h whole told cause = record {
      entered = h.entered;
      enters = h.enters;
      notes = h.notes;
      few = let all = h.left in let some = few_wait n m.line m.wanted s h.wants in omega (arith, all, some);
      said = said;
      missing = lost ++ waits n m.line;
      lines = sym (append_assoc said lost (waits n m.line)) ∙ ap (λ (l : List ℕ). l ++ waits n m.line) whole ∙ h.bytes;
      told = told;
      cause = cause;
    }

    down_kept : (line : Option (List ℕ)) (wanted : ℕ) (s : NodeState) → Wants (line_or_read line) wanted b s → s.down ≡ b.down
    down_kept None wanted s h = h.1
    down_kept (Some line) wanted s h = h.1

    down_told : (test : Bool) (wanted : ℕ) (s : NodeState) → Wants (cond test (next.Over stop.Counted) next.Read) wanted b s → s.down ≡ b.down
    down_told true wanted s h = h.1
    down_told false wanted s h = h.1

    read_down : (n : NextMove) (wanted : ℕ) (s : NodeState) → n ≡ next.Read → Wants n wanted b s → s.down ≡ b.down
    read_down n wanted s e h = let at : Wants next.Read wanted b s = subst (λ (x : NextMove). Wants x wanted b s) e h in at.1

    -- a read comes next, and no line was lost
    at_read : (m : ListenMemory) (s : NodeState) (lines said : List ℕ) (held held_after : Option (List ℕ)) (result : Ended) → ((entered : ℕ) → (entered < count) → LeavesEntered result count b s entered []) → Stands lines next.Read m s → said ++ [] ≡ lines → held_after ≡ append_known held said → HasEntered count b s result held held_after
    at_read m s lines said held held_after result cause h whole told =
        entered_so next.Read m s lines said [] held held_after result h whole told
        (cause (length h.entered) (let all = h.left in let one = h.wants.0 in omega (arith, all, one)))

    stopped_so : (why : ListenStop) (m : ListenMemory) (s : NodeState) (lines said : List ℕ) (held held_after : Option (List ℕ)) → Stands lines (next.Over why) m s → said ++ [] ≡ lines → held_after ≡ append_known held said → HasEntered count b s (listening_by why) held held_after
    stopped_so stop.Counted m s lines said held held_after h whole told =
        entered_so (next.Over stop.Counted) m s lines said [] held held_after ended.Counted h whole told
        (let all = h.left in let none = h.wants.0 in omega (arith, all, none), refl, h.wants.1)
    stopped_so (stop.Down faults) m s lines said held held_after h whole told =
        entered_so (next.Over (stop.Down faults)) m s lines said [] held held_after (ended.HubDown faults) h whole told
        (let all = h.left in let one = h.wants.0 in omega (arith, all, one), refl, h.wants.1)
    stopped_so stop.NoMemory m s lines said held held_after h whole told =
        entered_so (next.Over stop.NoMemory) m s lines said [] held held_after ended.NoMemory h whole told tt

    -- what was entered and told, by why the talk ended
    pub told_by : (c d : AtMove) (moves : List (Move (List ℕ) SubscriberStep)) (parted : Parted ListenStop) (rest : List ℕ) (lost : Lost) (old new : Counts) (said : List ℕ) (held held_after : Option (List ℕ)) (s : NodeState)
        → d ≡ course_after By listen_rules c moves → EndsBy By parted d moves rest lost old new → Stands (lines_told moves) d.next d.memory s → said ++ lost.sink ≡ lines_told moves → held_after ≡ append_known held said
        → HasEntered count b s (listen_ended parted) held held_after
    told_by c d moves (Stopped why) rest lost old new said held held_after s is cause h whole told =
        stopped_so why d.memory s (lines_told moves) said held held_after (subst (λ (n : NextMove). Stands (lines_told moves) n d.memory s) cause.0 h) (ap (λ (l : Lost). said ++ l.sink) (sym cause.1) ∙ whole) told
    told_by c d moves (Broken breach.PeerClosed) rest lost old new said held held_after s is cause h whole told =
        let at = subst (λ (n : NextMove). Stands (lines_told moves) n d.memory s) cause.0.next h in
        at_read d.memory s (lines_told moves) said held held_after ended.PeerClosed (λ entered few. (few, refl, at.wants.1)) at (ap (λ (l : Lost). said ++ l.sink) (sym cause.1) ∙ whole) told
    told_by c d moves (Broken (breach.Garbage place why)) rest lost old new said held held_after s is cause h whole told =
        let at = subst (λ (n : NextMove). Stands (lines_told moves) n d.memory s) cause.0.next h in
        at_read d.memory s (lines_told moves) said held held_after (ended.Garbage place why) (λ entered few. (few, refl, at.wants.1)) at (ap (λ (l : Lost). said ++ l.sink) (sym cause.1) ∙ whole) told
    told_by c d moves (Broken (breach.Silent heard now)) rest lost old new said held held_after s is cause h whole told =
        let at = subst (λ (n : NextMove). Stands (lines_told moves) n d.memory s) (ap (λ (x : AtMove). x.next) is ∙ reads_after_idle c moves cause.0.at cause.0.idle) h in
        at_read d.memory s (lines_told moves) said held held_after (ended.Silent heard now) (λ entered few. (few, refl, at.wants.1)) at (ap (λ (l : Lost). said ++ l.sink) (sym cause.1) ∙ whole) told
    told_by c d moves (Broken breach.LinkFault) rest lost old new said held held_after s is cause h whole told =
        entered_so d.next d.memory s (lines_told moves) said lost.sink held held_after ended.LinkFault h whole told
        (⊎_elim
        (λ k. read_down d.next d.memory.wanted s k.0.next h.wants)
        (λ k. down_kept (course_after By listen_rules c k.0.0).memory.line d.memory.wanted s (subst (λ (n : NextMove). Wants n d.memory.wanted b s) (ap (λ (x : AtMove). x.next) is ∙ reads_after_write c moves k.0) h.wants))
        cause.0)
    told_by c d moves (Broken breach.SinkFault) rest lost old new said held held_after s is cause h whole told =
        entered_so d.next d.memory s (lines_told moves) said lost.sink held held_after ended.SinkFault h whole told
        (down_told ((course_after By listen_rules c cause.0.0).memory.wanted - 1 == 0) d.memory.wanted s (subst (λ (n : NextMove). Wants n d.memory.wanted b s) (ap (λ (x : AtMove). x.next) is ∙ next_after_line c moves cause.0) h.wants))
    told_by c d moves (Broken breach.NoMemory) rest lost old new said held held_after s is cause h whole told =
        entered_so d.next d.memory s (lines_told moves) said lost.sink held held_after ended.NoMemory h whole told tt
