-- One move of a connection.
use Rattle.std.proofs.Common.{◌≡◌, ◌≢◌, ◌+◌, ℕ, List, [], ◌∷◌, ◌++◌, length, take, drop, Bool, true, false, nat_le, sym, ap, refl, ◌∙◌, subst, inl, inr, ⊎_elim, arith}
use Rattle.std.proofs.lemmas.List.{append-nil, take-append-drop}
use Rattle.std.proofs.lemmas.Bool.{leb-true}
use Rattle.std.specs.declared.option.Option.{Option}
use Rattle.std.specs.Io.KnownBytes.{append_known}
use Rattle.std.specs.Prelude.{Result, Err}
use Rattle.voe_outside.specs.Causes.{Rose, count_after, counted}
use Rattle.voe_outside.specs.Whole.{Writes, has_write_failed}
use Rattle.voe_outside.specs.declared.whole.WriteFault.{WriteFault}
use Rattle.voe_outside.specs.declared.whole.WriteFault.TheVariants as write
use Rattle.voe_outside.specs.Traffic.{Traffic}
use Rattle.vtp_framing.specs.Frames.{frame, frames}
use Rattle.vtp_framing.specs.Front.{IsUnfinished}
use Rattle.vtp_session.specs.Acts.{Means, after_answer}
use Rattle.vtp_session.specs.State.{SessionState, MeetsGarbage, MeansGarbage, IsBarredAt}
use Rattle.vtp_session.specs.Watch.{Watch, Times, tick_of, after_tick, beats_on, is_beat}
use Rattle.vtp_session.specs.declared.act.GarbageFault.{GarbageFault}
use Rattle.vtp_session.specs.declared.act.GarbageFault.TheVariants as garbage
use Rattle.vtp_session.specs.declared.side.Side.{Side}
use Rattle.vtp_session.specs.declared.side.Tick.TheVariants as tick
use Rattle.vtp_server.specs.declared.breach.Breach.{Breach}
use Rattle.vtp_server.specs.declared.breach.Breach.TheVariants.{PeerClosed, Garbage, Silent, LinkFault, SinkFault, NoMemory}
use Rattle.vtp_server.specs.declared.breach.Parted.{Parted}
use Rattle.vtp_server.specs.declared.breach.Parted.TheVariants.{Broken, Stopped}
use Rattle.vtp_server.specs.declared.reading.Seen.{Seen}
use Rattle.vtp_server.specs.declared.side.Next.{Next}
use Rattle.vtp_server.specs.declared.side.Next.TheVariants as next
use Rattle.vtp_server.specs.declared.speech.Speech.{Speech}
use Rattle.vtp_server.specs.declared.speech.Voice.{Voice}
use Rattle.vtp_server.specs.Carried.{Carried}
use Rattle.vtp_server.specs.Counts.{Counts}
use Rattle.vtp_server.specs.Fits.{Gives}
use Rattle.vtp_server.specs.Moves.{Idle, Move, Read, Turn, Write, Tell, act_in, heard_in}
use Rattle.vtp_server.specs.Reading.{terms_of}
use Rattle.vtp_server.specs.ReadMoves.{ReadMade, ReadEnds}
use Rattle.vtp_server.specs.Speech.{IsSpelled}
use Rattle.vtp_server.specs.Talk.{Terms, Rules, Course, Says, tick_at, watch_at, waiting}
use Rattle.vtp_server.specs.Ends.{Standing, Lost, nothing, Made, MakesOne, Ends, EndsBy, course_of, standing_of}
use Rattle.vtp_server.proofs.Carrying.{carried_none}
use Rattle.vtp_server.proofs.Joins.{append_known-nil}
use Rattle.vtp_server.proofs.Timely.{silent_at}

module _ {S A R E T : Type 0} (rules : Rules S A R E) (acts : T → A → R → ℕ → ℕ → T → Type 0) where
  read_made : (voice : Voice) (s t : SessionState) (memory : S) (n : Next A E) (seat : T) (before after : Option Traffic) (held : Option (List ℕ)) (seen : Seen) → n ≡ next.Read → (h : ReadMade s before seen t after) → Made (terms_of voice s) rules acts (course_of memory n s) (standing_of s seat before held) (Read h.found seen.moment ∷ []) nothing (standing_of t seat after held)
  read_made voice s t memory n seat before after held seen k h = record {
    talk = ((k, h.heard.is_found, refl), tt);
    taken = h.piece;
    put = [];
    said = [];
    carried = h.carried;
    told = append_known-nil held;
    read = h.heard.parts ∙ ap (λ l. frames l ++ t.left) (sym (append-nil (heard_in h.found)));
    wrote = refl;
    lines = refl;
    turns = refl;
  }

  -- a read that the side takes up
  pub makes_read : (voice : Voice) (s t : SessionState) (memory after_memory : S) (n m : Next A E) (seat : T) (before after : Option Traffic) (held : Option (List ℕ)) (seen : Seen) → n ≡ next.Read → ReadMade s before seen t after → Gives (rules.after_read memory seen.act seen.is_beat_due (length t.unanswered)) after_memory m → MakesOne (terms_of voice s) rules acts (course_of memory n s) (standing_of s seat before held) (course_of after_memory m t) (standing_of t seat after held)
  makes_read voice s t memory after_memory n m seat before after held seen k h gives =
      let w : Watch = watch_at h.found seen.moment s.watch in
      let gave : rules.after_read memory seen.act seen.is_beat_due (length t.unanswered) ≡ rules.after_read memory (act_in h.found) (is_beat (tick_at s.side s.times w)) (length (after_answer (act_in h.found) s.unanswered)) = λ i. rules.after_read memory (h.heard.act i) (h.heard.beat i) (length (h.heard.unanswered i)) in
      let memory_is = gives.memory_is ∙ ap (λ x. x.0) gave in
      let next_is = gives.next_is ∙ ap (λ x. x.1) gave in
      record {
        move = Read h.found seen.moment;
        made = read_made voice s t memory n seat before after held seen k h;
        course = λ i. record { memory = memory_is i; next = next_is i; watch = h.heard.after.watch i; place = h.heard.after.place i; unanswered = h.heard.unanswered i; is_silent = sym h.heard.goes_on i };
      }

  turn_made : (terms : Terms) (s : SessionState) (memory : S) (n : Next A E) (seat after_seat : T) (traffic : Option Traffic) (held : Option (List ℕ)) (ask : A) (reply : R) (place front : ℕ) → n ≡ next.Ask ask → acts seat ask reply place front after_seat → Made terms rules acts (course_of memory n s) (standing_of s seat traffic held) (Turn ask reply place front ∷ []) nothing (standing_of s after_seat traffic held)
  turn_made terms s memory n seat after_seat traffic held ask reply place front k act = record {
    talk = ((k, refl), tt);
    taken = [];
    put = [];
    said = [];
    carried = carried_none traffic traffic refl;
    told = append_known-nil held;
    read = append-nil s.left;
    wrote = refl;
    lines = refl;
    turns = (after_seat, act, refl);
  }

  -- a turn that the side takes up
  pub makes_turn : (terms : Terms) (s : SessionState) (memory after_memory : S) (n m : Next A E) (seat after_seat : T) (traffic : Option Traffic) (held : Option (List ℕ)) (ask : A) (reply : R) (place front : ℕ) → n ≡ next.Ask ask → acts seat ask reply place front after_seat → Gives (rules.after_turn memory reply front (length s.unanswered)) after_memory m → MakesOne terms rules acts (course_of memory n s) (standing_of s seat traffic held) (course_of after_memory m s) (standing_of s after_seat traffic held)
  makes_turn terms s memory after_memory n m seat after_seat traffic held ask reply place front k act gives = record {
    move = Turn ask reply place front;
    made = turn_made terms s memory n seat after_seat traffic held ask reply place front k act;
    course = λ i. record { memory = gives.memory_is i; next = gives.next_is i; watch = s.watch; place = s.place; unanswered = s.unanswered; is_silent = false };
  }

  write_made : (terms : Terms) (s t : SessionState) (memory : S) (n : Next A E) (seat : T) (before after : Option Traffic) (held : Option (List ℕ)) (payload put lost : List ℕ) → Says terms n s.watch.latest payload → s.left ≡ t.left → Carried before after [] put → put ++ lost ≡ frame payload → Made terms rules acts (course_of memory n s) (standing_of s seat before held) (Write payload ∷ []) (record { link = lost; sink = [] }) (standing_of t seat after held)
  write_made terms s t memory n seat before after held payload put lost says same carried whole = record {
    talk = ((says, refl), tt);
    taken = [];
    put = put;
    said = [];
    carried = carried;
    told = append_known-nil held;
    read = append-nil s.left ∙ same;
    wrote = whole ∙ sym (append-nil (frame payload));
    lines = refl;
    turns = refl;
  }

  writes_course : (memory after_memory : S) (n m : Next A E) (s t : SessionState) → after_memory ≡ (rules.after_write memory (length t.unanswered)).0 → m ≡ (rules.after_write memory (length t.unanswered)).1 → t ≡ record s { unanswered = waiting n s.unanswered } → course_of after_memory m t ≡ record { memory = (rules.after_write memory (length (waiting n s.unanswered))).0; next = (rules.after_write memory (length (waiting n s.unanswered))).1; watch = s.watch; place = s.place; unanswered = waiting n s.unanswered; is_silent = false }
  writes_course memory after_memory n m s t p q same =
      let memory_is = p ∙ ap (λ x. (rules.after_write memory (length x.unanswered)).0) same in
      let next_is = q ∙ ap (λ x. (rules.after_write memory (length x.unanswered)).1) same in
      λ i. record { memory = memory_is i; next = next_is i; watch = (same i).watch; place = (same i).place; unanswered = (same i).unanswered; is_silent = false }

  -- a write that the side takes up
  pub makes_write : (terms : Terms) (s t : SessionState) (memory after_memory : S) (n m : Next A E) (seat : T) (before after : Option Traffic) (held : Option (List ℕ)) (payload : List ℕ) → Says terms n s.watch.latest payload → t ≡ record s { unanswered = waiting n s.unanswered } → Carried before after [] (frame payload) → Gives (rules.after_write memory (length t.unanswered)) after_memory m → MakesOne terms rules acts (course_of memory n s) (standing_of s seat before held) (course_of after_memory m t) (standing_of t seat after held)
  makes_write terms s t memory after_memory n m seat before after held payload says same carried gives = record {
    move = Write payload;
    made = write_made terms s t memory n seat before after held payload (frame payload) [] says (sym (ap (λ x. x.left) same)) carried (append-nil (frame payload));
    course = writes_course memory after_memory n m s t gives.memory_is gives.next_is same;
  }

  line_made : (terms : Terms) (s : SessionState) (memory : S) (n : Next A E) (seat : T) (traffic : Option Traffic) (before after : Option (List ℕ)) (line said lost : List ℕ) → n ≡ next.Tell line → after ≡ append_known before said → said ++ lost ≡ line → Made terms rules acts (course_of memory n s) (standing_of s seat traffic before) (Tell line ∷ []) (record { link = []; sink = lost }) (standing_of s seat traffic after)
  line_made terms s memory n seat traffic before after line said lost k told whole = record {
    talk = ((k, refl), tt);
    taken = [];
    put = [];
    said = said;
    carried = carried_none traffic traffic refl;
    told = told;
    read = append-nil s.left;
    wrote = refl;
    lines = whole ∙ sym (append-nil line);
    turns = refl;
  }

  -- a line that the side takes up
  pub makes_line : (terms : Terms) (s : SessionState) (memory after_memory : S) (n m : Next A E) (seat : T) (traffic : Option Traffic) (before after : Option (List ℕ)) (line : List ℕ) → n ≡ next.Tell line → after ≡ append_known before line → Gives (rules.after_line memory (length s.unanswered)) after_memory m → MakesOne terms rules acts (course_of memory n s) (standing_of s seat traffic before) (course_of after_memory m s) (standing_of s seat traffic after)
  makes_line terms s memory after_memory n m seat traffic before after line k told gives = record {
    move = Tell line;
    made = line_made terms s memory n seat traffic before after line line [] k told (append-nil line);
    course = λ i. record { memory = gives.memory_is i; next = gives.next_is i; watch = s.watch; place = s.place; unanswered = s.unanswered; is_silent = false };
  }

module _ {S A R E T : Type 0} (rules : Rules S A R E) (acts : T → A → R → ℕ → ℕ → T → Type 0) (old new : Counts) where
  -- no further move was made
  ends_here : (terms : Terms) (c : Course S A E) (left taken : List ℕ) (seat : T) (before after : Option Traffic) (held held_after : Option (List ℕ)) (e : Parted E) → Carried before after taken [] → held_after ≡ held → EndsBy {R = R} terms e c [] (left ++ taken) nothing old new → Ends terms rules acts c (record { left = left; seat = seat; traffic = before; held = held }) e seat after held_after old new
  ends_here terms c left taken seat before after held held_after e carried same cause = record {
    moves = [];
    rest = left ++ taken;
    lost = nothing;
    made = record {
      talk = tt;
      taken = taken;
      put = [];
      said = [];
      carried = carried;
      told = same ∙ append_known-nil held;
      read = refl;
      wrote = refl;
      lines = refl;
      turns = refl;
    };
    cause = cause;
  }

  -- the side makes no further move
  pub ends_stopped : (terms : Terms) (s : SessionState) (memory : S) (n : Next A E) (seat : T) (traffic : Option Traffic) (held : Option (List ℕ)) (stop : E) → n ≡ next.Over stop → Ends terms rules acts (course_of memory n s) (standing_of s seat traffic held) (Stopped stop) seat traffic held old new
  ends_stopped terms s memory n seat traffic held stop k = ends_here terms (course_of memory n s) s.left [] seat traffic traffic held held (Stopped stop) (carried_none traffic traffic refl) refl (k, refl)

  -- there was no memory for the next move, and nothing was written
  pub ends_full : (terms : Terms) (c : Course S A E) (left : List ℕ) (seat : T) (before after : Option Traffic) (held held_after : Option (List ℕ)) → after ≡ before → held_after ≡ held → Ends terms rules acts c (record { left = left; seat = seat; traffic = before; held = held }) (Broken NoMemory) seat after held_after old new
  ends_full terms c left seat before after held held_after same same_held = ends_here terms c left [] seat before after held held_after (Broken NoMemory) (carried_none before after same) same_held refl

  -- there was no memory behind these moves
  ends_made : (terms : Terms) (c : Course S A E) (b : Standing T) (moves : List (Move A R)) (a : Standing T) → Made terms rules acts c b moves nothing a → Ends terms rules acts c b (Broken NoMemory) a.seat a.traffic a.held old new
  ends_made terms c b moves a made = record {
    moves = moves;
    rest = a.left;
    lost = nothing;
    made = made;
    cause = refl;
  }

  pub ends_full_read : (voice : Voice) (s t : SessionState) (memory : S) (n : Next A E) (seat : T) (before after : Option Traffic) (held : Option (List ℕ)) (seen : Seen) → n ≡ next.Read → ReadMade s before seen t after → Ends (terms_of voice s) rules acts (course_of memory n s) (standing_of s seat before held) (Broken NoMemory) seat after held old new
  ends_full_read voice s t memory n seat before after held seen k h =
      ends_made (terms_of voice s) (course_of memory n s) (standing_of s seat before held) (Read h.found seen.moment ∷ []) (standing_of t seat after held) (read_made rules acts voice s t memory n seat before after held seen k h)

  pub ends_full_turn : (terms : Terms) (s : SessionState) (memory : S) (n : Next A E) (seat after_seat : T) (traffic : Option Traffic) (held : Option (List ℕ)) (ask : A) (reply : R) (place front : ℕ) → n ≡ next.Ask ask → acts seat ask reply place front after_seat → Ends terms rules acts (course_of memory n s) (standing_of s seat traffic held) (Broken NoMemory) after_seat traffic held old new
  ends_full_turn terms s memory n seat after_seat traffic held ask reply place front k act =
      ends_made terms (course_of memory n s) (standing_of s seat traffic held) (Turn ask reply place front ∷ []) (standing_of s after_seat traffic held) (turn_made rules acts terms s memory n seat after_seat traffic held ask reply place front k act)

  pub ends_full_write : (terms : Terms) (s : SessionState) (memory : S) (n : Next A E) (seat : T) (before after : Option Traffic) (held : Option (List ℕ)) (payload : List ℕ) → Says terms n s.watch.latest payload → Carried before after [] (frame payload) → Ends terms rules acts (course_of memory n s) (standing_of s seat before held) (Broken NoMemory) seat after held old new
  ends_full_write terms s memory n seat before after held payload says carried =
      ends_made terms (course_of memory n s) (standing_of s seat before held) (Write payload ∷ []) (standing_of s seat after held) (write_made rules acts terms s s memory n seat before after held payload (frame payload) [] says refl carried (append-nil (frame payload)))

  pub ends_full_line : (terms : Terms) (s : SessionState) (memory : S) (n : Next A E) (seat : T) (traffic : Option Traffic) (before after : Option (List ℕ)) (line : List ℕ) → n ≡ next.Tell line → after ≡ append_known before line → Ends terms rules acts (course_of memory n s) (standing_of s seat traffic before) (Broken NoMemory) seat traffic after old new
  ends_full_line terms s memory n seat traffic before after line k told =
      ends_made terms (course_of memory n s) (standing_of s seat traffic before) (Tell line ∷ []) (standing_of s seat traffic after) (line_made rules acts terms s memory n seat traffic before after line line [] k told (append-nil line))

  -- a write failed, in its midst
  pub ends_failed_write : (terms : Terms) (s : SessionState) (memory : S) (n : Next A E) (seat : T) (before after : Option Traffic) (held : Option (List ℕ)) (payload : List ℕ) → Says terms n s.watch.latest payload → (p : List ℕ) × (lost : List ℕ) × (p ++ lost ≡ frame payload) × Carried before after [] p → Rose old.link.faults new.link.faults → Ends terms rules acts (course_of memory n s) (standing_of s seat before held) (Broken LinkFault) seat after held old new
  ends_failed_write terms s memory n seat before after held payload says part rose = record {
    moves = Write payload ∷ [];
    rest = s.left;
    lost = record { link = part.1; sink = [] };
    made = write_made rules acts terms s s memory n seat before after held payload part.0 part.1 says refl part.3 part.2;
    cause = (inr (([], payload, refl), refl), rose);
  }

  -- a line failed, in its midst
  pub ends_failed_line : (terms : Terms) (s : SessionState) (memory : S) (n : Next A E) (seat : T) (traffic : Option Traffic) (before after : Option (List ℕ)) (line : List ℕ) (count : ℕ) → n ≡ next.Tell line → after ≡ append_known before (take count line) → Rose old.sink new.sink → Ends terms rules acts (course_of memory n s) (standing_of s seat traffic before) (Broken SinkFault) seat traffic after old new
  ends_failed_line terms s memory n seat traffic before after line count k told rose = record {
    moves = Tell line ∷ [];
    rest = s.left;
    lost = record { link = []; sink = drop count line };
    made = line_made rules acts terms s memory n seat traffic before after line (take count line) (drop count line) k told (take-append-drop count line);
    cause = (([], line, refl), refl, rose);
  }

  -- the same, as the writing of a whole line tells it
  pub fails_line : (terms : Terms) (s : SessionState) (memory : S) (n : Next A E) (seat : T) (traffic : Option Traffic) (before after : Option (List ℕ)) (bytes line : List ℕ) (fault : WriteFault) → n ≡ next.Tell line → fault ≡ write.Failed → bytes ≡ line → Writes before after bytes (Err fault) → new.sink ≡ count_after old.sink (has_write_failed (Err fault)) → Ends terms rules acts (course_of memory n s) (standing_of s seat traffic before) (Broken SinkFault) seat traffic after old new
  fails_line terms s memory n seat traffic before after bytes line fault k e same h counts =
      let w : Writes before after bytes (Err write.Failed) = subst (λ (f : WriteFault). Writes before after bytes (Err f)) e h in
      let risen : new.sink ≡ counted old.sink = subst (λ (f : WriteFault). new.sink ≡ count_after old.sink (has_write_failed (Err f))) e counts in
      ends_failed_line terms s memory n seat traffic before after line w.0 k (w.2 ∙ ap (λ b. append_known before (take w.0 b)) same) (omega (arith, risen))

  -- there was no room for a line
  pub lacks_line : (terms : Terms) (s : SessionState) (memory : S) (n : Next A E) (seat : T) (traffic : Option Traffic) (before after : Option (List ℕ)) (bytes : List ℕ) (fault : WriteFault) → fault ≡ write.NoMemory → Writes before after bytes (Err fault) → Ends terms rules acts (course_of memory n s) (standing_of s seat traffic before) (Broken NoMemory) seat traffic after old new
  lacks_line terms s memory n seat traffic before after bytes fault e h =
      let w : Writes before after bytes (Err write.NoMemory) = subst (λ (f : WriteFault). Writes before after bytes (Err f)) e h in
      ends_full terms (course_of memory n s) s.left seat traffic traffic before after refl w

  came_nothing : (P : List ℕ → Type 0) (left : List ℕ) → P left → P (left ++ [])
  came_nothing P left h = subst P (sym (append-nil left)) h

  -- garbage at the front doesn't depend on the moments
  barred_at : (s t : SessionState) (place : ℕ) (why : GarbageFault) → t.left ≡ s.left → t.place ≡ s.place → IsBarredAt t place why → IsBarredAt s place why
  barred_at s t place garbage.Empty left at h = rw (← left, ← at) h
  barred_at s t place (garbage.TooLong count) left at h = rw (← left, ← at) h
  barred_at s t place garbage.BadRole left at h = h
  barred_at s t place garbage.NoOrigin left at h = h
  barred_at s t place garbage.Foreign left at h = h

  garbage_at : (s t : SessionState) (place : ℕ) (why : GarbageFault) → t.side ≡ s.side → t.left ≡ s.left → t.place ≡ s.place → t.unanswered ≡ s.unanswered → MeetsGarbage t place why → MeetsGarbage s place why
  garbage_at s t place why side left at waits (inl h) = inl (barred_at s t place why left at h)
  garbage_at s t place why side left at waits (inr h) = inr (record { payload = h.payload; after = h.after; front = rw (← left) h.front; meaning = rw (← side, ← at, ← waits) h.meaning })

  -- a read was the last one
  pub ends_by_read : (voice : Voice) (s t : SessionState) (memory : S) (n : Next A E) (seat : T) (before after : Option Traffic) (held : Option (List ℕ)) (e : Breach) → n ≡ next.Read → ReadEnds e s before t after old.link new.link → Ends (terms_of voice s) rules acts (course_of memory n s) (standing_of s seat before held) (Broken e) seat after held old new
  ends_by_read voice s t memory n seat before after held PeerClosed k h =
      ends_here (terms_of voice s) (course_of memory n s) s.left [] seat before after held held (Broken PeerClosed) h.carried refl (record { next = k; unfinished = came_nothing IsUnfinished s.left h.unfinished }, refl, h.cause)
  ends_by_read voice s t memory n seat before after held LinkFault k h =
      ends_here (terms_of voice s) (course_of memory n s) s.left [] seat before after held held (Broken LinkFault) h.carried refl (inl (record { next = k; unfinished = came_nothing IsUnfinished s.left h.unfinished }, refl), h.cause)
  ends_by_read voice s t memory n seat before after held (Garbage place why) k h =
      let found = h.2 in
      ends_here (terms_of voice s) (course_of memory n s) s.left h.0 seat before after held held (Broken (Garbage place why)) h.1 refl
      (record { next = k; garbage = garbage_at (record { side = s.side; times = s.times; left = s.left ++ h.0; place = s.place; watch = s.watch; unanswered = s.unanswered }) t place why found.side found.left found.place_is found.unanswered found.garbage }, refl)
  ends_by_read voice s t memory n seat before after held (Silent heard now) k h =
      let w : Watch = watch_at Idle h.0 s.watch in
      let parts = silent_at s.times (beats_on s.side) w heard now (nat_le (w.heard + s.times.silence) w.latest) h.1.silent in
      let quiet : after_tick (tick_at s.side s.times w) w ≡ w = ap (λ x. after_tick x w) h.1.silent in
      record {
        moves = Read Idle h.0 ∷ [];
        rest = s.left;
        lost = nothing;
        made = record {
          talk = ((k, tt, refl), tt);
          taken = [];
          put = [];
          said = [];
          carried = h.2.carried;
          told = append_known-nil held;
          read = append-nil s.left;
          wrote = refl;
          lines = refl;
          turns = refl;
        };
        cause = (
          record {
            unfinished = h.2.unfinished;
            at = h.0;
            idle = ([], refl);
            heard_is = parts.1 ∙ sym (ap (λ x. x.heard) quiet);
            now_is = parts.2 ∙ sym (ap (λ x. x.latest) quiet);
            silent = let late = leb-true (w.heard + s.times.silence) w.latest parts.0 in omega (arith, late, parts.1, parts.2);
          },
          refl,
          h.2.cause,
        );
      }
  ends_by_read voice s t memory n seat before after held NoMemory k h = ends_here (terms_of voice s) (course_of memory n s) s.left h.0 seat before after held held (Broken NoMemory) h.1 refl refl
  ends_by_read voice s t memory n seat before after held SinkFault k h = absurd h

-- a whole line
pub whole_line : (before after : Option (List ℕ)) (bytes line : List ℕ) → bytes ≡ line → after ≡ append_known before bytes → after ≡ append_known before line
whole_line before after bytes line same e = e ∙ ap (append_known before) same

module _ {A E : Type 0} where
  pub says_speech : (terms : Terms) (n : Next A E) (speech : Speech) (moment at : ℕ) (payload : List ℕ) → n ≡ next.Say speech → at ≡ moment → IsSpelled terms.voice speech moment payload → Says terms n at payload
  says_speech terms n speech moment at payload k e spelled = subst (λ (x : Next A E). Says terms x at payload) (sym k) (subst (λ (m : ℕ). IsSpelled terms.voice speech m payload) (sym e) spelled)

  pub says_packet : (terms : Terms) (n : Next A E) (identifier packet : List ℕ) (at : ℕ) → n ≡ next.Send identifier packet → Says terms n at packet
  says_packet terms n identifier packet at k = subst (λ (x : Next A E). Says terms x at packet) (sym k) refl

  -- a message that needs no answer
  pub waits_no_more : (n : Next A E) (speech : Speech) (s : SessionState) → n ≡ next.Say speech → s ≡ record s { unanswered = waiting n s.unanswered }
  waits_no_more n speech s k = ap (λ x. record s { unanswered = waiting x s.unanswered }) (sym k)

  -- a packet that waits for its answer
  pub waits_more : (n : Next A E) (identifier packet : List ℕ) (s t : SessionState) → n ≡ next.Send identifier packet → t ≡ record s { unanswered = s.unanswered ++ identifier ∷ [] } → t ≡ record s { unanswered = waiting n s.unanswered }
  waits_more n identifier packet s t k e = e ∙ ap (λ x. record s { unanswered = waiting x s.unanswered }) (sym k)
