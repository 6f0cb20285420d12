-- Which move of a talk may come, and with which content.
use Rattle.std.specs.Prelude.{◌≡◌, ℕ, Bool, true, false, List, [], ◌∷◌, ◌++◌, length}
use Rattle.vtp_framing.specs.Frames.{FitsFrame}
use Rattle.vtp_session.specs.Acts.{Means, after_answer, is_garbage}
use Rattle.vtp_session.specs.Watch.{Watch, Times, after_tick, beats_on, hears, is_beat, later, tick_of}
use Rattle.vtp_session.specs.declared.act.Act.{Act}
use Rattle.vtp_session.specs.declared.side.Side.{Side}
use Rattle.vtp_session.specs.declared.side.Tick.{Tick}
use Rattle.vtp_session.specs.declared.side.Tick.TheVariants as tick
use Rattle.vtp_server.specs.Moves.{Found, Message, Idle, Unfinished, Move, Read, Turn, Write, Tell, act_in, place_behind}
use Rattle.vtp_server.specs.Speech.{IsSpelled}
use Rattle.vtp_server.specs.declared.side.Next.{Next}
use Rattle.vtp_server.specs.declared.side.Next.TheVariants as next
use Rattle.vtp_server.specs.declared.speech.Voice.{Voice}

-- What a side does: its memory and the next move after what a read found (and whether a beat is due), after a reply (and how
-- many records there are then), after a message was written, and after a line was told. Last comes how many packets wait for
-- an answer.
pub record Rules (S A R E : Type 0) : Type 0 where
  pub after_read : S → Act → Bool → ℕ → S × Next A E
  pub after_turn : S → R → ℕ → ℕ → S × Next A E
  pub after_write : S → ℕ → S × Next A E
  pub after_line : S → ℕ → S × Next A E

-- which side it is, its timers, and who speaks
pub record Terms : Type 0 where
  pub side : Side
  pub times : Times
  pub voice : Voice

-- What a talk carries: the side's memory, the move that comes next, the session's moments, the place in the stream that comes,
-- and the unanswered identifiers.
pub record Course (S A E : Type 0) : Type 0 where
  pub memory : S
  pub next : Next A E
  pub watch : Watch
  pub place : ℕ
  pub unanswered : List (List ℕ)
  -- whether the peer was silent for too long
  pub is_silent : Bool

-- the peer was silent for too long where the link was idle and the tick says so
abbrev pub silences : Found → Tick → Bool
silences Idle (tick.Silent heard now) = true
silences _ _ = false

-- the session gets the moment of the read, and a message is heard at it
abbrev pub watch_at : Found → ℕ → Watch → Watch
watch_at (Message payload act) t w = hears (later t w)
watch_at Idle t w = later t w
watch_at Unfinished t w = later t w

abbrev pub tick_at : Side → Times → Watch → Tick
tick_at side times w = tick_of times (beats_on side) w

-- a packet that is sent waits for its answer
abbrev pub waiting : {A E : Type 0} → Next A E → List (List ℕ) → List (List ℕ)
waiting (next.Send identifier packet) unanswered = unanswered ++ identifier ∷ []
waiting _ unanswered = unanswered

-- what the talk carries after a move
abbrev pub course_after_move : {S A R E : Type 0} → Terms → Rules S A R E → Course S A E → Move A R → Course S A E
course_after_move terms rules c (Read found t) =
    let w : Watch = watch_at found t c.watch in
    let unanswered : List (List ℕ) = after_answer (act_in found) c.unanswered in
    let gave = rules.after_read c.memory (act_in found) (is_beat (tick_at terms.side terms.times w)) (length unanswered) in
    record {
      memory = gave.0;
      next = gave.1;
      watch = after_tick (tick_at terms.side terms.times w) w;
      place = place_behind found c.place;
      unanswered = unanswered;
      is_silent = silences found (tick_at terms.side terms.times w);
    }
course_after_move terms rules c (Turn ask reply place front) =
    let gave = rules.after_turn c.memory reply front (length c.unanswered) in
    record {
      memory = gave.0;
      next = gave.1;
      watch = c.watch;
      place = c.place;
      unanswered = c.unanswered;
      is_silent = c.is_silent;
    }
course_after_move terms rules c (Write payload) =
    let unanswered : List (List ℕ) = waiting c.next c.unanswered in
    let gave = rules.after_write c.memory (length unanswered) in
    record {
      memory = gave.0;
      next = gave.1;
      watch = c.watch;
      place = c.place;
      unanswered = unanswered;
      is_silent = c.is_silent;
    }
course_after_move terms rules c (Tell line) =
    let gave = rules.after_line c.memory (length c.unanswered) in
    record {
      memory = gave.0;
      next = gave.1;
      watch = c.watch;
      place = c.place;
      unanswered = c.unanswered;
      is_silent = c.is_silent;
    }

-- What a read may find: a message is what the definitions say that it is to the side, and is not garbage.
pub record IsHeard (side : Side) (place : ℕ) (unanswered : List (List ℕ)) (payload : List ℕ) (act : Act) : Type 0 where
  pub fits : FitsFrame payload
  pub means : Means side place payload unanswered act
  pub sound : is_garbage act ≡ false

abbrev pub IsFound : Side → ℕ → List (List ℕ) → Found → Type 0
IsFound side place unanswered (Message payload act) = IsHeard side place unanswered payload act
IsFound side place unanswered Idle = Unit {0}
IsFound side place unanswered Unfinished = Unit {0}

-- What the next move writes: a message as the voice says it at the moment that the clock answered last, or the packet.
abbrev pub Says : {A E : Type 0} → Terms → Next A E → ℕ → List ℕ → Type 0
Says terms (next.Say speech) moment payload = IsSpelled terms.voice speech moment payload
Says terms (next.Send identifier packet) moment payload = payload ≡ packet
Says terms _ moment payload = ⊥

-- which move may come
abbrev pub MayCome : {S A R E : Type 0} → Terms → Course S A E → Move A R → Type 0
MayCome terms c (Read found t) = (c.next ≡ next.Read) × IsFound terms.side c.place c.unanswered found × (c.is_silent ≡ false)
MayCome terms c (Turn ask reply place front) = (c.next ≡ next.Ask ask) × (c.is_silent ≡ false)
MayCome terms c (Write payload) = Says terms c.next c.watch.latest payload × (c.is_silent ≡ false)
MayCome terms c (Tell line) = (c.next ≡ next.Tell line) × (c.is_silent ≡ false)

-- each move may come where it comes
abbrev pub Talk : {S A R E : Type 0} → Terms → Rules S A R E → Course S A E → List (Move A R) → Type 0
Talk terms rules c [] = Unit {0}
Talk terms rules c (m ∷ ms) = MayCome terms c m × Talk terms rules (course_after_move terms rules c m) ms

-- what the talk carries in the end
abbrev pub course_after : {S A R E : Type 0} → Terms → Rules S A R E → Course S A E → List (Move A R) → Course S A E
course_after terms rules c [] = c
course_after terms rules c (m ∷ ms) = course_after terms rules (course_after_move terms rules c m) ms

-- the turns lead from one seat to another
abbrev pub Leads : {A R T : Type 0} → (T → A → R → ℕ → ℕ → T → Type 0) → T → List (Move A R) → T → Type 0
Leads acts before [] after = after ≡ before
Leads acts before (Turn ask reply place front ∷ ms) after = (mid : _) × acts before ask reply place front mid × Leads acts mid ms after
Leads acts before (Read found t ∷ ms) after = Leads acts before ms after
Leads acts before (Write payload ∷ ms) after = Leads acts before ms after
Leads acts before (Tell line ∷ ms) after = Leads acts before ms after
