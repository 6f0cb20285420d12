-- The moves that a connection made, and why it ended.
use Rattle.std.specs.Prelude.{◌≡◌, ◌⊎◌, ℕ, ◌+◌, ◌≤◌, Bool, true, false, List, [], ◌∷◌, ◌++◌}
use Rattle.std.specs.declared.option.Option.{Option}
use Rattle.std.specs.Io.KnownBytes.{append_known}
use Rattle.voe_outside.specs.Causes.{Rose}
use Rattle.voe_outside.specs.Traffic.{Traffic}
use Rattle.vtp_framing.specs.Frames.{frames}
use Rattle.vtp_framing.specs.Front.{IsUnfinished}
use Rattle.vtp_session.specs.State.{SessionState, MeetsGarbage}
use Rattle.vtp_session.specs.declared.act.GarbageFault.{GarbageFault}
use Rattle.vtp_server.specs.declared.breach.Breach.{Breach}
use Rattle.vtp_server.specs.declared.breach.Breach.TheVariants.{PeerClosed, Garbage, Silent, LinkFault, SinkFault, NoMemory}
use Rattle.vtp_server.specs.declared.breach.Parted.{Parted}
use Rattle.vtp_server.specs.declared.breach.Parted.TheVariants.{Broken, Stopped}
use Rattle.vtp_server.specs.declared.side.Next.{Next}
use Rattle.vtp_server.specs.declared.side.Next.TheVariants as next
use Rattle.vtp_server.specs.Carried.{Carried}
use Rattle.vtp_server.specs.Counts.{Counts}
use Rattle.vtp_session.specs.declared.act.Act.{Act}
use Rattle.vtp_server.specs.Moves.{Move, Read, Turn, Write, Tell, Idle, messages_read, messages_written, lines_told}
use Rattle.vtp_server.specs.Talk.{Terms, Rules, Course, Talk, Leads, course_after, course_after_move}

-- where a connection stands: the bytes that were taken and not read, the seat, and what the link and the sink tell
pub record Standing (T : Type 0) : Type 0 where
  pub left : List ℕ
  pub seat : T
  pub traffic : Option Traffic
  pub held : Option (List ℕ)

-- the last bytes of a write or a line that failed in its midst
pub record Lost : Type 0 where
  pub link : List ℕ
  pub sink : List ℕ

abbrev pub nothing : Lost
nothing = record { link = []; sink = [] }

abbrev pub course_of : {S A E : Type 0} → S → Next A E → SessionState → Course S A E
course_of memory next s = record { memory = memory; next = next; watch = s.watch; place = s.place; unanswered = s.unanswered; is_silent = false }

abbrev pub standing_of : {T : Type 0} → SessionState → T → Option Traffic → Option (List ℕ) → Standing T
standing_of s seat traffic held = record { left = s.left; seat = seat; traffic = traffic; held = held }

-- These moves were made: they are a talk; the bytes taken are those of the messages that they read; the bytes put, and the
-- lines told, are theirs but for what was lost at the end; and their turns lead to the seat.
pub record Made {S A R E T : Type 0} (terms : Terms) (rules : Rules S A R E) (acts : T → A → R → ℕ → ℕ → T → Type 0) (c : Course S A E) (before : Standing T) (moves : List (Move A R)) (lost : Lost) (after : Standing T) : Type 0 where
  pub talk : Talk terms rules c moves
  pub taken : List ℕ
  pub put : List ℕ
  pub said : List ℕ
  pub carried : Carried before.traffic after.traffic taken put
  pub told : after.held ≡ append_known before.held said
  pub read : before.left ++ taken ≡ frames (messages_read moves) ++ after.left
  pub wrote : put ++ lost.link ≡ frames (messages_written moves)
  pub lines : said ++ lost.sink ≡ lines_told moves
  pub turns : Leads acts before.seat moves after.seat

abbrev pub EndsInWrite : {A R : Type 0} → List (Move A R) → Type 0
EndsInWrite moves = (others : List (Move _ _)) × (payload : List ℕ) × (moves ≡ others ++ Write payload ∷ [])

abbrev pub EndsInLine : {A R : Type 0} → List (Move A R) → Type 0
EndsInLine moves = (others : List (Move _ _)) × (line : List ℕ) × (moves ≡ others ++ Tell line ∷ [])

abbrev pub EndsInIdleRead : {A R : Type 0} → List (Move A R) → ℕ → Type 0
EndsInIdleRead moves now = (others : List (Move _ _)) × (moves ≡ others ++ Read Idle now ∷ [])

-- a read may come next, and the rest has no whole message
pub record HasReadAll {S A E : Type 0} (c : Course S A E) (rest : List ℕ) : Type 0 where
  pub next : c.next ≡ next.Read
  pub unfinished : IsUnfinished rest

-- the session of a talk
abbrev pub session_in : {S A E : Type 0} → Terms → Course S A E → List ℕ → SessionState
session_in terms c rest = record { side = terms.side; times = terms.times; left = rest; place = c.place; watch = c.watch; unanswered = c.unanswered }

-- a read may come next, and the rest goes on with garbage
pub record ReadsGarbage {S A E : Type 0} (terms : Terms) (c : Course S A E) (rest : List ℕ) (place : ℕ) (why : GarbageFault) : Type 0 where
  pub next : c.next ≡ next.Read
  pub garbage : MeetsGarbage (session_in terms c rest) place why

-- the last read found the link idle, and the peer was silent for too long
pub record MeetsSilence {S A R E : Type 0} (terms : Terms) (c : Course S A E) (moves : List (Move A R)) (rest : List ℕ) (heard now : ℕ) : Type 0 where
  pub unfinished : IsUnfinished rest
  pub at : ℕ
  pub idle : EndsInIdleRead moves at
  pub heard_is : heard ≡ c.watch.heard
  pub now_is : now ≡ c.watch.latest
  pub silent : heard + terms.times.silence ≤ now

-- why a talk could not go on
abbrev pub Breaks : {S A R E : Type 0} → Terms → Breach → Course S A E → List (Move A R) → List ℕ → Lost → Counts → Counts → Type 0
Breaks terms PeerClosed c moves rest lost old new = HasReadAll c rest × (lost ≡ nothing) × Rose old.link.ends new.link.ends
Breaks terms LinkFault c moves rest lost old new = ((HasReadAll c rest × (lost ≡ nothing)) ⊎ (EndsInWrite moves × (lost.sink ≡ []))) × Rose old.link.faults new.link.faults
Breaks terms SinkFault c moves rest lost old new = EndsInLine moves × (lost.link ≡ []) × Rose old.sink new.sink
Breaks terms (Garbage place why) c moves rest lost old new = ReadsGarbage terms c rest place why × (lost ≡ nothing)
Breaks terms (Silent heard now) c moves rest lost old new = MeetsSilence terms c moves rest heard now × (lost ≡ nothing) × Rose old.link.idles new.link.idles
Breaks terms NoMemory c moves rest lost old new = lost ≡ nothing

-- why a talk ended
abbrev pub EndsBy : {S A R E : Type 0} → Terms → Parted E → Course S A E → List (Move A R) → List ℕ → Lost → Counts → Counts → Type 0
EndsBy terms (Broken breach) c moves rest lost old new = Breaks terms breach c moves rest lost old new
EndsBy terms (Stopped stop) c moves rest lost old new = (c.next ≡ next.Over stop) × (lost ≡ nothing)

-- these moves were made, and the connection ended
pub record Ends {S A R E T : Type 0} (terms : Terms) (rules : Rules S A R E) (acts : T → A → R → ℕ → ℕ → T → Type 0) (c : Course S A E) (before : Standing T) (e : Parted E) (seat : T) (traffic : Option Traffic) (held : Option (List ℕ)) (old new : Counts) : Type 0 where
  pub moves : List (Move A R)
  pub rest : List ℕ
  pub lost : Lost
  pub made : Made terms rules acts c before moves lost (record { left = rest; seat = seat; traffic = traffic; held = held })
  pub cause : EndsBy terms e (course_after terms rules c moves) moves rest lost old new

-- this one move was made
pub record MakesOne {S A R E T : Type 0} (terms : Terms) (rules : Rules S A R E) (acts : T → A → R → ℕ → ℕ → T → Type 0) (c : Course S A E) (before : Standing T) (d : Course S A E) (after : Standing T) : Type 0 where
  pub move : Move A R
  pub made : Made terms rules acts c before (move ∷ []) nothing after
  pub course : d ≡ course_after_move terms rules c move

-- ---- rules

abbrev pub is_over : {A E : Type 0} → Next A E → Bool
is_over (next.Over stop) = true
is_over next.Read = false
is_over (next.Ask ask) = false
is_over (next.Say speech) = false
is_over (next.Send identifier packet) = false
is_over (next.Tell line) = false

abbrev pub is_tell : {A E : Type 0} → Next A E → Bool
is_tell (next.Tell line) = true
is_tell next.Read = false
is_tell (next.Ask ask) = false
is_tell (next.Say speech) = false
is_tell (next.Send identifier packet) = false
is_tell (next.Over stop) = false

-- a side that stops only after a turn
pub record StopsByTurns {S A R E : Type 0} (rules : Rules S A R E) : Type 0 where
  pub read : (m : S) (a : Act) (beat : Bool) (waits : ℕ) → is_over (rules.after_read m a beat waits).1 ≡ false
  pub write : (m : S) (waits : ℕ) → is_over (rules.after_write m waits).1 ≡ false
  pub line : (m : S) (waits : ℕ) → is_over (rules.after_line m waits).1 ≡ false

-- a side that tells no lines
pub record TellsNothing {S A R E : Type 0} (rules : Rules S A R E) : Type 0 where
  pub read : (m : S) (a : Act) (beat : Bool) (waits : ℕ) → is_tell (rules.after_read m a beat waits).1 ≡ false
  pub turn : (m : S) (reply : R) (front waits : ℕ) → is_tell (rules.after_turn m reply front waits).1 ≡ false
  pub write : (m : S) (waits : ℕ) → is_tell (rules.after_write m waits).1 ≡ false
  pub line : (m : S) (waits : ℕ) → is_tell (rules.after_line m waits).1 ≡ false

-- the last move is a turn after whose reply the side stops so
pub record EndsInTurn {S A R E : Type 0} (rules : Rules S A R E) (moves : List (Move A R)) (stop : E) : Type 0 where
  pub others : List (Move A R)
  pub asked : A
  pub reply : R
  pub place : ℕ
  pub front : ℕ
  pub moves_are : moves ≡ others ++ Turn asked reply place front ∷ []
  pub memory : S
  pub waits : ℕ
  pub stops : (rules.after_turn memory reply front waits).1 ≡ next.Over stop
