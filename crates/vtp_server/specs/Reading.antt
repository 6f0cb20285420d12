-- One read of a connection.
use Rattle.std.specs.Prelude.{◌≡◌, ℕ, ◌≤◌, List, [], ◌++◌, false, length, take}
use Rattle.voe_outside.specs.Causes.{Rose}
use Rattle.vtp_framing.specs.Frames.{frames}
use Rattle.vtp_session.specs.Acts.{after_answer}
use Rattle.vtp_session.specs.State.{SessionState, MeetsGarbage}
use Rattle.vtp_session.specs.Watch.{after_tick, is_beat}
use Rattle.vtp_session.specs.declared.act.GarbageFault.{GarbageFault}
use Rattle.vtp_session.specs.declared.side.Tick.TheVariants as tick
use Rattle.vtp_server.specs.declared.breach.Breach.{Breach}
use Rattle.vtp_server.specs.declared.breach.Breach.TheVariants.{PeerClosed, Garbage, Silent, LinkFault, SinkFault, NoMemory}
use Rattle.vtp_server.specs.declared.reading.Seen.{Seen}
use Rattle.vtp_server.specs.declared.reading.Fetched.{Fetched}
use Rattle.vtp_server.specs.declared.reading.Fetched.TheVariants as fetched
use Rattle.vtp_server.specs.declared.speech.Voice.{Voice}
use Rattle.vtp_server.specs.Counts.{LinkCounts}
use Rattle.vtp_server.specs.Moves.{Found, Idle, act_in, heard_in, place_behind}
use Rattle.vtp_server.specs.Talk.{IsFound, Terms, silences, tick_at, watch_at}

abbrev pub terms_of : Voice → SessionState → Terms
terms_of voice s = record { side = s.side; times = s.times; voice = voice }

-- the session behind a read
pub record HeardAt (s : SessionState) (found : Found) (now : ℕ) (t : SessionState) : Type 0 where
  pub side : t.side ≡ s.side
  pub times : t.times ≡ s.times
  pub place : t.place ≡ place_behind found s.place
  pub watch : t.watch ≡ after_tick (tick_at s.side s.times (watch_at found now s.watch)) (watch_at found now s.watch)

-- what was seen is what the session makes of these bytes at this moment
pub record Hearing (s : SessionState) (piece : List ℕ) (now : ℕ) (found : Found) (seen : Seen) (t : SessionState) : Type 0 where
  pub is_found : IsFound s.side s.place s.unanswered found
  pub parts : s.left ++ piece ≡ frames (heard_in found) ++ t.left
  pub act : seen.act ≡ act_in found
  pub unanswered : t.unanswered ≡ after_answer (act_in found) s.unanswered
  pub moment : seen.moment ≡ now
  pub beat : seen.is_beat_due ≡ is_beat (tick_at s.side s.times (watch_at found now s.watch))
  pub goes_on : silences found (tick_at s.side s.times (watch_at found now s.watch)) ≡ false
  pub after : HeardAt s found now t

-- the next message is garbage
pub record FindsGarbage (s : SessionState) (piece : List ℕ) (place : ℕ) (why : GarbageFault) (t : SessionState) : Type 0 where
  pub left : t.left ≡ s.left ++ piece
  pub side : t.side ≡ s.side
  pub place_is : t.place ≡ s.place
  pub unanswered : t.unanswered ≡ s.unanswered
  pub garbage : MeetsGarbage t place why

-- nothing was heard for too long
pub record FindsSilence (s : SessionState) (now : ℕ) (heard moment : ℕ) (t : SessionState) : Type 0 where
  pub left : t.left ≡ s.left
  pub after : HeardAt s Idle now t
  pub silent : tick_at s.side s.times (watch_at Idle now s.watch) ≡ tick.Silent heard moment

-- the bytes that came
abbrev pub piece_of : Fetched → List ℕ → List ℕ
piece_of (fetched.Piece count) buf = take count buf
piece_of fetched.Idle buf = []

abbrev pub FitsBuf : Fetched → List ℕ → Type 0
FitsBuf (fetched.Piece count) buf = count ≤ length buf
FitsBuf fetched.Idle buf = Unit {0}

-- a link is idle only where this holds
abbrev pub OnIdle : Fetched → Type 0 → Type 0
OnIdle (fetched.Piece count) P = Unit {0}
OnIdle fetched.Idle P = P

-- why no bytes could be fetched
abbrev pub FetchEnds : Breach → LinkCounts → LinkCounts → Type 0
FetchEnds PeerClosed before after = Rose before.ends after.ends
FetchEnds LinkFault before after = Rose before.faults after.faults
FetchEnds _ before after = ⊥

abbrev pub HearingEnds : Breach → SessionState → List ℕ → SessionState → Type 0
HearingEnds (Garbage place why) s piece t = FindsGarbage s piece place why t
HearingEnds NoMemory s piece t = Unit {0}
HearingEnds _ s piece t = ⊥

abbrev pub SilenceEnds : Breach → SessionState → ℕ → SessionState → Type 0
SilenceEnds (Silent heard moment) s now t = FindsSilence s now heard moment t
SilenceEnds _ s now t = ⊥
