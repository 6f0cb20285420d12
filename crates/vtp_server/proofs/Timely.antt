-- The moments of a session over a read.
use Rattle.std.proofs.Common.{◌≡◌, ◌≤◌, ◌+◌, ℕ, Bool, true, false, cond, nat_le, sym, refl, subst, arith, IfOk, List, []}
use Rattle.std.specs.declared.result.Result.{Result}
use Rattle.vtp_session.specs.State.{SessionState}
use Rattle.vtp_session.specs.Watch.{Times, Watch, tick_of, after_tick, beats_on}
use Rattle.vtp_session.specs.declared.side.Tick.{Tick}
use Rattle.vtp_session.specs.declared.side.Tick.TheVariants as tick
use Rattle.vtp_server.specs.Moves.{Found, Message, Idle, Unfinished}
use Rattle.vtp_server.specs.Talk.{tick_at, watch_at}
use Rattle.vtp_server.specs.Reading.{Hearing, HeardAt, FindsSilence}
use Rattle.vtp_server.specs.InTime.{InTime, GoesOnInTime}
use Rattle.vtp_server.specs.declared.reading.Seen.{Seen}
use Rattle.vtp_server.specs.declared.breach.Breach.{Breach}
use Rattle.vtp_server.proofs.Heard.{if_ok_map}

silent_not : (times : Times) (w : Watch) (heard now : ℕ) (b : Bool) → cond b tick.Beat tick.Quiet ≡ tick.Silent heard now → (false ≡ true) × (heard ≡ w.heard) × (now ≡ w.latest)
silent_not times w heard now true e = absurd (cc)
silent_not times w heard now false e = absurd (cc)

-- a side whose tick is silence: its moments
pub silent_at : (times : Times) (beats : Bool) (w : Watch) (heard now : ℕ) (late : Bool) → cond late (tick.Silent w.heard w.latest) (cond beats (cond (nat_le (w.beaten + times.beat) w.latest) tick.Beat tick.Quiet) tick.Quiet) ≡ tick.Silent heard now → (late ≡ true) × (heard ≡ w.heard) × (now ≡ w.latest)
silent_at times beats w heard now true e = (refl, cc, cc)
silent_at times true w heard now false e = silent_not times w heard now (nat_le (w.beaten + times.beat) w.latest) e
silent_at times false w heard now false e = absurd (cc)

pub time_on : (w v u : Watch) (m n : ℕ) → GoesOnInTime w v m → GoesOnInTime v u n → GoesOnInTime w u n
time_on w v u m n a b = record { in_time = b.in_time; heard = omega (arith, a.heard, b.heard) }

watch_in_time : (found : Found) (w : Watch) (m now : ℕ) → InTime w m → m ≤ now → GoesOnInTime w (watch_at found now w) now
watch_in_time (Message payload a) w m now t h = record { in_time = record { heard = omega arith; latest = omega (arith, t.latest) }; heard = omega (arith, t.heard) }
watch_in_time Idle w m now t h = record { in_time = record { heard = omega (arith, t.heard); latest = omega (arith, t.latest) }; heard = omega arith }
watch_in_time Unfinished w m now t h = record { in_time = record { heard = omega (arith, t.heard); latest = omega (arith, t.latest) }; heard = omega arith }

ticked_in_time : (k : Tick) (w v : Watch) (now : ℕ) → GoesOnInTime w v now → GoesOnInTime w (after_tick k v) now
ticked_in_time (tick.Silent heard n) w v now g = g
ticked_in_time tick.Beat w v now g = record { in_time = record { heard = g.in_time.heard; latest = g.in_time.latest }; heard = g.heard }
ticked_in_time tick.Quiet w v now g = g

pub heard_in_time : (s t : SessionState) (found : Found) (m now : ℕ) → HeardAt s found now t → InTime s.watch m → m ≤ now → GoesOnInTime s.watch t.watch now
heard_in_time s t found m now h time later_ =
    subst (λ (w : Watch). GoesOnInTime s.watch w now) (sym h.watch) (ticked_in_time (tick_at s.side s.times (watch_at found now s.watch)) s.watch (watch_at found now s.watch) now (watch_in_time found s.watch m now time later_))

pub silence_in_time : (s t : SessionState) (m now heard moment : ℕ) → FindsSilence s now heard moment t → InTime s.watch m → m ≤ now → (s.watch.heard ≤ heard) × (moment ≡ now)
silence_in_time s t m now heard moment f time later_ =
    let w = watch_at Idle now s.watch in
    let parts = silent_at s.times (beats_on s.side) w heard moment (nat_le (w.heard + s.times.silence) w.latest) f.silent in
    (omega (arith, parts.1), omega (arith, parts.2, time.latest))

pub idle_time : (s t : SessionState) (m now moment : ℕ) (r : Result Seen Breach) → InTime s.watch m → m ≤ now → now ≡ moment → IfOk r (λ seen. Hearing s [] now Idle seen t) → IfOk r (λ seen. GoesOnInTime s.watch t.watch moment)
idle_time s t m now moment r time later_ e h =
    if_ok_map r (λ seen. Hearing s [] now Idle seen t) (λ seen. GoesOnInTime s.watch t.watch moment) (λ seen hearing. subst (λ (n : ℕ). GoesOnInTime s.watch t.watch n) e (heard_in_time s t Idle m now hearing.after time later_)) h

pub piece_time : (s t : SessionState) (piece : List ℕ) (m now moment : ℕ) (r : Result Seen Breach) → InTime s.watch m → m ≤ now → now ≡ moment → IfOk r (λ seen. (found : Found) × Hearing s piece now found seen t) → IfOk r (λ seen. GoesOnInTime s.watch t.watch moment)
piece_time s t piece m now moment r time later_ e h =
    if_ok_map r (λ seen. (found : Found) × Hearing s piece now found seen t) (λ seen. GoesOnInTime s.watch t.watch moment) (λ seen hearing. subst (λ (n : ℕ). GoesOnInTime s.watch t.watch n) e (heard_in_time s t hearing.0 m now hearing.1.after time later_)) h
